-- Where a course ends.
use Rattle.std.proofs.Common.{◌≡◌, ℕ, Option, Some, None, refl, subst}
use Rattle.nf_base.specs.declared.done.Action.{Action}
use Rattle.nf_base.specs.Text.{Ending, FallsOff, Flood, Discard, Forward, Creation, Block, End, Do, Ask, Make}
use Rattle.nf_base.specs.Statements.{Statement, Ends}
use Rattle.nf_base.specs.Context.{Context, Input}
use Rattle.nf_base.specs.Operations.{Stops, NewResult, Made, Taken, Full, Illegal, Stopped, new_result, with_new, answer, after}
use Rattle.nf_base.specs.Course.{Completion, Normal, Ended, NoStep, StoppedAt, and_then, if_hit, if_new, exec}
use Rattle.nf_laws.specs.Courses.{Comes, to_end, behind_do, into_hit, into_miss, behind_hit, behind_miss, into_made, into_taken, into_full, behind_made, behind_taken, behind_full, CoursesEndWhereTheyCome, CoursesFallOffAtAnEnd}

-- an end that ends a course so
record EndsBy (stops : Stops) (p : Input) (ok : Statement → Context → Type 0) (a : Action) (d : Context) : Type 0 where
  pub ending : Ending
  pub among : ok (Ends ending) d
  pub ends : exec stops p (End ending) d ≡ Ended a d

abbrev Ending_ : Stops → Input → (Statement → Context → Type 0) → Completion → Type 0
Ending_ stops p ok (Normal c) = ok (Ends FallsOff) c
Ending_ stops p ok (Ended a c) = EndsBy stops p ok a c
Ending_ stops p ok NoStep = Unit {0}
Ending_ stops p ok (StoppedAt chain left) = Unit {0}

-- a branch and what follows it
branch_ends : (stops : Stops) (p : Input) (ok : Statement → Context → Type 0) (w : Completion) (go : Context → Completion) → Ending_ stops p ok w → ((d : Context) → w ≡ Normal d → Ending_ stops p ok (go d)) → Ending_ stops p ok (and_then w go)
branch_ends stops p ok (Normal c) go h next = next c refl
branch_ends stops p ok (Ended a c) go h next = h
branch_ends stops p ok NoStep go h next = tt
branch_ends stops p ok (StoppedAt chain left) go h next = tt

hit_ends : (stops : Stops) (p : Input) (ok : Statement → Context → Type 0) (o : Option Context) (f : Context → Completion) (x : Completion) (go : Context → Completion) →
    ((b : Context) → o ≡ Some b → Ending_ stops p ok (and_then (f b) go)) → (o ≡ None → Ending_ stops p ok (and_then x go)) → Ending_ stops p ok (and_then (if_hit o f x) go)
hit_ends stops p ok (Some b) f x go h m = h b refl
hit_ends stops p ok None f x go h m = m refl

new_ends : (stops : Stops) (p : Input) (ok : Statement → Context → Type 0) (c : Context) (n : Creation) (to : NewResult) (f : ℕ → Completion) (x y : Completion) (go : Context → Completion) →
    ((i : ℕ) → to ≡ Made i → Ending_ stops p ok (and_then (f i) go)) → (to ≡ Taken → Ending_ stops p ok (and_then x go)) → (to ≡ Full → Ending_ stops p ok (and_then y go)) → Ending_ stops p ok (and_then (if_new to f x y NoStep (StoppedAt n.chain c.left)) go)
new_ends stops p ok c n (Made i) f x y go m t u = m i refl
new_ends stops p ok c n Taken f x y go m t u = t refl
new_ends stops p ok c n Full f x y go m t u = u refl
new_ends stops p ok c n Illegal f x y go m t u = tt
new_ends stops p ok c n Stopped f x y go m t u = tt

exec_ends : (stops : Stops) (p : Input) (ok : Statement → Context → Type 0) (b : Block) (c : Context) → ((s : Statement) (d : Context) → Comes stops p b c s d → ok s d) → Ending_ stops p ok (exec stops p b c)
exec_ends stops p ok (End FallsOff) c among = among (Ends FallsOff) c (to_end FallsOff c)
exec_ends stops p ok (End Flood) c among = record { ending = Flood; among = among (Ends Flood) c (to_end Flood c); ends = refl }
exec_ends stops p ok (End Discard) c among = record { ending = Discard; among = among (Ends Discard) c (to_end Discard c); ends = refl }
exec_ends stops p ok (End (Forward port)) c among = record { ending = Forward port; among = among (Ends (Forward port)) c (to_end (Forward port) c); ends = refl }
exec_ends stops p ok (Do op next) c among = exec_ends stops p ok next (after p c op) (λ s d i. among s d (behind_do op next c s d i))
exec_ends stops p ok (Ask q hit miss next) c among =
    hit_ends stops p ok (answer p c q) (exec stops p hit) (exec stops p miss c) (exec stops p next)
    (λ b a. branch_ends stops p ok (exec stops p hit b) (exec stops p next) (exec_ends stops p ok hit b (λ s d i. among s d (into_hit q hit miss next c b s d a i)))
    (λ x w. exec_ends stops p ok next x (λ s d i. among s d (behind_hit q hit miss next c b x s d a w i))))
    (λ a. branch_ends stops p ok (exec stops p miss c) (exec stops p next) (exec_ends stops p ok miss c (λ s d i. among s d (into_miss q hit miss next c s d a i)))
    (λ x w. exec_ends stops p ok next x (λ s d i. among s d (behind_miss q hit miss next c x s d a w i))))
exec_ends stops p ok (Make n made taken full next) c among =
    new_ends stops p ok c n (new_result stops p c n) (λ i. exec stops p made (with_new p c n i)) (exec stops p taken c) (exec stops p full c) (exec stops p next)
    (λ i a. branch_ends stops p ok (exec stops p made (with_new p c n i)) (exec stops p next) (exec_ends stops p ok made (with_new p c n i) (λ s d j. among s d (into_made n made taken full next c i s d a j)))
    (λ x w. exec_ends stops p ok next x (λ s d j. among s d (behind_made n made taken full next c i x s d a w j))))
    (λ a. branch_ends stops p ok (exec stops p taken c) (exec stops p next) (exec_ends stops p ok taken c (λ s d j. among s d (into_taken n made taken full next c s d a j)))
    (λ x w. exec_ends stops p ok next x (λ s d j. among s d (behind_taken n made taken full next c x s d a w j))))
    (λ a. branch_ends stops p ok (exec stops p full c) (exec stops p next) (exec_ends stops p ok full c (λ s d j. among s d (into_full n made taken full next c s d a j)))
    (λ x w. exec_ends stops p ok next x (λ s d j. among s d (behind_full n made taken full next c x s d a w j))))

pub end_where : CoursesEndWhereTheyCome
end_where stops p block c a d e =
    let ok = λ (s : Statement) (x : Context). Comes stops p block c s x in
    let w : EndsBy stops p ok a d = subst (Ending_ stops p ok) e (exec_ends stops p ok block c (λ s x i. i)) in
    record { ending = w.ending; comes = w.among; ends = w.ends }

pub fall_off : CoursesFallOffAtAnEnd
fall_off stops p block c d e = subst (Ending_ stops p (λ s x. Comes stops p block c s x)) e (exec_ends stops p (λ s x. Comes stops p block c s x) block c (λ s x i. i))
