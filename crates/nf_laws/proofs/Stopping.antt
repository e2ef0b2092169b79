-- Where a share stops.
use Rattle.std.proofs.Common.{◌≡◌, ℕ, nat_lt, List, Option, Some, None, refl, subst}
use Rattle.std.proofs.lemmas.Bool.{and_parts, ltb-true}
use Rattle.nf_base.specs.Text.{FallsOff, Flood, Discard, Forward, Creation, Block, End, Do, Ask, Make}
use Rattle.nf_base.specs.Statements.{Statement, Makes}
use Rattle.nf_base.specs.Chains.{chain_at}
use Rattle.nf_base.specs.Context.{Context, Input}
use Rattle.nf_base.specs.Operations.{Stops, NewResult, Made, Taken, Full, Illegal, Stopped, new_result, with_new, answer, after}
use Rattle.nf_base.specs.Course.{Completion, Normal, Ended, NoStep, StoppedAt, and_then, if_hit, if_new, exec}
use Rattle.nf_base.specs.Shares.{owns, none_vacant, share_stops}
use Rattle.nf_laws.specs.Courses.{Comes, to_make, behind_do, into_hit, into_miss, behind_hit, behind_miss, into_made, into_taken, into_full, behind_made, behind_taken, behind_full}
use Rattle.nf_laws.specs.Shares.{SharesStopAtNews}
use Rattle.nf_laws.proofs.Answered.{news_answer}
use Rattle.nf_laws.proofs.Owned.{none_vacant_is}

-- a `new` that stops, in a context of some kind with these choices left
record StopsBy (stops : Stops) (p : Input) (ok : Statement → Context → Type 0) (chain : ℕ) (left : List ℕ) : Type 0 where
  pub creation : Creation
  pub context : Context
  pub among : ok (Makes creation) context
  pub on : creation.chain ≡ chain
  pub left_over : context.left ≡ left
  pub stopped : new_result stops p context creation ≡ Stopped

abbrev Stopping : Stops → Input → (Statement → Context → Type 0) → Completion → Type 0
Stopping stops p ok (Normal c) = Unit {0}
Stopping stops p ok (Ended a c) = Unit {0}
Stopping stops p ok NoStep = Unit {0}
Stopping stops p ok (StoppedAt chain left) = StopsBy stops p ok chain left

-- a branch and what follows it
branch_stops : (stops : Stops) (p : Input) (ok : Statement → Context → Type 0) (w : Completion) (go : Context → Completion) → Stopping stops p ok w → ((d : Context) → w ≡ Normal d → Stopping stops p ok (go d)) → Stopping stops p ok (and_then w go)
branch_stops stops p ok (Normal c) go h next = next c refl
branch_stops stops p ok (Ended a c) go h next = tt
branch_stops stops p ok NoStep go h next = tt
branch_stops stops p ok (StoppedAt chain left) go h next = h

hit_stops : (stops : Stops) (p : Input) (ok : Statement → Context → Type 0) (o : Option Context) (f : Context → Completion) (x : Completion) (go : Context → Completion) →
    ((b : Context) → o ≡ Some b → Stopping stops p ok (and_then (f b) go)) → (o ≡ None → Stopping stops p ok (and_then x go)) → Stopping stops p ok (and_then (if_hit o f x) go)
hit_stops stops p ok (Some b) f x go h m = h b refl
hit_stops stops p ok None f x go h m = m refl

new_stops : (stops : Stops) (p : Input) (ok : Statement → Context → Type 0) (c : Context) (n : Creation) (to : NewResult) (f : ℕ → Completion) (x y : Completion) (go : Context → Completion) → new_result stops p c n ≡ to → ok (Makes n) c →
    ((i : ℕ) → to ≡ Made i → Stopping stops p ok (and_then (f i) go)) → (to ≡ Taken → Stopping stops p ok (and_then x go)) → (to ≡ Full → Stopping stops p ok (and_then y go)) → Stopping stops p ok (and_then (if_new to f x y NoStep (StoppedAt n.chain c.left)) go)
new_stops stops p ok c n (Made i) f x y go e o m t u = m i refl
new_stops stops p ok c n Taken f x y go e o m t u = t refl
new_stops stops p ok c n Full f x y go e o m t u = u refl
new_stops stops p ok c n Illegal f x y go e o m t u = tt
new_stops stops p ok c n Stopped f x y go e o m t u = record { creation = n; context = c; among = o; on = refl; left_over = refl; stopped = e }

exec_stops : (stops : Stops) (p : Input) (ok : Statement → Context → Type 0) (b : Block) (c : Context) → ((s : Statement) (d : Context) → Comes stops p b c s d → ok s d) → Stopping stops p ok (exec stops p b c)
exec_stops stops p ok (End FallsOff) c among = tt
exec_stops stops p ok (End Flood) c among = tt
exec_stops stops p ok (End Discard) c among = tt
exec_stops stops p ok (End (Forward port)) c among = tt
exec_stops stops p ok (Do op next) c among = exec_stops stops p ok next (after p c op) (λ s d i. among s d (behind_do op next c s d i))
exec_stops stops p ok (Ask q hit miss next) c among =
    hit_stops stops p ok (answer p c q) (exec stops p hit) (exec stops p miss c) (exec stops p next)
    (λ b a. branch_stops stops p ok (exec stops p hit b) (exec stops p next) (exec_stops stops p ok hit b (λ s d i. among s d (into_hit q hit miss next c b s d a i)))
    (λ x w. exec_stops stops p ok next x (λ s d i. among s d (behind_hit q hit miss next c b x s d a w i))))
    (λ a. branch_stops stops p ok (exec stops p miss c) (exec stops p next) (exec_stops stops p ok miss c (λ s d i. among s d (into_miss q hit miss next c s d a i)))
    (λ x w. exec_stops stops p ok next x (λ s d i. among s d (behind_miss q hit miss next c x s d a w i))))
exec_stops stops p ok (Make n made taken full next) c among =
    new_stops stops p ok c n (new_result stops p c n) (λ i. exec stops p made (with_new p c n i)) (exec stops p taken c) (exec stops p full c) (exec stops p next) refl (among (Makes n) c (to_make n made taken full next c))
    (λ i a. branch_stops stops p ok (exec stops p made (with_new p c n i)) (exec stops p next) (exec_stops stops p ok made (with_new p c n i) (λ s d j. among s d (into_made n made taken full next c i s d a j)))
    (λ x w. exec_stops stops p ok next x (λ s d j. among s d (behind_made n made taken full next c i x s d a w j))))
    (λ a. branch_stops stops p ok (exec stops p taken c) (exec stops p next) (exec_stops stops p ok taken c (λ s d j. among s d (into_taken n made taken full next c s d a j)))
    (λ x w. exec_stops stops p ok next x (λ s d j. among s d (behind_taken n made taken full next c x s d a w j))))
    (λ a. branch_stops stops p ok (exec stops p full c) (exec stops p next) (exec_stops stops p ok full c (λ s d j. among s d (into_full n made taken full next c s d a j)))
    (λ x w. exec_stops stops p ok next x (λ s d j. among s d (behind_full n made taken full next c x s d a w j))))

pub shares_stop : SharesStopAtNews
shares_stop share p block c chain left e =
    let stops = share_stops share in
    let ok = λ (s : Statement) (d : Context). Comes stops p block c s d in
    let w : StopsBy stops p ok chain left = subst (Stopping stops p ok) e (exec_stops stops p ok block c (λ s d i. i)) in
    let said = ((news_answer stops p w.context w.creation).stopped).0 w.stopped in
    let slots = (chain_at w.context.state.chains w.creation.chain).slots in
    let parts = and_parts (nat_lt 1 share.of) (none_vacant (owns share) slots) said.1 in
    record {
      creation = w.creation;
      context = w.context;
      comes = w.among;
      on = w.on;
      left_over = w.left_over;
      several = ltb-true 1 share.of parts.0;
      unbound = said.0;
      none_vacant = (none_vacant_is (owns share) slots).0 parts.1;
    }
