-- Exactly what the statements that a course comes to do stands in its record.
use Rattle.std.proofs.Common.{◌≡◌, ℕ, List, [], ◌++◌, Contains, Option, Some, None, refl, ap, ◌∙◌, inl, inr}
use Rattle.nf_base.specs.Text.{FallsOff, Flood, Discard, Forward, Block, End, Do, Ask, Make}
use Rattle.nf_base.specs.Statements.{Statement, Ends, Does, Asks, Makes, statements}
use Rattle.nf_base.specs.Context.{Context, Input}
use Rattle.nf_base.specs.Operations.{Stops, NewResult, Made, Taken, Full, Illegal, Stopped, new_result, with_new, answer, after}
use Rattle.nf_base.specs.Events.{Event}
use Rattle.nf_base.specs.Course.{Completion, Normal, NoStep, StoppedAt, and_then, if_hit, if_new, exec, events}
use Rattle.nf_laws.specs.Courses.{Comes, to_end, to_do, to_ask, to_make, behind_do, into_hit, into_miss, behind_hit, behind_miss, into_made, into_taken, into_full, behind_made, behind_taken, behind_full, CoursesAreOfTheText}
use Rattle.nf_laws.specs.Telling.{Tells, ends, does, asks, NothingElseIsTold}
use Rattle.nf_laws.proofs.Listed.{here, has_none}
use Rattle.nf_laws.proofs.Told.{from_reads, from_did, from_asked, from_new}
use Rattle.nf_laws.proofs.Within.{in_next, in_hit, in_miss, after_ask, in_made, in_taken, in_full, after_make}

pub courses_of_text : CoursesAreOfTheText
courses_of_text stops p block c s d (to_end e b) = here (Ends e) []
courses_of_text stops p block c s d (to_do op next b) = here (Does op) (statements next)
courses_of_text stops p block c s d (to_ask q hit miss next b) = here (Asks q) (statements hit ++ (statements miss ++ statements next))
courses_of_text stops p block c s d (to_make n made taken full next b) = here (Makes n) (statements made ++ (statements taken ++ (statements full ++ statements next)))
courses_of_text stops p block c s d (behind_do op next b t e h) = in_next op next t (courses_of_text stops p next (after p b op) t e h)
courses_of_text stops p block c s d (into_hit q hit miss next b x t e a h) = in_hit q hit miss next t (courses_of_text stops p hit x t e h)
courses_of_text stops p block c s d (into_miss q hit miss next b t e a h) = in_miss q hit miss next t (courses_of_text stops p miss b t e h)
courses_of_text stops p block c s d (behind_hit q hit miss next b x y t e a w h) = after_ask q hit miss next t (courses_of_text stops p next y t e h)
courses_of_text stops p block c s d (behind_miss q hit miss next b y t e a w h) = after_ask q hit miss next t (courses_of_text stops p next y t e h)
courses_of_text stops p block c s d (into_made n made taken full next b i t e a h) = in_made n made taken full next t (courses_of_text stops p made (with_new p b n i) t e h)
courses_of_text stops p block c s d (into_taken n made taken full next b t e a h) = in_taken n made taken full next t (courses_of_text stops p taken b t e h)
courses_of_text stops p block c s d (into_full n made taken full next b t e a h) = in_full n made taken full next t (courses_of_text stops p full b t e h)
courses_of_text stops p block c s d (behind_made n made taken full next b i y t e a w h) = after_make n made taken full next t (courses_of_text stops p next y t e h)
courses_of_text stops p block c s d (behind_taken n made taken full next b y t e a w h) = after_make n made taken full next t (courses_of_text stops p next y t e h)
courses_of_text stops p block c s d (behind_full n made taken full next b y t e a w h) = after_make n made taken full next t (courses_of_text stops p next y t e h)

-- told by a statement in a context of some kind
record ToldIn (stops : Stops) (p : Input) (ok : Statement → Context → Type 0) (e : Event) : Type 0 where
  pub statement : Statement
  pub context : Context
  pub among : ok statement context
  pub tells : Tells stops p context statement e

hit_told : (stops : Stops) (p : Input) (ok : Statement → Context → Type 0) (e : Event) (o : Option Context) (es : Context → List Event) (fs : List Event) →
    ((d : Context) → o ≡ Some d → Contains (es d) e → ToldIn stops p ok e) → (o ≡ None → Contains fs e → ToldIn stops p ok e) → Contains (if_hit o es fs) e → ToldIn stops p ok e
hit_told stops p ok e (Some d) es fs h m i = h d refl i
hit_told stops p ok e None es fs h m i = m refl i

new_told : (stops : Stops) (p : Input) (ok : Statement → Context → Type 0) (e : Event) (to : NewResult) (es : ℕ → List Event) (fs hs : List Event) →
    ((i : ℕ) → to ≡ Made i → Contains (es i) e → ToldIn stops p ok e) → (to ≡ Taken → Contains fs e → ToldIn stops p ok e) → (to ≡ Full → Contains hs e → ToldIn stops p ok e) → Contains (if_new to es fs hs [] []) e → ToldIn stops p ok e
new_told stops p ok e (Made i) es fs hs m t u h = m i refl h
new_told stops p ok e Taken es fs hs m t u h = t refl h
new_told stops p ok e Full es fs hs m t u h = u refl h
new_told stops p ok e Illegal es fs hs m t u h = absurd (has_none e h)
new_told stops p ok e Stopped es fs hs m t u h = absurd (has_none e h)

-- a block falls off where the branch that it takes does, and what follows does
hit_falls : (o : Option Context) (b d : Context) (f : Context → Completion) (x : Completion) (g : Context → Completion) → o ≡ Some b → f b ≡ Normal d → and_then (if_hit o f x) g ≡ g d
hit_falls o b d f x g e w = ap (λ y. and_then (if_hit y f x) g) e ∙ ap (λ y. and_then y g) w

miss_falls : (o : Option Context) (d : Context) (f : Context → Completion) (x : Completion) (g : Context → Completion) → o ≡ None → x ≡ Normal d → and_then (if_hit o f x) g ≡ g d
miss_falls o d f x g e w = ap (λ y. and_then (if_hit y f x) g) e ∙ ap (λ y. and_then y g) w

new_falls : (to : NewResult) (result : NewResult) (d : Context) (f : ℕ → Completion) (x y z w : Completion) (g : Context → Completion) → to ≡ result → if_new result f x y z w ≡ Normal d → and_then (if_new to f x y z w) g ≡ g d
new_falls to result d f x y z w g e q = ap (λ t. and_then (if_new t f x y z w) g) e ∙ ap (λ t. and_then t g) q

told : (stops : Stops) (p : Input) (ok : Statement → Context → Type 0) (e : Event) (b : Block) (c : Context) (k : Context → List Event) → ((s : Statement) (d : Context) → Comes stops p b c s d → ok s d) →
    ((d : Context) → exec stops p b c ≡ Normal d → Contains (k d) e → ToldIn stops p ok e) → Contains (events stops p b c k) e → ToldIn stops p ok e
told stops p ok e (End FallsOff) c k among later h = later c refl h
told stops p ok e (End Flood) c k among later h = absurd (has_none e h)
told stops p ok e (End Discard) c k among later h = absurd (has_none e h)
told stops p ok e (End (Forward port)) c k among later h = elim (from_reads p c port [] e h) [
  | inl r ↦ record { statement = Ends (Forward port); context = c; among = among (Ends (Forward port)) c (to_end (Forward port) c); tells = ends port e r }
  | inr i ↦ absurd (has_none e i)
]
told stops p ok e (Do op next) c k among later h = elim (from_did p c op (events stops p next (after p c op) k) e h) [
  | inl t ↦ record { statement = Does op; context = c; among = among (Does op) c (to_do op next c); tells = does op e t }
  | inr i ↦ told stops p ok e next (after p c op) k (λ s d j. among s d (behind_do op next c s d j)) later i
]
told stops p ok e (Ask q hit miss next) c k among later h =
    let go = λ (d : Context). events stops p next d k in
    elim (from_asked p c q (if_hit (answer p c q) (λ d. events stops p hit d go) (events stops p miss c go)) e h) [
      | inl t ↦ record { statement = Asks q; context = c; among = among (Asks q) c (to_ask q hit miss next c); tells = asks q e t }
      | inr i ↦ hit_told stops p ok e (answer p c q) (λ d. events stops p hit d go) (events stops p miss c go)
          (λ b a. told stops p ok e hit b go (λ s d j. among s d (into_hit q hit miss next c b s d a j))
          (λ x w. told stops p ok e next x k (λ s d j. among s d (behind_hit q hit miss next c b x s d a w j)) (λ d v. later d (hit_falls (answer p c q) b x (exec stops p hit) (exec stops p miss c) (exec stops p next) a w ∙ v))))
          (λ a. told stops p ok e miss c go (λ s d j. among s d (into_miss q hit miss next c s d a j))
          (λ x w. told stops p ok e next x k (λ s d j. among s d (behind_miss q hit miss next c x s d a w j)) (λ d v. later d (miss_falls (answer p c q) x (exec stops p hit) (exec stops p miss c) (exec stops p next) a w ∙ v))))
          i
    ]
told stops p ok e (Make n made taken full next) c k among later h =
    let go = λ (d : Context). events stops p next d k in
    let f = λ (i : ℕ). exec stops p made (with_new p c n i) in
    let falls = λ (result : NewResult) (x : Context) (a : new_result stops p c n ≡ result) (w : if_new result f (exec stops p taken c) (exec stops p full c) NoStep (StoppedAt n.chain c.left) ≡ Normal x).
    new_falls (new_result stops p c n) result x f (exec stops p taken c) (exec stops p full c) NoStep (StoppedAt n.chain c.left) (exec stops p next) a w in
    elim (from_new stops p c n (if_new (new_result stops p c n) (λ i. events stops p made (with_new p c n i) go) (events stops p taken c go) (events stops p full c go) [] []) e h) [
      | inl t ↦ record { statement = Makes n; context = c; among = among (Makes n) c (to_make n made taken full next c); tells = t }
      | inr i ↦ new_told stops p ok e (new_result stops p c n) (λ j. events stops p made (with_new p c n j) go) (events stops p taken c go) (events stops p full c go)
          (λ j a. told stops p ok e made (with_new p c n j) go (λ s d l. among s d (into_made n made taken full next c j s d a l))
          (λ x w. told stops p ok e next x k (λ s d l. among s d (behind_made n made taken full next c j x s d a w l)) (λ d v. later d (falls (Made j) x a w ∙ v))))
          (λ a. told stops p ok e taken c go (λ s d l. among s d (into_taken n made taken full next c s d a l))
          (λ x w. told stops p ok e next x k (λ s d l. among s d (behind_taken n made taken full next c x s d a w l)) (λ d v. later d (falls Taken x a w ∙ v))))
          (λ a. told stops p ok e full c go (λ s d l. among s d (into_full n made taken full next c s d a l))
          (λ x w. told stops p ok e next x k (λ s d l. among s d (behind_full n made taken full next c x s d a w l)) (λ d v. later d (falls Full x a w ∙ v))))
          i
    ]

pub nothing_else : NothingElseIsTold
nothing_else stops p block c e h =
    let w = told stops p (λ s d. Comes stops p block c s d) e block c (λ _. []) (λ s d i. i) (λ d v i. absurd (has_none e i)) h in
    record { statement = w.statement; context = w.context; comes = w.among; tells = w.tells }
