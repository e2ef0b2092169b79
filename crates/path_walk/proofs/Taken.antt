-- The path that a packet takes is feasible, since each test on it goes as the packet's fields say.
use Rattle.std.proofs.Common.{◌≡◌, ◌<◌, ◌≤◌, arith, ℕ, Bool, true, false, ◌==◌, ◌&&◌, nat_lt, nat_le, not, cond, eqb-true, ◌⊎◌, List, [], ◌∷◌, Contains, Option, Some, None, IsSome, slice_get, if◌then◌else◌, map, refl, ap, sym, ◌∙◌, subst, inl, inr}
use Rattle.std.specs.List.{filter}
use Rattle.std.proofs.lemmas.Bool.{and_parts, cases_Bool, ltb-true, ltb-false, le-leb, leb-true}
use Rattle.nf_base.specs.Doors.{handler_at}
use Rattle.nf_base.specs.Families.{door_of}
use Rattle.nf_base.specs.declared.packet.Field.{Field}
use Rattle.nf_base.specs.declared.packet.Packet.{Packet}
use Rattle.nf_base.specs.declared.packet.Fields.{Fields}
use Rattle.nf_base.specs.declared.state.State.{State}
use Rattle.nf_base.specs.declared.expr.Comparison.{Comparison}
use Rattle.nf_base.specs.declared.expr.Comparison.TheVariants as comparison
use Rattle.nf_base.specs.Text.{Expression, Number, Read, Get, Find, Test, Block, Function}
use Rattle.nf_base.specs.Values.{compares}
use Rattle.nf_base.specs.Context.{Context, Input, value}
use Rattle.nf_base.specs.Operations.{Stops, never}
use Rattle.nf_base.specs.Paths.{PathStep, Branch, Doing, Asking, Making, Closing, Outcome, outcomes_along, paths}
use Rattle.nf_base.specs.Course.{route}
use Rattle.nf_base.specs.Record.{test_branch}
use Rattle.nf_base.specs.Step.{StepResult, path_taken, input, start_context, routes, route_of, step_of, step_result, completes}
use Rattle.nf_laws.proofs.Legal.{steps_legal}
use Rattle.nf_laws.specs.Paths.{of_packet}
use Rattle.nf_laws.proofs.Listed.{here, there, has, has_none}
use Rattle.nf_laws.proofs.Going.{tests_go}
use Rattle.nf_laws.proofs.Walked.{courses_walk, outcomes_walk}
use Rattle.path_walk.specs.declared.test.Sign.{Sign}
use Rattle.path_walk.specs.declared.test.Sign.TheVariants.{Equal, Less, AtMost}
use Rattle.path_walk.specs.Tests.{TestText, Told, told, test_of, test_in_front, tests, sign_of, is_exchanged, is_hit, flipped}
use Rattle.path_walk.specs.Laws.{PacketsTakeFeasiblePaths, OutcomesAreListed}
use Rattle.path_walk.specs.declared.test.FieldIs.{FieldIs}
use Rattle.path_walk.specs.Feasible.{handler_paths, door_paths, field_is, is_feasible, feasible_paths}
use Rattle.path_walk.proofs.Agreeing.{is, number_in, Agree, consistent}

-- whether a test holds, so brought
abbrev decides : Sign → ℕ → ℕ → Bool
decides Equal a b = a == b
decides Less a b = nat_lt a b
decides AtMost a b = nat_le a b

record GoesAs (p : Input) (c : Context) (t : Told) : Type 0 where
  pub goes : t.holds ≡ decides t.text.sign (value p c t.text.left) (value p c t.text.right)

not_less : (a b : ℕ) → nat_lt a b ≡ not (nat_le b a)
not_less a b = elim (cases_Bool (nat_lt a b)) [
  | inl t ↦ let h : a < b = ltb-true a b t in elim (cases_Bool (nat_le b a)) [ inl u ↦ let k : b ≤ a = leb-true b a u in absurd (omega arith) | inr u ↦ cc ]
  | inr t ↦ let h : b ≤ a = ltb-false a b t in let u : nat_le b a ≡ true = le-leb b a h in cc
]

-- each comparison by its sign
brought : (c : Comparison) (a b : ℕ) → flipped (is_exchanged c) (is_hit (test_branch (compares c a b))) ≡ decides (sign_of c) a b
brought comparison.Equal a b = hit (a == b)
  where
    hit : (x : Bool) → is_hit (test_branch x) ≡ x
    hit true = refl
    hit false = refl
brought comparison.NotEqual a b = unless (a == b)
  where
    unless : (x : Bool) → not (is_hit (test_branch (not x))) ≡ x
    unless true = refl
    unless false = refl
brought comparison.Less a b = hit (nat_lt a b)
  where
    hit : (x : Bool) → is_hit (test_branch x) ≡ x
    hit true = refl
    hit false = refl
brought comparison.LessOrEqual a b = hit (nat_le a b)
  where
    hit : (x : Bool) → is_hit (test_branch x) ≡ x
    hit true = refl
    hit false = refl
brought comparison.Greater a b = ap (λ x. not (is_hit (test_branch x))) (not_less b a) ∙ unless (nat_le a b)
  where
    unless : (x : Bool) → not (is_hit (test_branch (not x))) ≡ x
    unless true = refl
    unless false = refl
brought comparison.GreaterOrEqual a b = other (nat_le b a) (nat_lt a b) (not_less a b)
  where
    other : (x y : Bool) → y ≡ not x → not (is_hit (test_branch x)) ≡ y
    other true y e = sym e
    other false y e = sym e

-- a statement's test, where it is one of the packet
record StandsFor (s : PathStep) (t : Told) : Type 0 where
  pub place : ℕ
  pub comparison : Comparison
  pub left : Expression
  pub right : Expression
  pub branch : Branch
  pub statement : s ≡ Asking (Test place comparison left right) branch
  pub of_left : of_packet left ≡ true
  pub of_right : of_packet right ≡ true
  pub test : told comparison left right branch ≡ t

stands_for : (s : PathStep) (t : Told) → test_of s ≡ Some t → StandsFor s t
stands_for (Doing op) t e = cc
stands_for (Asking (Get place chain m key var) b) t e = cc
stands_for (Asking (Find place chain at guards var) b) t e = cc
stands_for (Making n b) t e = cc
stands_for (Closing x) t e = cc
stands_for (Asking (Test place c l r) b) t e = split (of_packet l && of_packet r) refl e
  where
    split : (x : Bool) → (of_packet l && of_packet r) ≡ x → (if x then Some (told c l r b) else None) ≡ Some t → StandsFor (Asking (Test place c l r) b) t
    split true h k = let w = and_parts (of_packet l) (of_packet r) h in record {
      place = place;
      comparison = c;
      left = l;
      right = r;
      branch = b;
      statement = refl;
      of_left = w.0;
      of_right = w.1;
      test = cc;
    }
    split false h k = cc

record OnPath (path : List PathStep) (t : Told) : Type 0 where
  pub step : PathStep
  pub on_path : Contains path step
  pub test : test_of step ≡ Some t

later_on : (s : PathStep) (ss : List PathStep) (t : Told) → OnPath ss t → OnPath (s ∷ ss) t
later_on s ss t w = record { step = w.step; on_path = there s ss w.step w.on_path; test = w.test }

first_or_later : (s : PathStep) (ss : List PathStep) (t : Told) (o : Option Told) → test_of s ≡ o → Contains (test_in_front o (tests ss)) t → (Contains (tests ss) t → OnPath ss t) → OnPath (s ∷ ss) t
first_or_later s ss t None e h rest = later_on s ss t (rest h)
first_or_later s ss t (Some u) e h rest = elim (has u (tests ss) t h) [
  | inl q ↦ record { step = s; on_path = here s ss; test = e ∙ ap Some q }
  | inr i ↦ later_on s ss t (rest i)
]

on_path : (path : List PathStep) (t : Told) → Contains (tests path) t → OnPath path t
on_path [] t h = absurd (has_none t h)
on_path (s ∷ ss) t h = first_or_later s ss t (test_of s) refl h (on_path ss t)

goes_as : (p : Input) (c : Context) (path : List PathStep) →
    ((place : ℕ) (comparison : Comparison) (left right : Expression) (branch : Branch) → Contains path (Asking (Test place comparison left right) branch) → of_packet left ≡ true → of_packet right ≡ true →
    branch ≡ test_branch (compares comparison (value p c left) (value p c right))) →
    (t : Told) → Contains (tests path) t → GoesAs p c t
goes_as p c path h t i =
    let w = on_path path t i in
    let s = stands_for w.step t w.test in
    let on : Contains path (Asking (Test s.place s.comparison s.left s.right) s.branch) = subst (λ (x : PathStep). Contains path x) s.statement w.on_path in
    let b = h s.place s.comparison s.left s.right s.branch on s.of_left s.of_right in
    subst (λ (x : Told). GoesAs p c x) s.test (record {
      goes = ap (λ (x : Branch). flipped (is_exchanged s.comparison) (is_hit x)) b ∙ brought s.comparison (value p c s.left) (value p c s.right);
    })

abbrev field_in : Field → Option FieldIs → Field
field_in f None = f
field_in f (Some x) = x.field

-- a field that is said to be a number is that number
is_number : (p : Input) (c : Context) (sign : Sign) (left right : Expression) (field : Field) (m : ℕ) →
    field_is sign left right ≡ is field m → decides sign (value p c left) (value p c right) ≡ true → value p c (Read field) ≡ m
is_number p c Equal (Read f) (Number n) field m e h =
    let same : f ≡ field = ap (field_in f) e in
    let number : n ≡ m = ap number_in e in
    sym (ap (λ x. value p c (Read x)) same) ∙ eqb-true (value p c (Read f)) n h ∙ number
is_number p c sign left right field m e h = cc

both_agree : (p : Input) (c : Context) (a b : Told) → GoesAs p c a → GoesAs p c b → Agree a b
both_agree p c a b ga gb = record {
  one_way = λ e. ga.goes ∙ ap (λ (t : TestText). decides t.sign (value p c t.left) (value p c t.right)) e ∙ sym gb.goes;
  one_number = λ field m n x y h k.
      sym (is_number p c a.text.sign a.text.left a.text.right field m x (sym ga.goes ∙ h))
      ∙ is_number p c b.text.sign b.text.left b.text.right field n y (sym gb.goes ∙ k);
}

pub route_feasible : (stops : Stops) (p : Input) (block : Block) (c : Context) → is_feasible (route stops p block c (λ _. [])) ≡ true
route_feasible stops p block c =
    let path = route stops p block c (λ _. []) in
    let each : (t : Told) → Contains (tests path) t → GoesAs p c t = goes_as p c path (λ place comparison left right branch. tests_go stops p block c c place comparison left right branch) in
    consistent (tests path) (λ a b i j. both_agree p c a b (each a i) (each b j))

-- what is listed
kept : (f : List PathStep → Bool) (xs : List (List PathStep)) (x : List PathStep) → Contains xs x → f x ≡ true → Contains (filter f xs) x
kept f [] x h e = absurd (has_none x h)
kept f (y ∷ ys) x h e = split (f y) refl (has y ys x h) (λ i. kept f ys x i e)
  where
    split : (b : Bool) → f y ≡ b → (y ≡ x) ⊎ Contains ys x → (Contains ys x → Contains (filter f ys) x) → Contains (cond b (y ∷ filter f ys) (filter f ys)) x
    split true g (inl q) rest = subst (λ (z : List PathStep). Contains (y ∷ filter f ys) z) q (here y (filter f ys))
    split true g (inr i) rest = there y (filter f ys) x (rest i)
    split false g (inl q) rest = let t : f y ≡ true = ap f q ∙ e in cc
    split false g (inr i) rest = rest i

pub mapped : {A B : Type 0} (f : A → B) (xs : List A) (x : A) → Contains xs x → Contains (map f xs) (f x)
mapped f [] x h = absurd (has_none x h)
mapped f (y ∷ ys) x h = elim (has y ys x h) [
  | inl q ↦ subst (λ z. Contains (f y ∷ map f ys) (f z)) q (here (f y) (map f ys))
  | inr i ↦ there (f y) (map f ys) (f x) (mapped f ys x i)
]

pub courses_feasible : (stops : Stops) (p : Input) (block : Block) (c : Context) → Contains (feasible_paths block) (route stops p block c (λ _. []))
courses_feasible stops p block c = kept is_feasible (paths block ([] ∷ [])) (route stops p block c (λ _. [])) (courses_walk stops p block c) (route_feasible stops p block c)

-- and of a packet
at_handler : (f : Function) (s : State) (time : ℕ) (fields : Fields) (choices : List ℕ) (block : Option Block) → IsSome block → Contains (handler_paths block) (routes never f s time fields choices block)
at_handler f s time fields choices None h = cc
at_handler f s time fields choices (Some block) h = courses_feasible never (input f time fields) block (start_context f s time choices)

pub packets_feasible : PacketsTakeFeasiblePaths
packets_feasible f s packet fields choices e h =
    subst (λ (o : Option Fields). Contains (door_paths f (door_of packet.id.port fields)) (route_of never f s packet choices o)) (sym e)
    (at_handler f s packet.time fields choices (handler_at f (door_of packet.id.port fields)) h)

-- a packet that has a step came in at a port of the function
has_handler : (f : Function) (s : State) (packet : Packet) (fields : Fields) (choices : List ℕ) (block : Option Block) (r : StepResult) →
    step_result choices (completes never f s packet.time fields choices block) ≡ Some r → IsSome block
has_handler f s packet fields choices None r e = cc
has_handler f s packet fields choices (Some block) r e = refl

pub outcomes_listed : OutcomesAreListed
outcomes_listed f s packet fields choices r e h =
    let g : step_of never f s packet choices (Some fields) ≡ Some r = sym (ap (step_of never f s packet choices) e) ∙ h in
    let is = has_handler f s packet fields choices (handler_at f (door_of packet.id.port fields)) r g in
    let path = packets_feasible f s packet fields choices e is in
    let same = outcomes_walk f s packet choices (steps_legal f s packet choices r h).legal in
    subst (λ (x : List Outcome). Contains (map outcomes_along (door_paths f (door_of packet.id.port fields))) x) (sym same)
    (mapped outcomes_along (door_paths f (door_of packet.id.port fields)) (path_taken f s packet choices) path)
