-- Each bit of a vector that isn't the wanted one is named.
use Rattle.std.proofs.Common.{◌≡◌, ℕ, zero, suc, ◌+◌, ◌-◌, ◌<◌, ◌≤◌, ◌&&◌, nat_lt, refl, sym, ap, ◌∙◌, subst, inl, inr, Bool, true, false, List, [], ◌∷◌, ◌++◌, length, map, replicate, All, reverse, set, get_or, Option, Some, None, if◌then◌else◌, arith}
use Rattle.std.proofs.lemmas.Bool.{cases_Bool, cases_eq, cases_lt, lt-ltb, ltb-true}
use Rattle.std.proofs.lemmas.List.{same_lists, length-set, length-replicate, get_or-set_other, get_or-replicate}
use Rattle.std.proofs.lemmas.Grind.{get_or-set_at}
use Rattle.std.proofs.lemmas.List.FromFn.{length-map-range_with_len, get_or-map-range_with_len}
use Rattle.std.proofs.lemmas.List.Elements.{All-push, All-nil}
use Rattle.gf2_solve.specs.Sums.{plus, bit}
use Rattle.certificate_laws.specs.Fixed.{none_fixed, with_bit, fixed_before}
use Rattle.certificate_laws.specs.Due.{Due, Naming, Whole, nots}
use Rattle.certificate_check.specs.declared.tasks.Ask.TheVariants as ask
use Rattle.certificate_check.specs.declared.tasks.Task.{Task}
use Rattle.certificate_check.specs.declared.tasks.Task.TheVariants as task
use Rattle.certificate_check.specs.Tasks.{due_from, due_of, IsWithin}
use Rattle.certificate_check.specs.Naming.{bit_tasks}
use Rattle.certificate_check.proofs.Doing.{due_push}
use Rattle.certificate_check.proofs.Splitting.{set_again}

abbrev fix : (ℕ → Bool) → List Bool → ℕ → ℕ → Option Bool
fix counts x place k = if nat_lt k place && counts k then Some (bit x k) else None

module _ (counts : ℕ → Bool) (n : ℕ) (x : List Bool) where
  pub fixed_long : (place : ℕ) → length (fixed_before counts n x place) ≡ n
  fixed_long place = length-map-range_with_len (fix counts x place) 0 n

  fixed_there : (place k : ℕ) (d : Option Bool) → k < n → get_or (fixed_before counts n x place) k d ≡ fix counts x place k
  fixed_there place k d within = get_or-map-range_with_len (fix counts x place) 0 n k k d within (omega arith)

  later_test : (place k : ℕ) → (k ≡ place → ⊥) → nat_lt k (place + 1) ≡ nat_lt k place
  later_test place k other = elim (cases_lt k place) [
    | inl below ↦ lt-ltb k (place + 1) (omega (arith, below)) ∙ sym (lt-ltb k place below)
    | inr past ↦ ne_lt k (place + 1) (omega (arith, past, other)) ∙ sym (ne_lt k place past)
  ]
    where
      ne_lt : (a b : ℕ) → b ≤ a → nat_lt a b ≡ false
      ne_lt a b past = elim (cases_Bool (nat_lt a b)) [
        | inl is ↦ let less = ltb-true a b is in absurd (omega (arith, less, past))
        | inr not ↦ not
      ]

  own_test : (place : ℕ) → nat_lt place place ≡ false
  own_test place = elim (cases_Bool (nat_lt place place)) [
    | inl is ↦ let less = ltb-true place place is in absurd (omega (arith, less))
    | inr not ↦ not
  ]

  -- one bit more is fixed
  pub fixed_next : (place : ℕ) → place < n → counts place ≡ true → set (fixed_before counts n x place) place (Some (bit x place)) ≡ fixed_before counts n x (place + 1)
  fixed_next place within is =
      same_lists (set (fixed_before counts n x place) place (Some (bit x place))) (fixed_before counts n x (place + 1))
      (length-set (fixed_before counts n x place) place (Some (bit x place)) ∙ fixed_long place ∙ sym (fixed_long (place + 1)))
      (λ k d below.
      let inside : k < n = omega (arith, below, length-set (fixed_before counts n x place) place (Some (bit x place)), fixed_long place) in
      elim (cases_eq k place) [
        | inl same ↦
            get_or-set_at (fixed_before counts n x place) place k (Some (bit x place)) d same (omega (arith, within, fixed_long place))
            ∙ sym (fixed_there (place + 1) k d inside
            ∙ ap (λ m. fix counts x (place + 1) m) same
            ∙ ap (λ b. if b && counts place then Some (bit x place) else None) (lt-ltb place (place + 1) (omega arith))
            ∙ ap (λ b. if b then Some (bit x place) else None) is)
        | inr other ↦
            get_or-set_other (fixed_before counts n x place) place k (Some (bit x place)) d other
            ∙ fixed_there place k d inside
            ∙ sym (fixed_there (place + 1) k d inside ∙ ap (λ b. if b && counts k then Some (bit x k) else None) (later_test place k other))
      ])

  -- one that doesn't count changes nothing
  pub fixed_same : (place : ℕ) → counts place ≡ false → fixed_before counts n x place ≡ fixed_before counts n x (place + 1)
  fixed_same place is =
      same_lists (fixed_before counts n x place) (fixed_before counts n x (place + 1)) (fixed_long place ∙ sym (fixed_long (place + 1)))
      (λ k d below.
      let inside : k < n = omega (arith, below, fixed_long place) in
      fixed_there place k d inside
      ∙ elim (cases_eq k place) [
        | inl same ↦
            ap (λ m. fix counts x place m) same ∙ ap (λ b. if b && counts place then Some (bit x place) else None) (own_test place)
            ∙ sym (ap (λ m. fix counts x (place + 1) m) same
            ∙ ap (λ b. if b && counts place then Some (bit x place) else None) (lt-ltb place (place + 1) (omega arith))
            ∙ ap (λ b. if b then Some (bit x place) else None) is)
        | inr other ↦ ap (λ b. if b && counts k then Some (bit x k) else None) (sym (later_test place k other))
      ]
      ∙ sym (fixed_there (place + 1) k d inside))

  pub none_before : fixed_before counts n x 0 ≡ none_fixed n
  none_before =
      same_lists (fixed_before counts n x 0) (none_fixed n) (fixed_long 0 ∙ sym (length-replicate {A = Option Bool} n None))
      (λ k d below.
      let inside : k < n = omega (arith, below, fixed_long 0) in
      fixed_there 0 k d inside ∙ ap (λ b. if b && counts k then Some (bit x k) else None) (low k) ∙ sym (get_or-replicate n k None d inside))
    where
      low : (k : ℕ) → nat_lt k 0 ≡ false
      low k = elim (cases_Bool (nat_lt k 0)) [
        | inl is ↦ let less = ltb-true k 0 is in absurd (omega (arith, less))
        | inr not ↦ not
      ]

-- what a bit's tasks are due
due_bit : (fixed : List (Option Bool)) (tasks : List Task) (place : ℕ) (wanted own : Bool) (b : Bool) → plus own wanted ≡ b
    → due_of fixed (tasks ++ bit_tasks place wanted own)
    ≡ (if b then Naming place ∷ Whole (set fixed place (Some wanted)) ∷ due_of (set fixed place (Some own)) tasks else due_of (set fixed place (Some own)) tasks)
due_bit fixed tasks place wanted own false is =
    ap (λ t. due_of fixed (tasks ++ task.Fix place (Some own) ∷ (if t then task.Ask ask.Tree ∷ task.Fix place (Some wanted) ∷ task.Ask (ask.Name place) ∷ [] else []))) is
    ∙ due_push fixed tasks (task.Fix place (Some own))
due_bit fixed tasks place wanted own true is =
    let one : List Task = tasks ++ task.Fix place (Some own) ∷ [] in
    let two : List Task = one ++ task.Ask ask.Tree ∷ [] in
    let three : List Task = two ++ task.Fix place (Some wanted) ∷ [] in
    let f : List (Option Bool) = set fixed place (Some wanted) in
    ap (λ t. due_of fixed (tasks ++ task.Fix place (Some own) ∷ (if t then task.Ask ask.Tree ∷ task.Fix place (Some wanted) ∷ task.Ask (ask.Name place) ∷ [] else []))) is
    ∙ ap (due_of fixed) (apart tasks (task.Fix place (Some own)) (task.Ask ask.Tree) (task.Fix place (Some wanted)) (task.Ask (ask.Name place)))
    ∙ due_push fixed three (task.Ask (ask.Name place))
    ∙ ap (λ d. Naming place ∷ d)
    (due_push fixed two (task.Fix place (Some wanted))
    ∙ due_push f one (task.Ask ask.Tree)
    ∙ ap (λ d. Whole f ∷ d) (due_push f tasks (task.Fix place (Some own)) ∙ ap (λ ys. due_from ys (reverse tasks)) (set_again fixed place (Some wanted) (Some own))))
  where
    apart : (ts : List Task) (a b c d : Task) → ts ++ a ∷ b ∷ c ∷ d ∷ [] ≡ (((ts ++ a ∷ []) ++ b ∷ []) ++ c ∷ []) ++ d ∷ []
    apart [] a b c d = refl
    apart (t ∷ ts) a b c d = ap (λ l. t ∷ l) (apart ts a b c d)

-- from a place on all is done
pub record AreNamed (counts : ℕ → Bool) (n : ℕ) (wanted x : List Bool) (place : ℕ) (tasks : List Task) : Type 0 where
  pub low : place ≤ n
  pub within : All (IsWithin n) tasks
  pub due : due_of (fixed_before counts n x place) tasks ≡ nots counts n wanted x (n - place) place

pub named_none : (counts : ℕ → Bool) (n : ℕ) (wanted x : List Bool) (tasks : List Task) → tasks ≡ [] → AreNamed counts n wanted x n tasks
named_none counts n wanted x tasks is = record {
  low = omega arith;
  within = subst (All (IsWithin n)) (sym is) (All-nil (IsWithin n));
  due = ap (due_of (fixed_before counts n x n)) is ∙ ap (λ k. nots counts n wanted x k n) (let none : 0 ≡ n - n = omega arith in none);
}

within_more : (n : ℕ) (tasks : List Task) (place : ℕ) (wanted own : Bool) (b : Bool) → plus own wanted ≡ b → place < n → All (IsWithin n) tasks → All (IsWithin n) (tasks ++ bit_tasks place wanted own)
within_more n tasks place wanted own false is below all =
    subst (λ (t : Bool). All (IsWithin n) (tasks ++ task.Fix place (Some own) ∷ (if t then task.Ask ask.Tree ∷ task.Fix place (Some wanted) ∷ task.Ask (ask.Name place) ∷ [] else []))) (sym is)
    (All-push (IsWithin n) tasks (task.Fix place (Some own)) all below)
within_more n tasks place wanted own true is below all =
    let one : List Task = tasks ++ task.Fix place (Some own) ∷ [] in
    let two : List Task = one ++ task.Ask ask.Tree ∷ [] in
    let three : List Task = two ++ task.Fix place (Some wanted) ∷ [] in
    subst (λ (t : Bool). All (IsWithin n) (tasks ++ task.Fix place (Some own) ∷ (if t then task.Ask ask.Tree ∷ task.Fix place (Some wanted) ∷ task.Ask (ask.Name place) ∷ [] else []))) (sym is)
    (subst (All (IsWithin n)) (sym (apart tasks (task.Fix place (Some own)) (task.Ask ask.Tree) (task.Fix place (Some wanted)) (task.Ask (ask.Name place))))
    (All-push (IsWithin n) three (task.Ask (ask.Name place)) (All-push (IsWithin n) two (task.Fix place (Some wanted)) (All-push (IsWithin n) one (task.Ask ask.Tree) (All-push (IsWithin n) tasks (task.Fix place (Some own)) all below) tt) below) tt))
  where
    apart : (ts : List Task) (a b c d : Task) → ts ++ a ∷ b ∷ c ∷ d ∷ [] ≡ (((ts ++ a ∷ []) ++ b ∷ []) ++ c ∷ []) ++ d ∷ []
    apart [] a b c d = refl
    apart (t ∷ ts) a b c d = ap (λ l. t ∷ l) (apart ts a b c d)

-- one place before
module _ (counts : ℕ → Bool) (n : ℕ) (wanted x : List Bool) (old place : ℕ) (before : old ≡ place + 1) where
  pub named_more : (tasks new : List Task) (w own : Bool) → counts place ≡ true → w ≡ bit wanted place → own ≡ bit x place → new ≡ tasks ++ bit_tasks place w own → AreNamed counts n wanted x old tasks
      → AreNamed counts n wanted x place new
  named_more tasks new w own is w_is own_is new_is named =
      let inside : place < n = omega (arith, named.low, before) in
      let further : n - place ≡ suc (n - old) = omega (arith, inside, before) in
      let next : old ≡ suc place = omega (arith, before) in
      let fb : List (Option Bool) = fixed_before counts n x place in
      let behind : due_of (set fb place (Some own)) tasks ≡ nots counts n wanted x (n - old) (suc place) =
      ap (λ b. due_of (set fb place (Some b)) tasks) own_is
      ∙ ap (λ f. due_of f tasks) (fixed_next counts n x place inside is ∙ ap (fixed_before counts n x) (sym before))
      ∙ named.due ∙ ap (nots counts n wanted x (n - old)) next in
      record {
        low = omega (arith, inside);
        within = subst (All (IsWithin n)) (sym new_is) (within_more n tasks place w own (plus own w) refl inside named.within);
        due = ap (due_of fb) new_is
            ∙ due_bit fb tasks place w own (plus own w) refl
            ∙ ap (λ d. if plus own w then Naming place ∷ Whole (set fb place (Some w)) ∷ d else d) behind
            ∙ ap (λ v. if plus own v then Naming place ∷ Whole (set fb place (Some v)) ∷ nots counts n wanted x (n - old) (suc place) else nots counts n wanted x (n - old) (suc place)) w_is
            ∙ ap (λ v. if plus v (bit wanted place) then Naming place ∷ Whole (with_bit place (bit wanted place) fb) ∷ nots counts n wanted x (n - old) (suc place) else nots counts n wanted x (n - old) (suc place)) own_is
            ∙ sym (ap (λ k. nots counts n wanted x k place) further
            ∙ ap (λ t. if t && plus (bit x place) (bit wanted place) then Naming place ∷ Whole (with_bit place (bit wanted place) fb) ∷ nots counts n wanted x (n - old) (suc place) else nots counts n wanted x (n - old) (suc place)) is);
      }

  pub named_left : (tasks : List Task) → counts place ≡ false → AreNamed counts n wanted x old tasks → AreNamed counts n wanted x place tasks
  named_left tasks is named =
      let inside : place < n = omega (arith, named.low, before) in
      let further : n - place ≡ suc (n - old) = omega (arith, inside, before) in
      let next : old ≡ suc place = omega (arith, before) in
      let fb : List (Option Bool) = fixed_before counts n x place in
      record {
        low = omega (arith, inside);
        within = named.within;
        due = ap (λ f. due_of f tasks) (fixed_same counts n x place is ∙ ap (fixed_before counts n x) (sym before))
            ∙ named.due ∙ ap (nots counts n wanted x (n - old)) next
            ∙ sym (ap (λ k. nots counts n wanted x k place) further
            ∙ ap (λ t. if t && plus (bit x place) (bit wanted place) then Naming place ∷ Whole (with_bit place (bit wanted place) fb) ∷ nots counts n wanted x (n - old) (suc place) else nots counts n wanted x (n - old) (suc place)) is);
      }

pub named_all : (counts : ℕ → Bool) (n : ℕ) (wanted x : List Bool) (place : ℕ) (tasks : List Task) → place ≡ 0 → AreNamed counts n wanted x place tasks
    → due_of (none_fixed n) tasks ≡ nots counts n wanted x n 0
named_all counts n wanted x place tasks none named =
    ap (λ f. due_of f tasks) (sym (none_before counts n x)) ∙ ap (λ p. due_of (fixed_before counts n x p) tasks) (sym none) ∙ named.due
    ∙ ap (λ p. nots counts n wanted x (n - p) p) none ∙ ap (λ k. nots counts n wanted x k 0) (let same : n - 0 ≡ n = omega arith in same)
