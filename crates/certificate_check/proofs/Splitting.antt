-- A split: the tasks that it leaves.
use Rattle.std.proofs.Common.{◌≡◌, ℕ, zero, suc, ◌<◌, ◌≤◌, nat_lt, sym, inl, inr, length, None, if◌then◌else◌, arith, refl, ap, ◌∙◌, Bool, true, false, List, [], ◌∷◌, ◌++◌, All, reverse, set, get_or, Option, Some}
use Rattle.std.proofs.lemmas.List.{set-get_or}
use Rattle.std.proofs.lemmas.List.Elements.{All-push}
use Rattle.certificate_laws.specs.Fixed.{with_bit}
use Rattle.std.proofs.lemmas.Bool.{cases_Bool, lt-ltb, ltb-true}
use Rattle.certificate_laws.specs.declared.line.Line.TheVariants as line
use Rattle.certificate_laws.specs.declared.line.Span.{Span}
use Rattle.certificate_laws.specs.Due.{Due, Whole, after_tree}
use Rattle.certificate_check.specs.declared.tasks.Ask.TheVariants as ask
use Rattle.certificate_check.specs.declared.tasks.Task.{Task}
use Rattle.certificate_check.specs.declared.tasks.Task.TheVariants as task
use Rattle.certificate_check.specs.Tasks.{due_from, due_of, IsWithin}
use Rattle.certificate_check.proofs.Doing.{due_push}

pub set_again : (xs : List (Option Bool)) (i : ℕ) (a b : Option Bool) → set (set xs i a) i b ≡ set xs i b
set_again [] i a b = refl
set_again (x ∷ xs) zero a b = refl
set_again (x ∷ xs) (suc i) a b = ap (λ ys. x ∷ ys) (set_again xs i a b)

abbrev pub split_tasks : List Task → ℕ → Option Bool → List Task
split_tasks tasks place value =
    (((tasks ++ task.Fix place value ∷ []) ++ task.Ask ask.Tree ∷ []) ++ task.Fix place (Some true) ∷ []) ++ task.Ask ask.Tree ∷ []

pub split_due : (fixed : List (Option Bool)) (tasks : List Task) (place : ℕ) (value : Option Bool) → value ≡ get_or fixed place value
    → due_of (set fixed place (Some false)) (split_tasks tasks place value) ≡ Whole (with_bit place false fixed) ∷ Whole (with_bit place true fixed) ∷ due_of fixed tasks
split_due fixed tasks place value is =
    let off : List (Option Bool) = set fixed place (Some false) in
    let on : List (Option Bool) = set off place (Some true) in
    let one : List Task = tasks ++ task.Fix place value ∷ [] in
    let two : List Task = one ++ task.Ask ask.Tree ∷ [] in
    let three : List Task = two ++ task.Fix place (Some true) ∷ [] in
    let back : set on place value ≡ fixed =
    ap (λ ys. set ys place value) (set_again fixed place (Some false) (Some true)) ∙ set_again fixed place (Some true) value ∙ ap (set fixed place) is ∙ set-get_or fixed place value in
    due_push off three (task.Ask ask.Tree)
    ∙ ap (λ d. Whole off ∷ d)
    (due_push off two (task.Fix place (Some true)) ∙ due_push on one (task.Ask ask.Tree)
    ∙ ap (λ d. Whole on ∷ d) (due_push on tasks (task.Fix place value) ∙ ap (λ ys. due_from ys (reverse tasks)) back)
    ∙ ap (λ ys. Whole ys ∷ due_of fixed tasks) (set_again fixed place (Some false) (Some true)))

pub split_fits : (n : ℕ) (tasks : List Task) (place : ℕ) (value : Option Bool) → All (IsWithin n) tasks → place < n → All (IsWithin n) (split_tasks tasks place value)
split_fits n tasks place value all within =
    let one : List Task = tasks ++ task.Fix place value ∷ [] in
    let two : List Task = one ++ task.Ask ask.Tree ∷ [] in
    let three : List Task = two ++ task.Fix place (Some true) ∷ [] in
    All-push (IsWithin n) three (task.Ask ask.Tree) (All-push (IsWithin n) two (task.Fix place (Some true)) (All-push (IsWithin n) one (task.Ask ask.Tree) (All-push (IsWithin n) tasks (task.Fix place value) all within) tt) within) tt

-- a split where there is such a bit, or none
pub split_is : (rows : List (List Bool)) (spans : List Span) (fixed : List (Option Bool)) (due new : List Due) (place : ℕ) → place < length fixed
    → new ≡ Whole (with_bit place false fixed) ∷ Whole (with_bit place true fixed) ∷ due → after_tree rows spans fixed due (line.Split place) ≡ Some new
split_is rows spans fixed due new place within is =
    ap (λ t. if t then Some (Whole (with_bit place false fixed) ∷ Whole (with_bit place true fixed) ∷ due) else None) (lt-ltb place (length fixed) within) ∙ ap Some (sym is)

pub split_is_none : (rows : List (List Bool)) (spans : List Span) (fixed : List (Option Bool)) (due : List Due) (place : ℕ) → length fixed ≤ place → after_tree rows spans fixed due (line.Split place) ≡ None
split_is_none rows spans fixed due place past = elim (cases_Bool (nat_lt place (length fixed))) [
  | inl is ↦ let less = ltb-true place (length fixed) is in absurd (omega (arith, less, past))
  | inr not ↦ ap (λ t. if t then Some (Whole (with_bit place false fixed) ∷ Whole (with_bit place true fixed) ∷ due) else None) not
]
