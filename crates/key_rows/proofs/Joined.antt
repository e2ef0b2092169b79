-- The fields of one class are those that are equal in all tied inputs.
use Rattle.std.proofs.Common.{◌≡◌, ℕ, zero, suc, ◌+◌, ◌<◌, ◌==◌, refl, ap, sym, ◌∙◌, Bool, true, false, List, [], ◌∷◌, length, get_or, drop, drop-cons, add-one, arith, inl, inr, if◌then◌else◌}
use Rattle.std.proofs.lemmas.Bool.{cases_eq}
use Rattle.nf_base.specs.declared.hash_fields.Hashable.{Hashable}
use Rattle.nf_base.specs.declared.hash_fields.Hashable.TheVariants.{SrcIp, DstIp, SrcPort, DstPort}
use Rattle.nf_base.specs.Hashed.{number}
use Rattle.key_rows.specs.Classes.{joined, classes_from, class_of}
use Rattle.key_rows.specs.Laws.{KeepTies, ClassesAreEqualFields}
use Rattle.key_rows.proofs.Sums.{at_same, at_other}

-- Values that are equal in each class are so still where two classes of equal values are made one.
joined_keeps : (a b : ℕ) (class values : ℕ → ℕ) → ((n : ℕ) → values (class n) ≡ values n) → values a ≡ values b → (n : ℕ) → values (joined a b class n) ≡ values n
joined_keeps a b class values alike same n =
    elim (cases_eq (class n) (class b)) [
      | inl e ↦ ap values (at_same (class n) (class b) (class a) (class n) e) ∙ alike a ∙ same ∙ sym (alike b) ∙ ap values (sym e) ∙ alike n
      | inr e ↦ ap values (at_other (class n) (class b) (class a) (class n) e) ∙ alike n
    ]

keeps : (first second : List Hashable) (class values : ℕ → ℕ) → ((n : ℕ) → values (class n) ≡ values n) → KeepTies first second values → (n : ℕ) → values (classes_from class first second n) ≡ values n
keeps [] second class values alike kept n = alike n
keeps (x ∷ first) [] class values alike kept n = alike n
keeps (x ∷ first) (y ∷ second) class values alike kept n =
    let here : values (number x) ≡ values (4 + number y) = cc in
    let rest : KeepTies first second values = cc in
    keeps first second (joined (number x) (4 + number y) class) values (joined_keeps (number x) (4 + number y) class values alike here) rest n

-- A field's class is a field of equal value.
pub class_keeps : (first second : List Hashable) (values : ℕ → ℕ) → KeepTies first second values → (n : ℕ) → values (class_of first second n) ≡ values n
class_keeps first second values kept n = keeps first second (λ m. m) values (λ m. refl) kept n

-- What is of one class stays so.
stays : (first second : List Hashable) (class : ℕ → ℕ) (m n : ℕ) → class m ≡ class n → classes_from class first second m ≡ classes_from class first second n
stays [] second class m n e = e
stays (x ∷ first) [] class m n e = e
stays (x ∷ first) (y ∷ second) class m n e =
    stays first second (joined (number x) (4 + number y) class) m n
    (ap (λ c. if c == class (4 + number y) then class (number x) else c) e)

both_at : (t : Bool) (x : ℕ) → (if t then x else x) ≡ x
both_at true x = refl
both_at false x = refl

ends_joined : (a b : ℕ) (class : ℕ → ℕ) → joined a b class a ≡ joined a b class b
ends_joined a b class = both_at (class a == class b) (class a) ∙ sym (at_same (class b) (class b) (class a) (class b) refl)

tied_from : (first second : List Hashable) (class : ℕ → ℕ) → length first ≡ length second → KeepTies first second (classes_from class first second)
tied_from [] [] class long = refl
tied_from [] (y ∷ second) class long = cc
tied_from (x ∷ first) [] class long = cc
tied_from (x ∷ first) (y ∷ second) class long =
    let a : ℕ = number x in
    let b : ℕ = 4 + number y in
    let here : classes_from (joined a b class) first second a ≡ classes_from (joined a b class) first second b = stays first second (joined a b class) a b (ends_joined a b class) in
    let rest : KeepTies first second (classes_from (joined a b class) first second) = tied_from first second (joined a b class) (omega arith) in
    cc

-- A kept label's two fields are of one class.
pub class_ties : (first second : List Hashable) → length first ≡ length second → KeepTies first second (class_of first second)
class_ties first second long = tied_from first second (λ n. n) long

pub classes_are_equal_fields : ClassesAreEqualFields
classes_are_equal_fields first second long m n = (
  λ e values kept. sym (class_keeps first second values kept m) ∙ ap values e ∙ class_keeps first second values kept n,
  λ equal. equal (class_of first second) (class_ties first second long),
)

joined_below : (a b : ℕ) (class : ℕ → ℕ) → a < 8 → ((n : ℕ) → n < 8 → class n < 8) → (n : ℕ) → n < 8 → joined a b class n < 8
joined_below a b class first within n below = of_test (class n == class b)
  where
    of_test : (t : Bool) → (if t then class a else class n) < 8
    of_test true = within a first
    of_test false = within n below

pub number_below : (field : Hashable) → number field < 4
number_below SrcIp = omega arith
number_below DstIp = omega arith
number_below SrcPort = omega arith
number_below DstPort = omega arith

below_from : (first second : List Hashable) (class : ℕ → ℕ) → ((n : ℕ) → n < 8 → class n < 8) → (n : ℕ) → n < 8 → classes_from class first second n < 8
below_from [] second class within n below = within n below
below_from (x ∷ first) [] class within n below = within n below
below_from (x ∷ first) (y ∷ second) class within n below =
    let low : number x < 4 = number_below x in
    below_from first second (joined (number x) (4 + number y) class) (joined_below (number x) (4 + number y) class (omega arith) within) n below

pub class_below : (first second : List Hashable) (n : ℕ) → n < 8 → class_of first second n < 8
class_below first second n below = below_from first second (λ m. m) (λ m h. h) n below

-- Classes that are equal at the eight fields stay so.
pub same_below : (first second : List Hashable) (f g : ℕ → ℕ) → ((n : ℕ) → n < 8 → f n ≡ g n) → (n : ℕ) → n < 8 → classes_from f first second n ≡ classes_from g first second n
same_below [] second f g same n below = same n below
same_below (x ∷ first) [] f g same n below = same n below
same_below (x ∷ first) (y ∷ second) f g same n below =
    let left : number x < 4 = number_below x in
    let right : number y < 4 = number_below y in
    let at_left : f (number x) ≡ g (number x) = same (number x) (omega arith) in
    let at_right : f (4 + number y) ≡ g (4 + number y) = same (4 + number y) (omega arith) in
    same_below first second (joined (number x) (4 + number y) f) (joined (number x) (4 + number y) g)
    (λ m small. let here : f m ≡ g m = same m small in cc) n below

pub opened : (n : ℕ) → n < 8 → get_or (0 ∷ 1 ∷ 2 ∷ 3 ∷ 4 ∷ 5 ∷ 6 ∷ 7 ∷ []) n 0 ≡ n
opened zero below = refl
opened (suc zero) below = refl
opened (suc (suc zero)) below = refl
opened (suc (suc (suc zero))) below = refl
opened (suc (suc (suc (suc zero)))) below = refl
opened (suc (suc (suc (suc (suc zero))))) below = refl
opened (suc (suc (suc (suc (suc (suc zero)))))) below = refl
opened (suc (suc (suc (suc (suc (suc (suc zero))))))) below = refl
opened (suc (suc (suc (suc (suc (suc (suc (suc n)))))))) below = absurd (omega arith)

-- one kept label more, with the classes in a list
pub one_tie : (first second : List Hashable) (i : ℕ) (d e : Hashable) (a b : ℕ) (old new : List ℕ) → i < length first → i < length second
    → a ≡ number (get_or first i d) → b ≡ number (get_or second i e)
    → ((n : ℕ) → n < 8 → get_or new n 0 ≡ joined a (4 + b) (λ m. get_or old m 0) n)
    → ((n : ℕ) → n < 8 → classes_from (λ m. get_or old m 0) (drop i first) (drop i second) n ≡ class_of first second n)
    → (n : ℕ) → n < 8 → classes_from (λ m. get_or new m 0) (drop (i + 1) first) (drop (i + 1) second) n ≡ class_of first second n
one_tie first second i d e a b old new in_first in_second is_a is_b joins so_far n below =
    let x : Hashable = get_or first i d in
    let y : Hashable = get_or second i e in
    let parts : drop i first ≡ get_or first i d ∷ drop (suc i) first = drop-cons first i d in_first in
    let parts_too : drop i second ≡ get_or second i e ∷ drop (suc i) second = drop-cons second i e in_second in
    ap (λ m. classes_from (λ k. get_or new k 0) (drop m first) (drop m second) n) (add-one i)
    ∙ same_below (drop (suc i) first) (drop (suc i) second) (λ m. get_or new m 0) (joined (number x) (4 + number y) (λ m. get_or old m 0))
    (λ m small. joins m small ∙ ap (λ k. joined k (4 + b) (λ j. get_or old j 0) m) is_a ∙ ap (λ k. joined (number x) (4 + k) (λ j. get_or old j 0) m) is_b) n below
    ∙ ap (λ l. classes_from (λ m. get_or old m 0) l (y ∷ drop (suc i) second) n) (sym parts)
    ∙ ap (λ l. classes_from (λ m. get_or old m 0) (drop i first) l n) (sym parts_too)
    ∙ so_far n below
