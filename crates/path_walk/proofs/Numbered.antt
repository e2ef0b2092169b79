-- Numbers that fields are known to be, in whatever order they were told.
use Rattle.std.proofs.Common.{◌≡◌, ◌<◌, ◌≤◌, arith, ℕ, zero, suc, Bool, true, false, not, ◌==◌, eqb-true, eq-eqb, List, [], ◌∷◌, length, get_or, slice_set, Option, Some, None, if◌then◌else◌, refl, ap, ap₂, sym, ◌∙◌, inl, inr}
use Rattle.std.proofs.lemmas.Bool.{cases_eq, cases_lt}
use Rattle.std.proofs.lemmas.List.{length-set, get_or-set_same, get_or-set_other, get_or_past, set-set, set_past}
use Rattle.path_walk.specs.declared.test.FieldIs.{FieldIs}
use Rattle.path_walk.specs.Tests.{field_number}
use Rattle.path_walk.specs.Known.{Marks, is_other, excludes, with_number, told_mark}
use Rattle.path_walk.proofs.Marking.{marks_of}

-- whether a field is known to be another number
abbrev pub bars : Option FieldIs → List (Option ℕ) → Bool
bars None ns = false
bars (Some x) ns = is_other (get_or ns (field_number x.field) None) x.number

pub bars_is : (o : Option FieldIs) (m : Marks) → excludes o m ≡ bars o m.numbers
bars_is None m = refl
bars_is (Some x) m = refl

-- two elements in either order
pub set_swap : {A : Type 0} (xs : List A) (i j : ℕ) (a b : A) → (i ≡ j → ⊥) → slice_set (slice_set xs i a) j b ≡ slice_set (slice_set xs j b) i a
set_swap [] i j a b h = refl
set_swap (x ∷ xs) zero zero a b h = absurd (h refl)
set_swap (x ∷ xs) zero (suc j) a b h = refl
set_swap (x ∷ xs) (suc i) zero a b h = refl
set_swap (x ∷ xs) (suc i) (suc j) a b h = ap (λ ys. x ∷ ys) (set_swap xs i j a b (λ e. h (ap suc e)))

past_none : (ns : List (Option ℕ)) (i v w : ℕ) → length ns ≤ i → is_other (get_or (slice_set ns i (Some v)) i None) w ≡ false
past_none ns i v w h =
    let e = length-set ns i (Some v) in
    let k : length (slice_set ns i (Some v)) ≤ i = omega arith in
    ap (λ (o : Option ℕ). is_other o w) (get_or_past (slice_set ns i (Some v)) i None k)

within : (ns : List (Option ℕ)) (i w : ℕ) → get_or ns i None ≡ Some w → i < length ns
within ns i w e = elim (cases_lt i (length ns)) [
  | inl h ↦ h
  | inr h ↦ let k : length ns ≤ i = omega arith in let p = get_or_past ns i None k in cc
]

same_number : (u n : ℕ) → is_other (Some u) n ≡ false → u ≡ n
same_number u n e = eqb-true u n (not_false (u == n) e)
  where
    not_false : (b : Bool) → not b ≡ false → b ≡ true
    not_false true e = refl
    not_false false e = cc

not_other : (n : ℕ) → is_other (Some n) n ≡ false
not_other n = ap not (eq-eqb n n refl)

-- of one field
one_bars : (ns : List (Option ℕ)) (i v w : ℕ) → is_other (get_or ns i None) w ≡ true → is_other (get_or ns i None) v ≡ false → is_other (get_or (slice_set ns i (Some v)) i None) w ≡ true
one_bars ns i v w h k = split (get_or ns i None) refl h k
  where
    split : (o : Option ℕ) → get_or ns i None ≡ o → is_other o w ≡ true → is_other o v ≡ false → is_other (get_or (slice_set ns i (Some v)) i None) w ≡ true
    split None g h k = cc
    split (Some u) g h k =
        ap (λ (o : Option ℕ). is_other o w) (get_or-set_same ns i (Some v) None (within ns i u g))
        ∙ ap (λ (z : ℕ). is_other (Some z) w) (sym (same_number u v k)) ∙ h

known_then : (ns : List (Option ℕ)) (i v w : ℕ) → i < length ns → is_other (get_or (slice_set ns i (Some w)) i None) v ≡ false → w ≡ v
known_then ns i v w h e = same_number w v (sym (ap (λ (o : Option ℕ). is_other o v) (get_or-set_same ns i (Some w) None h)) ∙ e)

one_free : (ns : List (Option ℕ)) (i v w : ℕ) → is_other (get_or (slice_set ns i (Some w)) i None) v ≡ false → is_other (get_or (slice_set ns i (Some v)) i None) w ≡ false
one_free ns i v w e = elim (cases_lt i (length ns)) [
  | inl h ↦
      let same = known_then ns i v w h e in
      ap (λ (o : Option ℕ). is_other o w) (get_or-set_same ns i (Some v) None h) ∙ ap (λ (z : ℕ). is_other (Some z) w) (sym same) ∙ not_other w
  | inr h ↦ past_none ns i v w (omega arith)
]

one_itself : (ns : List (Option ℕ)) (i v : ℕ) → is_other (get_or (slice_set ns i (Some v)) i None) v ≡ false
one_itself ns i v = elim (cases_lt i (length ns)) [
  | inl h ↦ ap (λ (o : Option ℕ). is_other o v) (get_or-set_same ns i (Some v) None h) ∙ not_other v
  | inr h ↦ past_none ns i v v (omega arith)
]

one_swap : (ns : List (Option ℕ)) (i v w : ℕ) → is_other (get_or (slice_set ns i (Some w)) i None) v ≡ false → slice_set (slice_set ns i (Some w)) i (Some v) ≡ slice_set (slice_set ns i (Some v)) i (Some w)
one_swap ns i v w e = elim (cases_lt i (length ns)) [
  | inl h ↦
      let same = known_then ns i v w h e in
      ap₂ (λ (a b : ℕ). slice_set (slice_set ns i (Some a)) i (Some b)) same (sym same)
  | inr h ↦
      let k : length ns ≤ i = omega arith in
      let left = ap (λ (l : List (Option ℕ)). slice_set l i (Some v)) (set_past ns i (Some w) k) ∙ set_past ns i (Some v) k in
      let right = ap (λ (l : List (Option ℕ)). slice_set l i (Some w)) (set_past ns i (Some v) k) ∙ set_past ns i (Some w) k in
      left ∙ sym right
]

-- of any two
pub bars_more : (e f : Option FieldIs) (ns : List (Option ℕ)) → bars f ns ≡ true → bars e ns ≡ false → bars f (with_number e ns) ≡ true
bars_more None f ns h k = h
bars_more (Some x) None ns h k = cc
bars_more (Some x) (Some y) ns h k = elim (cases_eq (field_number y.field) (field_number x.field)) [
  | inl q ↦
      let i = field_number x.field in
      let h2 : is_other (get_or ns i None) y.number ≡ true = sym (ap (λ (j : ℕ). is_other (get_or ns j None) y.number) q) ∙ h in
      ap (λ (j : ℕ). is_other (get_or (slice_set ns i (Some x.number)) j None) y.number) q ∙ one_bars ns i x.number y.number h2 k
  | inr q ↦ ap (λ (o : Option ℕ). is_other o y.number) (get_or-set_other ns (field_number x.field) (field_number y.field) (Some x.number) None q) ∙ h
]

pub bars_free : (e f : Option FieldIs) (ns : List (Option ℕ)) → bars e (with_number f ns) ≡ false → bars f ns ≡ false → bars f (with_number e ns) ≡ false
bars_free None f ns h k = k
bars_free (Some x) None ns h k = refl
bars_free (Some x) (Some y) ns h k = elim (cases_eq (field_number y.field) (field_number x.field)) [
  | inl q ↦
      let i = field_number x.field in
      let h2 : is_other (get_or (slice_set ns i (Some y.number)) i None) x.number ≡ false = sym (ap (λ (j : ℕ). is_other (get_or (slice_set ns j (Some y.number)) i None) x.number) q) ∙ h in
      ap (λ (j : ℕ). is_other (get_or (slice_set ns i (Some x.number)) j None) y.number) q ∙ one_free ns i x.number y.number h2
  | inr q ↦ ap (λ (o : Option ℕ). is_other o y.number) (get_or-set_other ns (field_number x.field) (field_number y.field) (Some x.number) None q) ∙ k
]

pub bars_itself : (e : Option FieldIs) (ns : List (Option ℕ)) → bars e (with_number e ns) ≡ false
bars_itself None ns = refl
bars_itself (Some x) ns = one_itself ns (field_number x.field) x.number

pub number_twice : (e : Option FieldIs) (ns : List (Option ℕ)) → with_number e (with_number e ns) ≡ with_number e ns
number_twice None ns = refl
number_twice (Some x) ns = set-set ns (field_number x.field) (Some x.number) (Some x.number)

pub number_swap : (e f : Option FieldIs) (ns : List (Option ℕ)) → bars e (with_number f ns) ≡ false → with_number e (with_number f ns) ≡ with_number f (with_number e ns)
number_swap None f ns h = refl
number_swap (Some x) None ns h = refl
number_swap (Some x) (Some y) ns h = elim (cases_eq (field_number y.field) (field_number x.field)) [
  | inl q ↦
      let i = field_number x.field in
      let h2 : is_other (get_or (slice_set ns i (Some y.number)) i None) x.number ≡ false = sym (ap (λ (j : ℕ). is_other (get_or (slice_set ns j (Some y.number)) i None) x.number) q) ∙ h in
      ap (λ (j : ℕ). slice_set (slice_set ns j (Some y.number)) i (Some x.number)) q
      ∙ one_swap ns i x.number y.number h2
      ∙ sym (ap (λ (j : ℕ). slice_set (slice_set ns i (Some x.number)) j (Some y.number)) q)
  | inr q ↦ set_swap ns (field_number y.field) (field_number x.field) (Some y.number) (Some x.number) q
]

-- two tests told in either order
pub told_swap : (m : Marks) (k n : ℕ) (f e : Option FieldIs) (c b : Bool) → (k ≡ n → ⊥) → (c ≡ true → b ≡ true → bars e (with_number f m.numbers) ≡ false) →
    told_mark (told_mark m k f c) n e b ≡ told_mark (told_mark m n e b) k f c
told_swap m k n f e c b apart free = ap₂ marks_of (set_swap m.marks k n (Some c) (Some b) apart) (numbers c b free)
  where
    numbers : (c b : Bool) → (c ≡ true → b ≡ true → bars e (with_number f m.numbers) ≡ false) →
        (if b then with_number e (if c then with_number f m.numbers else m.numbers) else (if c then with_number f m.numbers else m.numbers))
        ≡ (if c then with_number f (if b then with_number e m.numbers else m.numbers) else (if b then with_number e m.numbers else m.numbers))
    numbers true true free = number_swap e f m.numbers (free refl refl)
    numbers true false free = refl
    numbers false true free = refl
    numbers false false free = refl
