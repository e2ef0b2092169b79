-- The files whose bytes stand under a name.
use Rattle.std.proofs.Common.{◌≡◌, ◌≢◌, ℕ, zero, suc, ◌<◌, List, [], ◌∷◌, ◌++◌, map, length, Option, Some, None, slice_get, Bool, true, false, ◌&&◌, not, ◌⊎◌, inl, inr, refl, ap, sym, ◌∙◌, subst, arith}
use Rattle.std.specs.Cmp.Lexicographic.{same_text}
use Rattle.std.specs.Str.{bytes_eq}
use Rattle.nf_files.specs.declared.memory.opened.OpenFile.{OpenFile}
use Rattle.nf_files.specs.declared.kind.Kind.{Kind}
use Rattle.nf_files.specs.declared.kind.Kind.TheVariants.{Input, Output}
use Rattle.nf_files.specs.Opened.{name_of, kind_of, if_output, is_named, stands_under, later, last_created, displaced}

below_step : (o : Option ℕ) (b : Bool) (len j : ℕ) → ((i : ℕ) → o ≡ Some i → i < len) → later o b ≡ Some j → j < suc len
below_step (Some i) b len j below at = let same : suc i ≡ j = cc in omega (arith, same, below i refl)
below_step None true len j below at = let same : 0 ≡ j = cc in omega (arith, same)
below_step None false len j below at = cc

-- it is in the list
pub last_within : (xs : List OpenFile) (n : List ℕ) (j : ℕ) → last_created xs n ≡ Some j → j < length xs
last_within [] n j at = cc
last_within (x ∷ xs) n j at = below_step (last_created xs n) (stands_under x n) (length xs) j (λ i h. last_within xs n i h) at

named : (k : Kind) (s : Bool) (name n : List ℕ) → is_named k (s && bytes_eq name n) ≡ true → if_output k name ≡ Some n
named Input s name n h = cc
named Output true name n h = ap Some (same_text name n (sym h))
named Output false name n h = cc

named_step : (x : OpenFile) (xs : List OpenFile) (n : List ℕ) (j : ℕ) (o : Option ℕ) (b : Bool) → o ≡ last_created xs n → b ≡ stands_under x n → ((i : ℕ) → last_created xs n ≡ Some i → name_of (slice_get xs i) ≡ Some n) → later o b ≡ Some j → name_of (slice_get (x ∷ xs) j) ≡ Some n
named_step x xs n j (Some i) b is here before at =
    let same : suc i ≡ j = cc in subst (λ (m : ℕ). name_of (slice_get (x ∷ xs) m) ≡ Some n) same (before i (sym is))
named_step x xs n j None true is here before at =
    let same : 0 ≡ j = cc in subst (λ (m : ℕ). name_of (slice_get (x ∷ xs) m) ≡ Some n) same (named x.kind x.stands x.name.items n (sym here))
named_step x xs n j None false is here before at = cc

-- it was created under that name
pub last_named : (xs : List OpenFile) (n : List ℕ) (j : ℕ) → last_created xs n ≡ Some j → name_of (slice_get xs j) ≡ Some n
last_named [] n j at = cc
last_named (x ∷ xs) n j at = named_step x xs n j (last_created xs n) (stands_under x n) refl refl (λ i h. last_named xs n i h) at

pub test_of : (b : Bool) → (b ≡ true) ⊎ (b ≡ false)
test_of true = inl refl
test_of false = inr refl

pub not_same : (a b : List ℕ) → b ≢ a → bytes_eq a b ≡ false
not_same a b other = elim (test_of (bytes_eq a b)) [
  | inl same ↦ absurd (other (sym (same_text a b (sym same))))
  | inr differs ↦ differs
]

unnamed : (k : Kind) (s b : Bool) → b ≡ false → is_named k (s && b) ≡ false
unnamed Input s b e = refl
unnamed Output true b e = e
unnamed Output false b e = refl

-- a file of another name, and one that is read, doesn't stand there
pub not_under : (f : OpenFile) (n : List ℕ) → n ≢ f.name.items → stands_under f n ≡ false
not_under f n other = unnamed f.kind f.stands (bytes_eq f.name.items n) (not_same f.name.items n other)

-- one more file
pub got_last : (xs : List OpenFile) (y : OpenFile) → slice_get (xs ++ y ∷ []) (length xs) ≡ Some y
got_last [] y = refl
got_last (x ∷ xs) y = got_last xs y

pub got_before : (xs : List OpenFile) (j : ℕ) (y : OpenFile) → j ≢ length xs → slice_get (xs ++ y ∷ []) j ≡ slice_get xs j
got_before [] zero y other = absurd (other refl)
got_before [] (suc j) y other = refl
got_before (x ∷ xs) zero y other = refl
got_before (x ∷ xs) (suc j) y other = got_before xs j y (λ e. other (ap suc e))

pub kind_grows : (xs : List OpenFile) (j : ℕ) (y : OpenFile) (k : Kind) → kind_of (slice_get xs j) ≡ Some k → kind_of (slice_get (xs ++ y ∷ []) j) ≡ Some k
kind_grows [] j y k h = cc
kind_grows (x ∷ xs) zero y k h = h
kind_grows (x ∷ xs) (suc j) y k h = kind_grows xs j y k h

pub last_now : (xs : List OpenFile) (y : OpenFile) (n : List ℕ) → stands_under y n ≡ true → last_created (xs ++ y ∷ []) n ≡ Some (length xs)
last_now [] y n here = ap (later None) here
last_now (x ∷ xs) y n here = ap (λ o. later o (stands_under x n)) (last_now xs y n here)

pub last_before : (xs : List OpenFile) (y : OpenFile) (n : List ℕ) → stands_under y n ≡ false → last_created (xs ++ y ∷ []) n ≡ last_created xs n
last_before [] y n here = ap (later None) here
last_before (x ∷ xs) y n here = ap (λ o. later o (stands_under x n)) (last_before xs y n here)

-- something else was put under a name
gone : (k : Kind) (s b : Bool) → is_named k ((s && not b) && b) ≡ false
gone Input s b = refl
gone Output true true = refl
gone Output true false = refl
gone Output false b = refl

pub last_gone : (xs : List OpenFile) (n : List ℕ) → last_created (map (displaced n) xs) n ≡ None
last_gone [] n = refl
last_gone (x ∷ xs) n = rw (last_gone xs n, gone x.kind x.stands (bytes_eq x.name.items n)) refl

stays : (k : Kind) (s put b : Bool) → (b ≡ true → put ≡ false) → is_named k ((s && not put) && b) ≡ is_named k (s && b)
stays Input s put b apart = refl
stays Output true true true apart = absurd (let e : true ≡ false = apart refl in cc)
stays Output true true false apart = refl
stays Output true false b apart = refl
stays Output false put b apart = refl

stays_under : (f : OpenFile) (put n : List ℕ) → n ≢ put → stands_under (displaced put f) n ≡ stands_under f n
stays_under f put n other =
    stays f.kind f.stands (bytes_eq f.name.items put) (bytes_eq f.name.items n) (λ here. not_same f.name.items put (λ e. other (sym (same_text f.name.items n (sym here)) ∙ sym e)))

pub last_stays : (xs : List OpenFile) (put n : List ℕ) → n ≢ put → last_created (map (displaced put) xs) n ≡ last_created xs n
last_stays [] put n other = refl
last_stays (x ∷ xs) put n other = rw (last_stays xs put n other, stays_under x put n other) refl
