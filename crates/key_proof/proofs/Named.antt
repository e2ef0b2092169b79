-- The row of a line, and what it has to do with windows.
use Rattle.std.proofs.Common.{◌≡◌, ℕ, zero, suc, ◌+◌, ◌-◌, ◌*◌, ◌<◌, ◌≤◌, ◌==◌, ◌&&◌, ◌||◌, nat_lt, not, refl, sym, ap, ◌∙◌, subst, inl, inr, true, false, Bool, List, [], ◌∷◌, ◌++◌, All, length, get_or, if◌then◌else◌, arith, add-one, Option, Some, None, IfSome, slice_get}
use Rattle.std.specs.List.{list_all, range_with_len}
use Rattle.std.proofs.lemmas.Bool.{and_parts, ltb-true, le-leb, eqb-true, eq-eqb, ne_eqb, false≢true, cases_eq, cases_Bool}
use Rattle.std.proofs.lemmas.List.Elements.{All-push, All-nil}
use Rattle.key_proof.proofs.Ranges.{all_at}
use Rattle.key_rows.specs.declared.place.Place.{Place}
use Rattle.key_rows.specs.Classes.{width_at, end_at}
use Rattle.key_rows.specs.Rows.{IsWithin}
use Rattle.certificate_laws.specs.Certificates.{place_number, numbers_below}
use Rattle.key_proof.specs.declared.numbered.Numbered.{Numbered}
use Rattle.key_proof.specs.Rows.{class_at, is_longer, are_longer, are_tied, row_if, row_of, ArePlacesWithin, IsRowWithin}
use Rattle.certificate_text.specs.Words.{and_then}
use Rattle.certificate_laws.specs.declared.line.Named.{Named}

pub tied_long : (ports : ℕ) (a b : Numbered) → are_tied ports a b ≡ true → length a.place.known ≡ length b.place.known
tied_long ports a b is =
    let one = and_parts (a.object == b.object) ((length a.place.known == length b.place.known) && (nat_lt a.place.port ports && nat_lt b.place.port ports)) is in
    let two = and_parts (length a.place.known == length b.place.known) (nat_lt a.place.port ports && nat_lt b.place.port ports) one.1 in
    eqb-true (length a.place.known) (length b.place.known) two.0

pub tied_object : (ports : ℕ) (a b : Numbered) → are_tied ports a b ≡ true → a.object ≡ b.object
tied_object ports a b is =
    let one = and_parts (a.object == b.object) ((length a.place.known == length b.place.known) && (nat_lt a.place.port ports && nat_lt b.place.port ports)) is in
    eqb-true a.object b.object one.0

pub tied_first : (ports : ℕ) (a b : Numbered) → are_tied ports a b ≡ true → a.place.port < ports
tied_first ports a b is =
    let one = and_parts (a.object == b.object) ((length a.place.known == length b.place.known) && (nat_lt a.place.port ports && nat_lt b.place.port ports)) is in
    let two = and_parts (length a.place.known == length b.place.known) (nat_lt a.place.port ports && nat_lt b.place.port ports) one.1 in
    let three = and_parts (nat_lt a.place.port ports) (nat_lt b.place.port ports) two.1 in
    ltb-true a.place.port ports three.0

pub tied_second : (ports : ℕ) (a b : Numbered) → are_tied ports a b ≡ true → b.place.port < ports
tied_second ports a b is =
    let one = and_parts (a.object == b.object) ((length a.place.known == length b.place.known) && (nat_lt a.place.port ports && nat_lt b.place.port ports)) is in
    let two = and_parts (length a.place.known == length b.place.known) (nat_lt a.place.port ports && nat_lt b.place.port ports) one.1 in
    let three = and_parts (nat_lt a.place.port ports) (nat_lt b.place.port ports) two.1 in
    ltb-true b.place.port ports three.1

or_then : (a b : Bool) → a ≡ true → (not a || b) ≡ true → b ≡ true
or_then true b is or = or
or_then false b is or = absurd (false≢true is)

pub longer : (first second : Place) (k t m : ℕ) → are_longer first second k t ≡ true → m < 8 → class_at first second m ≡ k → t < width_at first.family second.family m
longer first second k t m all below same =
    ltb-true t (width_at first.family second.family m)
    (or_then (class_at first second m == k) (nat_lt t (width_at first.family second.family m)) (eq-eqb (class_at first second m) k same)
    (all_at (is_longer first second k t) 0 8 m all (omega arith) (omega (arith, below))))

-- all windows of the class have the bit
pub are_within : (first second : Place) (k t result : ℕ) → are_longer first second k t ≡ true → result < 32 → IsWithin first.family second.family (class_at first second) k (t + 31 - result)
are_within first second k t result all low n below same = let less = longer first second k t n all below same in omega (arith, less, low)

-- the numbers of the fields so far
pub record AreNumbersBelow (first second : Place) (k u n : ℕ) (row : List ℕ) : Type 0 where
  pub value : row ≡ numbers_below first second k u n
  pub within : ArePlacesWithin first second row

pub numbers_none : (first second : Place) (k u : ℕ) → AreNumbersBelow first second k u 0 []
numbers_none first second k u = record { value = refl; within = λ ports one two. All-nil (λ place. place < 319 * ports) }

pub numbers_with : (first second : Place) (k u n place : ℕ) (row new : List ℕ) → new ≡ row ++ place ∷ [] → class_at first second n ≡ k → place ≡ place_number first second n u
    → ((ports : ℕ) → first.port < ports → second.port < ports → place < 319 * ports) → AreNumbersBelow first second k u n row → AreNumbersBelow first second k u (n + 1) new
numbers_with first second k u n place row new put same is within below = subst (AreNumbersBelow first second k u (n + 1)) (sym put) (record {
  value = ap (λ (l : List ℕ). l ++ place ∷ []) below.value
      ∙ ap (λ p. numbers_below first second k u n ++ p ∷ []) is
      ∙ sym (ap (λ b. numbers_below first second k u n ++ (if b then place_number first second n u ∷ [] else [])) (eq-eqb (class_at first second n) k same))
      ∙ ap (numbers_below first second k u) (sym (add-one n));
  within = λ ports one two. All-push (λ p. p < 319 * ports) row place (below.within ports one two) (within ports one two);
})

no_more : (xs : List ℕ) → xs ≡ xs ++ []
no_more [] = refl
no_more (x ∷ xs) = ap (λ ys. x ∷ ys) (no_more xs)

pub numbers_without : (first second : Place) (k u n : ℕ) (row : List ℕ) → (class_at first second n ≡ k → ⊥) → AreNumbersBelow first second k u n row → AreNumbersBelow first second k u (n + 1) row
numbers_without first second k u n row other below = record {
  value = below.value ∙ no_more (numbers_below first second k u n)
      ∙ sym (ap (λ b. numbers_below first second k u n ++ (if b then place_number first second n u ∷ [] else [])) (ne_eqb (class_at first second n) k other))
      ∙ ap (numbers_below first second k u) (sym (add-one n));
  within = below.within;
}

-- the numbers of two sites' row are among those of the ports
pub tied_within : (ports : ℕ) (a b : Numbered) (row : Option (List ℕ)) → are_tied ports a b ≡ true → IfSome row (ArePlacesWithin a.place b.place) → IfSome row (IsRowWithin ports)
tied_within ports a b None tied within = tt
tied_within ports a b (Some row) tied within = within ports (tied_first ports a b tied) (tied_second ports a b tied)

pub row_there : (ports : ℕ) (sites : List Numbered) (named : Named) (a : Numbered) (row : Option (List ℕ)) → named.first ≤ named.second → slice_get sites named.first ≡ Some a
    → row ≡ and_then (slice_get sites named.second) (row_if ports named a) → row ≡ row_of ports sites named
row_there ports sites named a row order is found =
    found ∙ sym (ap (λ o. and_then o (λ a. and_then (slice_get sites named.second) (row_if ports named a))) is)
    ∙ sym (ap (λ t. if t then and_then (slice_get sites named.first) (λ a. and_then (slice_get sites named.second) (row_if ports named a)) else None) (le-leb named.first named.second order))

pub row_none : (ports : ℕ) (sites : List Numbered) (named : Named) → named.first ≤ named.second → slice_get sites named.first ≡ None → None ≡ row_of ports sites named
row_none ports sites named order is =
    sym (ap (λ o. and_then o (λ a. and_then (slice_get sites named.second) (row_if ports named a))) is)
    ∙ sym (ap (λ t. if t then and_then (slice_get sites named.first) (λ a. and_then (slice_get sites named.second) (row_if ports named a)) else None) (le-leb named.first named.second order))

-- what stands at a place of a list
pub get_there : (xs : List Numbered) (i : ℕ) (x : Numbered) → i < length xs → x ≡ get_or xs i x → slice_get xs i ≡ Some x
get_there [] i x below is = absurd (omega (arith, below))
get_there (y ∷ xs) zero x below is = ap Some (sym is)
get_there (y ∷ xs) (suc i) x below is = get_there xs i x (omega (arith, below)) is

pub get_none : (xs : List Numbered) (i : ℕ) → length xs ≤ i → slice_get xs i ≡ None
get_none [] i past = refl
get_none (y ∷ xs) zero past = absurd (omega (arith, past))
get_none (y ∷ xs) (suc i) past = get_none xs i (omega (arith, past))
