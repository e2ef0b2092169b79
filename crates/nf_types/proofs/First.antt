-- The first fault of lists one behind the other.
use Rattle.std.proofs.Common.{◌≡◌, List, [], ◌∷◌, ◌++◌, None, Bool, true, false, ◌||◌, refl}
use Rattle.std.specs.Option.{option_or}
use Rattle.nf_types.specs.declared.fault.Fault.{Fault}
use Rattle.nf_tokens.specs.declared.token.Place.{Place}
use Rattle.nf_types.specs.declared.fault.TypingKind.{TypingKind}
use Rattle.nf_types.specs.Faults.{first, fault_if}

pub first_append : (xs ys : List Fault) → first (xs ++ ys) ≡ option_or (first xs) (first ys)
first_append [] ys = refl
first_append (x ∷ xs) ys = refl

-- where there is no first fault, there is none
pub first_none : (xs : List Fault) → first xs ≡ None → xs ≡ []
first_none [] e = refl
first_none (x ∷ xs) e = cc

-- where nothing is wrong with two parts, nothing is wrong with either
pub front_none : (xs ys : List Fault) → first (xs ++ ys) ≡ None → first xs ≡ None
front_none [] ys e = refl
front_none (x ∷ xs) ys e = e

pub back_none : (xs ys : List Fault) → first (xs ++ ys) ≡ None → first ys ≡ None
back_none [] ys e = e
back_none (x ∷ xs) ys e = cc

pub test_none : (b : Bool) (kind : TypingKind) (place : Place) → first (fault_if b kind place) ≡ None → b ≡ false
test_none true kind place e = cc
test_none false kind place e = refl

-- where neither of two tests holds
pub or_false : (a b : Bool) → (a || b) ≡ false → (a ≡ false) × (b ≡ false)
or_false true b e = cc
or_false false b e = (refl, e)
