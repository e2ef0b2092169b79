-- Sums of rows.
use Rattle.std.proofs.Common.{◌≡◌, ℕ, zero, suc, ◌<◌, ◌≤◌, refl, sym, ap, ◌∙◌, Bool, true, false, ◌&&◌, List, [], ◌∷◌, ◌++◌, length, set, take, replicate, arith}
use Rattle.gf2_solve.specs.Sums.{plus, bit, sum_of}

pub plus_zero : (a : Bool) → plus a false ≡ a
plus_zero false = refl
plus_zero true = refl

pub and_zero : (a : Bool) → (a && false) ≡ false
and_zero false = refl
and_zero true = refl

pub plus_assoc : (a b c : Bool) → plus (plus a b) c ≡ plus a (plus b c)
plus_assoc false b c = refl
plus_assoc true false c = refl
plus_assoc true true false = refl
plus_assoc true true true = refl

pub plus_self : (a : Bool) → plus a a ≡ false
plus_self false = refl
plus_self true = refl

pub plus_comm : (a b : Bool) → plus a b ≡ plus b a
plus_comm false false = refl
plus_comm false true = refl
plus_comm true false = refl
plus_comm true true = refl

-- two bits with the sum 0 are equal
pub same_bits : (a b : Bool) → plus a b ≡ false → b ≡ a
same_bits false b h = h
same_bits true true h = refl
same_bits true false h = sym h

pub sum_of_none : (row : List Bool) → sum_of row [] ≡ false
sum_of_none [] = refl
sum_of_none (a ∷ row) = refl

-- a row with one more bit
pub sum_of-push : (row x : List Bool) (a : Bool) → sum_of (row ++ a ∷ []) x ≡ plus (sum_of row x) (a && bit x (length row))
sum_of-push [] [] a = sym (and_zero a)
sum_of-push [] (b ∷ x) a = plus_zero (a && b)
sum_of-push (r ∷ row) [] a = sym (and_zero a)
sum_of-push (r ∷ row) (b ∷ x) a = ap (plus (r && b)) (sum_of-push row x a) ∙ sym (plus_assoc (r && b) (sum_of row x) (a && bit x (length row)))

-- a row with a bit added at i
pub sum_of-set : (row x : List Bool) (i : ℕ) (a : Bool) → i < length row → sum_of (set row i (plus (bit row i) a)) x ≡ plus (sum_of row x) (a && bit x i)
sum_of-set [] x i a h = absurd (omega arith)
sum_of-set (r ∷ row) [] zero a h = sym (and_zero a)
sum_of-set (r ∷ row) [] (suc i) a h = sym (and_zero a)
sum_of-set (r ∷ row) (b ∷ x) zero a h = bits r a b (sum_of row x)
  where
    bits : (r a b s : Bool) → plus (plus r a && b) s ≡ plus (plus (r && b) s) (a && b)
    bits false false b s = sym (plus_zero s)
    bits false true b s = plus_comm b s
    bits true false b s = sym (plus_zero (plus b s))
    bits true true false s = sym (plus_zero s)
    bits true true true false = refl
    bits true true true true = refl
sum_of-set (r ∷ row) (b ∷ x) (suc i) a h =
    ap (plus (r && b)) (sum_of-set row x i a (omega arith)) ∙ sym (plus_assoc (r && b) (sum_of row x) (a && bit x i))

-- bits of the vector past the row's end
pub sum_of-append : (row x y : List Bool) → length row ≤ length x → sum_of row (x ++ y) ≡ sum_of row x
sum_of-append [] x y h = refl
sum_of-append (r ∷ row) [] y h = absurd (omega arith)
sum_of-append (r ∷ row) (b ∷ x) y h = ap (plus (r && b)) (sum_of-append row x y (omega arith))

-- bits of the row past the vector's end
pub sum_of-take : (n : ℕ) (row x : List Bool) → length x ≤ n → sum_of (take n row) x ≡ sum_of row x
sum_of-take zero [] x h = refl
sum_of-take zero (r ∷ row) [] h = refl
sum_of-take zero (r ∷ row) (b ∷ x) h = absurd (omega arith)
sum_of-take (suc n) [] x h = refl
sum_of-take (suc n) (r ∷ row) [] h = refl
sum_of-take (suc n) (r ∷ row) (b ∷ x) h = ap (plus (r && b)) (sum_of-take n row x (omega arith))

-- a row of zeros
pub sum_of-zeros : (n : ℕ) (x : List Bool) → sum_of (replicate n false) x ≡ false
sum_of-zeros zero x = refl
sum_of-zeros (suc n) [] = refl
sum_of-zeros (suc n) (b ∷ x) = sum_of-zeros n x
