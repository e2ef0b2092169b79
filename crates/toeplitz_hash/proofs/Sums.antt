-- Sums over the numbers below a bound.
use Rattle.std.proofs.Common.{◌≡◌, ◌≢◌, ℕ, zero, suc, ◌+◌, ◌-◌, ◌%◌, ◌<◌, refl, ap, sym, ◌∙◌, add-zero, add-suc, arith}
use Rattle.toeplitz_hash.specs.Toeplitz.{sum_below}

pub sum_below-same :
    (n : ℕ) (f g : ℕ → ℕ) → ((i : ℕ) → i < n → f i ≡ g i) → sum_below n f ≡ sum_below n g
unfolding sum_below
sum_below-same zero f g same = refl
sum_below-same (suc n) f g same =
    let front : sum_below n f ≡ sum_below n g = sum_below-same n f g (λ i h. same i (omega arith)) in
    let last : f n ≡ g n = same n (omega arith) in
    cc

-- the sum of the first n numbers, and of k further ones
pub sum_below-append :
    (n k : ℕ) (f : ℕ → ℕ) → sum_below (n + k) f ≡ sum_below n f + sum_below k (λ i. f (n + i))
unfolding sum_below
sum_below-append n zero f = ap (λ m. sum_below m f) (add-zero n) ∙ sym (add-zero (sum_below n f))
sum_below-append n (suc k) f = rw add-suc (omega (arith, sum_below-append n k f))

pub sum_below-zero : (n : ℕ) (f : ℕ → ℕ) → ((i : ℕ) → i < n → f i ≡ 0) → sum_below n f ≡ 0
unfolding sum_below
sum_below-zero zero f none = refl
sum_below-zero (suc n) f none = omega (arith, sum_below-zero n f (λ i h. none i (omega arith)), none n (omega arith))

-- Where each number is the sum modulo 2 of two others, so is the sum.
pub sum_below-sum :
    (n : ℕ) (f g h : ℕ → ℕ) → ((i : ℕ) → i < n → f i % 2 ≡ (g i + h i) % 2)
    → sum_below n f % 2 ≡ (sum_below n g + sum_below n h) % 2
unfolding sum_below
sum_below-sum zero f g h sums = refl
sum_below-sum (suc n) f g h sums =
    omega (arith, sum_below-sum n f g h (λ i p. sums i (omega arith)), sums n (omega arith))

-- a sum of which one number alone is not 0
pub sum_below-one :
    (n k : ℕ) (f : ℕ → ℕ) → k < n → ((i : ℕ) → i < n → i ≢ k → f i ≡ 0) → sum_below n f ≡ f k
unfolding sum_below
sum_below-one n k f within others =
    let parts : sum_below n f ≡ sum_below (suc k) f + sum_below (n - suc k) (λ i. f (suc k + i)) =
    ap (λ m. sum_below m f) (omega arith) ∙ sum_below-append (suc k) (n - suc k) f in
    let front : sum_below k f ≡ 0 = sum_below-zero k f (λ i h. others i (omega arith) (omega arith)) in
    let back : sum_below (n - suc k) (λ i. f (suc k + i)) ≡ 0 =
    sum_below-zero (n - suc k) (λ i. f (suc k + i)) (λ i h. others (suc k + i) (omega arith) (omega arith)) in
    omega (arith, parts, front, back)
