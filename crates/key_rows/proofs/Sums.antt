-- Sums of sums, and sums by classes.
use Rattle.std.proofs.Common.{◌≡◌, ◌≢◌, ℕ, zero, suc, ◌+◌, ◌*◌, ◌%◌, ◌-◌, ◌≤◌, ◌<◌, ◌==◌, refl, ap, sym, ◌∙◌, Bool, true, false, arith, if◌then◌else◌}
use Rattle.std.proofs.lemmas.Bool.{eq-eqb, ne_eqb}
use Rattle.toeplitz_hash.specs.Toeplitz.{sum_below}
use Rattle.toeplitz_hash.proofs.Sums.{sum_below-same, sum_below-append, sum_below-zero, sum_below-one}

pub sum_below-plus : (n : ℕ) (f g : ℕ → ℕ) → sum_below n (λ i. f i + g i) ≡ sum_below n f + sum_below n g
unfolding sum_below
sum_below-plus zero f g = refl
sum_below-plus (suc n) f g = omega (arith, sum_below-plus n f g)

pub sum_below-times : (n x : ℕ) (f : ℕ → ℕ) → sum_below n (λ i. x * f i) ≡ x * sum_below n f
unfolding sum_below
sum_below-times zero x f = omega arith
sum_below-times (suc n) x f = omega (arith, sum_below-times n x f)

pub sum_below-swap : (n m : ℕ) (f : ℕ → ℕ → ℕ) → sum_below n (λ i. sum_below m (f i)) ≡ sum_below m (λ k. sum_below n (λ i. f i k))
unfolding sum_below
sum_below-swap zero m f = sym (sum_below-zero m (λ k. 0) (λ k below. refl))
sum_below-swap (suc n) m f =
    ap (λ s. s + sum_below m (f n)) (sum_below-swap n m f) ∙ sym (sum_below-plus m (λ k. sum_below n (λ i. f i k)) (f n))

pub sum_below-even : (n : ℕ) (f : ℕ → ℕ) → ((i : ℕ) → i < n → f i % 2 ≡ 0) → sum_below n f % 2 ≡ 0
unfolding sum_below
sum_below-even zero f evens = refl
sum_below-even (suc n) f evens = omega (arith, sum_below-even n f (λ i h. evens i (omega arith)), evens n (omega arith))

-- a number at its own class, and at another
pub at_same : (c k x y : ℕ) → c ≡ k → (if c == k then x else y) ≡ x
at_same c k x y same = rw (eq-eqb c k same)

pub at_other : (c k x y : ℕ) → c ≢ k → (if c == k then x else y) ≡ y
at_other c k x y other = rw (ne_eqb c k other)

-- the number at class c, as a sum over all classes
alone : (n c : ℕ) (f : ℕ → ℕ) → c < n → f c ≡ sum_below n (λ k. if c == k then f k else 0)
alone n c f within =
    sym (sum_below-one n c (λ k. if c == k then f k else 0) within (λ k below other. at_other c k (f k) 0 (λ e. other (sym e)))
    ∙ at_same c c (f c) 0 refl)

-- a sum class by class
pub by_class : (n : ℕ) (class : ℕ → ℕ) (f : ℕ → ℕ → ℕ) → ((i : ℕ) → i < n → class i < n) → sum_below n (λ i. f (class i) i) ≡ sum_below n (λ k. sum_below n (λ i. if class i == k then f k i else 0))
by_class n class f within =
    sum_below-same n (λ i. f (class i) i) (λ i. sum_below n (λ k. if class i == k then f k i else 0))
    (λ i below. alone n (class i) (λ k. f k i) (within i below))
    ∙ sum_below-swap n n (λ i k. if class i == k then f k i else 0)

pub even_times : (x y : ℕ) → x < 2 → y % 2 ≡ 0 → (x * y) % 2 ≡ 0
even_times zero y bit even = omega arith
even_times (suc zero) y bit even = omega arith
even_times (suc (suc x)) y bit even = absurd (omega arith)

-- products whose first factor goes by class: one class's part of the sum
one_class : (n m k : ℕ) (class x : ℕ → ℕ) (g : ℕ → ℕ → ℕ)
    → sum_below n (λ i. if class i == k then sum_below m (λ o. x o * g i o) else 0)
    ≡ sum_below m (λ o. x o * sum_below n (λ i. if class i == k then g i o else 0))
one_class n m k class x g =
    sum_below-same n (λ i. if class i == k then sum_below m (λ o. x o * g i o) else 0) (λ i. sum_below m (λ o. x o * (if class i == k then g i o else 0)))
    (λ i below. chosen (class i == k) i)
    ∙ sum_below-swap n m (λ i o. x o * (if class i == k then g i o else 0))
    ∙ sum_below-same m (λ o. sum_below n (λ i. x o * (if class i == k then g i o else 0))) (λ o. x o * sum_below n (λ i. if class i == k then g i o else 0))
    (λ o below. sum_below-times n (x o) (λ i. if class i == k then g i o else 0))
  where
    chosen : (t : Bool) (i : ℕ) → (if t then sum_below m (λ o. x o * g i o) else 0) ≡ sum_below m (λ o. x o * (if t then g i o else 0))
    chosen true i = refl
    chosen false i = sym (sum_below-zero m (λ o. x o * 0) (λ o below. omega arith))

-- Where each class's value times the sum of its second factors is even, so is the sum of all products.
pub even_by_class : (n m : ℕ) (class : ℕ → ℕ) (x g : ℕ → ℕ → ℕ)
    → ((i : ℕ) → i < n → class i < n)
    → ((i o : ℕ) → x (class i) o ≡ x i o)
    → ((k o : ℕ) → k < n → o < m → (x k o * sum_below n (λ i. if class i == k then g i o else 0)) % 2 ≡ 0)
    → sum_below n (λ i. sum_below m (λ o. x i o * g i o)) % 2 ≡ 0
even_by_class n m class x g within alike evens =
    let moved : sum_below n (λ i. sum_below m (λ o. x i o * g i o)) ≡ sum_below n (λ i. sum_below m (λ o. x (class i) o * g i o)) =
    sum_below-same n (λ i. sum_below m (λ o. x i o * g i o)) (λ i. sum_below m (λ o. x (class i) o * g i o))
    (λ i below. sum_below-same m (λ o. x i o * g i o) (λ o. x (class i) o * g i o) (λ o small. ap (λ b. b * g i o) (sym (alike i o)))) in
    let parted : sum_below n (λ i. sum_below m (λ o. x (class i) o * g i o)) ≡ sum_below n (λ k. sum_below n (λ i. if class i == k then sum_below m (λ o. x k o * g i o) else 0)) =
    by_class n class (λ k i. sum_below m (λ o. x k o * g i o)) within in
    let even : sum_below n (λ k. sum_below n (λ i. if class i == k then sum_below m (λ o. x k o * g i o) else 0)) % 2 ≡ 0 =
    sum_below-even n (λ k. sum_below n (λ i. if class i == k then sum_below m (λ o. x k o * g i o) else 0))
    (λ k below. ap (λ s. s % 2) (one_class n m k class (x k) g)
    ∙ sum_below-even m (λ o. x k o * sum_below n (λ i. if class i == k then g i o else 0))
    (λ o small. evens k o below small)) in
    omega (arith, moved, parted, even)

-- a sum from its end
pub sum_below-reverse : (n : ℕ) (f : ℕ → ℕ) → sum_below n f ≡ sum_below n (λ t. f (n - 1 - t))
unfolding sum_below
sum_below-reverse zero f = refl
sum_below-reverse (suc n) f =
    let g : ℕ → ℕ = λ t. f (suc n - 1 - t) in
    let front : sum_below (1 + n) g ≡ sum_below 1 g + sum_below n (λ i. g (1 + i)) = sum_below-append 1 n g in
    let first : g 0 ≡ f n = ap f (omega arith) in
    let rest : sum_below n (λ i. g (1 + i)) ≡ sum_below n (λ t. f (n - 1 - t)) =
    sum_below-same n (λ i. g (1 + i)) (λ t. f (n - 1 - t)) (λ i below. ap f (omega arith)) in
    let before : sum_below n f ≡ sum_below n (λ t. f (n - 1 - t)) = sum_below-reverse n f in
    let next : 1 + n ≡ suc n = omega arith in
    let count : sum_below (1 + n) g ≡ sum_below (suc n) g = ap (λ m. sum_below m g) next in
    let alone_ : sum_below 1 g ≡ 0 + g 0 = refl in
    omega (arith, front, first, rest, before, count, alone_)

-- a sum with zeros behind it
pub sum_below-longer : (n m : ℕ) (f : ℕ → ℕ) → ((i : ℕ) → n ≤ i → f i ≡ 0) → sum_below (n + m) f ≡ sum_below n f
sum_below-longer n m f zeros =
    let parts : sum_below (n + m) f ≡ sum_below n f + sum_below m (λ i. f (n + i)) = sum_below-append n m f in
    let none : sum_below m (λ i. f (n + i)) ≡ 0 = sum_below-zero m (λ i. f (n + i)) (λ i below. zeros (n + i) (omega arith)) in
    omega (arith, parts, none)
