-- Lists of numbers that rise, or that all differ, between two bounds.
use Rattle.std.proofs.Common.{◌≡◌, ◌≢◌, ℕ, suc, zero, ◌+◌, ◌<◌, ◌≤◌, List, [], ◌∷◌, ◌++◌, length, slice_index, arith, sym}
use Rattle.std.specs.List.{All, AllPairs, flat_map}
use Rattle.std.specs.List.Sorted.{IsStrictlyIncreasing}
use Rattle.std.proofs.lemmas.List.Elements.{All-nil, All-cons}
use Rattle.std.proofs.lemmas.List.Kept.{AllPairs-cons}

-- numbers from lo on and below hi, each above those before it
abbrev pub Rises : ℕ → ℕ → List ℕ → Type 0
Rises lo hi [] = lo ≤ hi
Rises lo hi (n ∷ ns) = (lo ≤ n) × Rises (n + 1) hi ns

-- the bounds of what rises
rises_bounds : (lo hi : ℕ) (ns : List ℕ) → Rises lo hi ns → lo ≤ hi
rises_bounds lo hi [] r = r
rises_bounds lo hi (n ∷ ns) r = omega (arith, r.0, rises_bounds (n + 1) hi ns r.1)

-- wider bounds
pub rises_wider : (lo more hi most : ℕ) (ns : List ℕ) → lo ≤ more → hi ≤ most → Rises more hi ns → Rises lo most ns
rises_wider lo more hi most [] p q r = omega (arith, p, q, r)
rises_wider lo more hi most (n ∷ ns) p q r =
    (omega (arith, p, r.0), rises_wider (n + 1) (n + 1) hi most ns (omega arith) q r.1)

pub rises_append : (lo mid hi : ℕ) (ns ms : List ℕ) → Rises lo mid ns → Rises mid hi ms → Rises lo hi (ns ++ ms)
rises_append lo mid hi [] ms r s = rises_wider lo mid hi hi ms r (omega arith) s
rises_append lo mid hi (n ∷ ns) ms r s = (r.0, rises_append (n + 1) mid hi ns ms r.1 s)

pub rises_front : (lo hi : ℕ) (ns ms : List ℕ) → Rises lo hi (ns ++ ms) → Rises lo hi ns
rises_front lo hi [] ms r = rises_bounds lo hi ms r
rises_front lo hi (n ∷ ns) ms r = (r.0, rises_front (n + 1) hi ns ms r.1)

-- a number from lo on and below hi
pub record Between (lo hi n : ℕ) : Type 0 where
  pub least : lo ≤ n
  pub below : n < hi

abbrev pub Within : ℕ → ℕ → List ℕ → Type 0
Within lo hi [] = Unit {0}
Within lo hi (n ∷ ns) = Between lo hi n × Within lo hi ns

-- a number that stands in no list of others
abbrev pub Misses : ℕ → List ℕ → Type 0
Misses n [] = Unit {0}
Misses n (m ∷ ms) = (n ≢ m) × Misses n ms

-- no number stands in both lists
abbrev pub Apart : List ℕ → List ℕ → Type 0
Apart [] ms = Unit {0}
Apart (n ∷ ns) ms = Misses n ms × Apart ns ms

-- no two numbers are the same
abbrev pub Differ : List ℕ → Type 0
Differ [] = Unit {0}
Differ (n ∷ ns) = Misses n ns × Differ ns

misses_above : (n mid hi : ℕ) (ms : List ℕ) → n < mid → Within mid hi ms → Misses n ms
misses_above n mid hi [] lt w = tt
misses_above n mid hi (m ∷ ms) lt w =
    let least : mid ≤ m = w.0.least in
    (omega (arith, least, lt), misses_above n mid hi ms lt w.1)

misses_append : (n : ℕ) (ms ks : List ℕ) → Misses n ms → Misses n ks → Misses n (ms ++ ks)
misses_append n [] ks p q = q
misses_append n (m ∷ ms) ks p q = (p.0, misses_append n ms ks p.1 q)

pub apart_ranges : (lo mid hi : ℕ) (ns ms : List ℕ) → Within lo mid ns → Within mid hi ms → Apart ns ms
apart_ranges lo mid hi [] ms p q = tt
apart_ranges lo mid hi (n ∷ ns) ms p q =
    (misses_above n mid hi ms p.0.below q, apart_ranges lo mid hi ns ms p.1 q)

pub apart_append : (ns ms ks : List ℕ) → Apart ns ms → Apart ns ks → Apart ns (ms ++ ks)
apart_append [] ms ks p q = tt
apart_append (n ∷ ns) ms ks p q = (misses_append n ms ks p.0 q.0, apart_append ns ms ks p.1 q.1)

pub apart_none : (ns : List ℕ) → Apart ns []
apart_none [] = tt
apart_none (n ∷ ns) = (tt, apart_none ns)

apart_one : (m : ℕ) (ns : List ℕ) → Misses m ns → Apart ns (m ∷ [])
apart_one m [] p = tt
apart_one m (n ∷ ns) p = ((λ e. p.0 (sym e), tt), apart_one m ns p.1)

pub apart_sym : (ns ms : List ℕ) → Apart ms ns → Apart ns ms
apart_sym ns [] p = apart_none ns
apart_sym ns (m ∷ ms) p = apart_append ns (m ∷ []) ms (apart_one m ns p.0) (apart_sym ns ms p.1)

pub differ_append : (ns ms : List ℕ) → Differ ns → Differ ms → Apart ns ms → Differ (ns ++ ms)
differ_append [] ms p q a = q
differ_append (n ∷ ns) ms p q a = (misses_append n ns ms p.0 a.0, differ_append ns ms p.1 q a.1)

pub within_append : (lo hi : ℕ) (ns ms : List ℕ) → Within lo hi ns → Within lo hi ms → Within lo hi (ns ++ ms)
within_append lo hi [] ms p q = q
within_append lo hi (n ∷ ns) ms p q = (p.0, within_append lo hi ns ms p.1 q)

pub within_wider : (lo more hi most : ℕ) (ns : List ℕ) → lo ≤ more → hi ≤ most → Within more hi ns → Within lo most ns
within_wider lo more hi most [] p q w = tt
within_wider lo more hi most (n ∷ ns) p q w =
    let least : more ≤ n = w.0.least in
    let below : n < hi = w.0.below in
    (record { least = omega (arith, least, p); below = omega (arith, below, q) }, within_wider lo more hi most ns p q w.1)

-- numbers between two bounds that all differ
pub record Spread (lo hi : ℕ) (ns : List ℕ) : Type 0 where
  pub bounds : lo ≤ hi
  pub within : Within lo hi ns
  pub differ : Differ ns

pub spread_none : (lo hi : ℕ) → lo ≤ hi → Spread lo hi []
spread_none lo hi p = record { bounds = p; within = tt; differ = tt }

pub spread_wider : (lo more hi most : ℕ) (ns : List ℕ) → lo ≤ more → hi ≤ most → Spread more hi ns → Spread lo most ns
spread_wider lo more hi most ns p q s = record {
  bounds = omega (arith, p, q, s.bounds);
  within = within_wider lo more hi most ns p q s.within;
  differ = s.differ;
}

pub spread_append : (lo mid hi : ℕ) (ns ms : List ℕ) → Spread lo mid ns → Spread mid hi ms → Spread lo hi (ns ++ ms)
spread_append lo mid hi ns ms s t = record {
  bounds = omega (arith, s.bounds, t.bounds);
  within = within_append lo hi ns ms
      (within_wider lo lo mid hi ns (omega arith) t.bounds s.within)
      (within_wider lo mid hi hi ms s.bounds (omega arith) t.within);
  differ = differ_append ns ms s.differ t.differ (apart_ranges lo mid hi ns ms s.within t.within);
}

rises_within : (lo hi : ℕ) (ns : List ℕ) → Rises lo hi ns → Within lo hi ns
rises_within lo hi [] r = tt
rises_within lo hi (n ∷ ns) r =
    let bound : n + 1 ≤ hi = rises_bounds (n + 1) hi ns r.1 in (
      record { least = r.0; below = omega (arith, bound) },
      within_wider lo (n + 1) hi hi ns (omega (arith, r.0)) (omega arith) (rises_within (n + 1) hi ns r.1),
    )

rises_differ : (lo hi : ℕ) (ns : List ℕ) → Rises lo hi ns → Differ ns
rises_differ lo hi [] r = tt
rises_differ lo hi (n ∷ ns) r =
    (misses_above n (n + 1) hi ns (omega arith) (rises_within (n + 1) hi ns r.1), rises_differ (n + 1) hi ns r.1)

pub rises_spread : (lo hi : ℕ) (ns : List ℕ) → Rises lo hi ns → Spread lo hi ns
rises_spread lo hi ns r = record {
  bounds = rises_bounds lo hi ns r;
  within = rises_within lo hi ns r;
  differ = rises_differ lo hi ns r;
}

-- what rises is strictly increasing
rises_step : (lo hi : ℕ) (ns : List ℕ) → Rises lo hi ns → (k : ℕ) → k + 1 < length ns → slice_index ns k < slice_index ns (k + 1)
rises_step lo hi [] r k lt = absurd (omega arith)
rises_step lo hi (n ∷ []) r k lt = absurd (omega arith)
rises_step lo hi (n ∷ m ∷ ns) r zero lt = omega (arith, r.1.0)
rises_step lo hi (n ∷ m ∷ ns) r (suc k) lt =
    let same : suc k + 1 ≡ suc (k + 1) = omega arith in
    rw same (rises_step (n + 1) hi (m ∷ ns) r.1 k (omega arith))

pub rises_increase : (lo hi : ℕ) (ns : List ℕ) → Rises lo hi ns → IsStrictlyIncreasing ns
rises_increase lo hi ns r = rises_step lo hi ns r

-- each pair of numbers that differ
misses_all : (n : ℕ) (ms : List ℕ) → Misses n ms → All (λ m. n ≢ m) ms
misses_all n [] p = All-nil (λ m. n ≢ m)
misses_all n (m ∷ ms) p = All-cons (λ k. n ≢ k) m ms p.0 (misses_all n ms p.1)

no_pairs : AllPairs (λ (a b : ℕ). a ≢ b) []
no_pairs i j d lt below = absurd (omega arith)

pub differ_pairs : (ns : List ℕ) → Differ ns → AllPairs (λ (a b : ℕ). a ≢ b) ns
differ_pairs [] p = no_pairs
differ_pairs (n ∷ ns) p = AllPairs-cons (λ (a b : ℕ). a ≢ b) n ns (misses_all n ns p.0) (differ_pairs ns p.1)

-- each of some items
abbrev pub Each : {A : Type 0} → (A → Type 0) → List A → Type 0
Each P [] = Unit {0}
Each P (x ∷ xs) = P x × Each P xs

-- each item and each later one
abbrev pub Pairwise : {A : Type 0} → (A → A → Type 0) → List A → Type 0
Pairwise R [] = Unit {0}
Pairwise R (x ∷ xs) = Each (R x) xs × Pairwise R xs

-- numbers of items that are apart by pairs
apart_all : {A : Type 0} (f : A → List ℕ) (ns : List ℕ) (xs : List A) → Each (λ x. Apart ns (f x)) xs → Apart ns (flat_map f xs)
apart_all f ns [] each = apart_none ns
apart_all f ns (x ∷ xs) each = apart_append ns (f x) (flat_map f xs) each.0 (apart_all f ns xs each.1)

pub differ_all : {A : Type 0} (f : A → List ℕ) (xs : List A) → ((x : A) → Differ (f x)) → Pairwise (λ x y. Apart (f x) (f y)) xs → Differ (flat_map f xs)
differ_all f [] each pairs = tt
differ_all f (x ∷ xs) each pairs =
    differ_append (f x) (flat_map f xs) (each x) (differ_all f xs each pairs.1) (apart_all f (f x) xs pairs.0)

pub within_all : {A : Type 0} (lo hi : ℕ) (f : A → List ℕ) (xs : List A) → ((x : A) → Within lo hi (f x)) → Within lo hi (flat_map f xs)
within_all lo hi f [] each = tt
within_all lo hi f (x ∷ xs) each = within_append lo hi (f x) (flat_map f xs) (each x) (within_all lo hi f xs each)

each_map : {A : Type 0} (P Q : A → Type 0) (xs : List A) → ((x : A) → P x → Q x) → Each P xs → Each Q xs
each_map P Q [] f all = tt
each_map P Q (x ∷ xs) f all = (f x all.0, each_map P Q xs f all.1)

pub pairwise_map : {A : Type 0} (R S : A → A → Type 0) (xs : List A) → ((x y : A) → R x y → S x y) → Pairwise R xs → Pairwise S xs
pairwise_map R S [] f all = tt
pairwise_map R S (x ∷ xs) f all = (each_map (R x) (S x) xs (f x) all.0, pairwise_map R S xs f all.1)
