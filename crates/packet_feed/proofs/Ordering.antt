-- Packets put in order: the order is the capture order, and what comes first is found anywhere.
use Rattle.std.proofs.Common.{◌≡◌, ℕ, zero, suc, ◌<◌, ◌≤◌, Bool, true, false, ◌&&◌, ◌||◌, cond, ltb, eqb, ◌⊎◌, inl, inr, List, [], ◌∷◌, ◌++◌, length, map, get_or, refl, ap, ◌∙◌, add-one, arith}
use Rattle.std.specs.List.{AllByRecursion}
use Rattle.std.specs.List.Sorted.{IsPermutation}
use Rattle.std.proofs.lemmas.Bool.{cond_both, lt-ltb, le-ltb, eq-eqb, ne_eqb, ltb-true, eqb-true, cases_lt, or_left, or_right, or_from, or_cases, and_from, and_left, and_right, and_parts}
use Rattle.std.proofs.lemmas.List.{length-map}
use Rattle.std.proofs.lemmas.List.Sorted.{IsPermutation-refl, IsPermutation-cons, IsPermutation-trans, IsPermutation-sym, IsPermutation-middle, IsPermutation-map}
use Rattle.nf_base.specs.declared.packet.Packet.{Packet}
use Rattle.nf_base.specs.Orders.{comes_before}
use Rattle.packet_feed.specs.Arrivals.{Arrival, packet_of}
use Rattle.packet_feed.specs.Order.{put_in, in_order, IsOrdered}

-- ---- the test on numbers: times t and u, ports p and q, numbers m and n

abbrev test : ℕ → ℕ → ℕ → ℕ → ℕ → ℕ → Bool
test t u p q m n = ltb t u || (eqb t u && (ltb p q || (eqb p q && ltb m n)))

test_true : (t u p q m n : ℕ) → t ≤ u → (u ≤ t → p ≤ q) → (u ≤ t → q ≤ p → m < n) → test t u p q m n ≡ true
test_true t u p q m n a b d = elim (cases_lt t u) [
  | inl lt ↦ or_left (ltb t u) _ (lt-ltb t u lt)
  | inr ge ↦ let le : p ≤ q = b ge in
      or_right (ltb t u) _ (and_from (eqb t u) _ (eq-eqb t u (omega arith)) (elim (cases_lt p q) [
        | inl less ↦ or_left (ltb p q) _ (lt-ltb p q less)
        | inr more ↦ or_right (ltb p q) _ (and_from (eqb p q) _ (eq-eqb p q (omega arith)) (lt-ltb m n (d ge more)))
      ]))
]

last_parts : (p q m n : ℕ) → (ltb p q || (eqb p q && ltb m n)) ≡ true → (p < q) ⊎ ((p ≡ q) × (m < n))
last_parts p q m n e = elim (or_cases (ltb p q) _ e) [
  | inl less ↦ inl (ltb-true p q less)
  | inr same ↦ let ports = and_parts (eqb p q) _ same in inr (eqb-true p q ports.0, ltb-true m n ports.1)
]

test_parts : (t u p q m n : ℕ) → test t u p q m n ≡ true → (t < u) ⊎ ((t ≡ u) × ((p < q) ⊎ ((p ≡ q) × (m < n))))
test_parts t u p q m n e = elim (or_cases (ltb t u) _ e) [
  | inl lt ↦ inl (ltb-true t u lt)
  | inr both ↦ let parts = and_parts (eqb t u) _ both in inr (eqb-true t u parts.0, last_parts p q m n parts.1)
]

last_false : (p q m n : ℕ) → (p < q) ⊎ ((p ≡ q) × (m < n)) → (ltb q p || (eqb q p && ltb n m)) ≡ false
last_false p q m n (inl lt) = or_from (ltb q p) _ (le-ltb q p (omega arith)) (and_left (eqb q p) _ (ne_eqb q p (λ e. absurd (omega arith))))
last_false p q m n (inr h) = or_from (ltb q p) _ (le-ltb q p (omega arith)) (and_right (eqb q p) _ (le-ltb n m (omega arith)))

test_false : (t u p q m n : ℕ) → (t < u) ⊎ ((t ≡ u) × ((p < q) ⊎ ((p ≡ q) × (m < n)))) → test u t q p n m ≡ false
test_false t u p q m n (inl lt) = or_from (ltb u t) _ (le-ltb u t (omega arith)) (and_left (eqb u t) _ (ne_eqb u t (λ e. absurd (omega arith))))
test_false t u p q m n (inr h) = or_from (ltb u t) _ (le-ltb u t (omega arith)) (and_right (eqb u t) _ (last_false p q m n h.1))

-- ---- the same on packets

-- a packet comes before all packets of a port that come at a time or later, numbered from a number on
pub record IsEarly (a : Packet) (time port seq : ℕ) : Type 0 where
  pub time_le : a.time ≤ time
  pub port_le : time ≤ a.time → a.id.port ≤ port
  pub seq_lt : time ≤ a.time → port ≤ a.id.port → a.id.seq < seq

pub early_before : (a b : Packet) → IsEarly a b.time b.id.port b.id.seq → comes_before a b ≡ true
early_before a b h = test_true a.time b.time a.id.port b.id.port a.id.seq b.id.seq h.time_le h.port_le h.seq_lt

not_after : (a b : Packet) → comes_before a b ≡ true → comes_before b a ≡ false
not_after a b e = test_false a.time b.time a.id.port b.id.port a.id.seq b.id.seq (test_parts a.time b.time a.id.port b.id.port a.id.seq b.id.seq e)

-- ---- packets in order are in capture order

abbrev IsHeadOk : Arrival → List Arrival → Type 0
IsHeadOk p [] = Unit {0}
IsHeadOk p (b ∷ bs) = comes_before b.packet p.packet ≡ false

abbrev IsRising : List Arrival → Type 0
IsRising [] = Unit {0}
IsRising (x ∷ xs) = IsHeadOk x xs × IsRising xs

head_put : (a b : Arrival) (bs : List Arrival) → comes_before a.packet b.packet ≡ false → IsHeadOk b bs → IsHeadOk b (put_in a bs)
head_put a b [] e h = e
head_put a b (d ∷ ds) e h = cond_both (comes_before a.packet d.packet) (a ∷ (d ∷ ds)) (d ∷ put_in a ds) (IsHeadOk b) (λ _. e) (λ _. h)

put_rising : (a : Arrival) (bs : List Arrival) → IsRising bs → IsRising (put_in a bs)
put_rising a [] h = (tt, tt)
put_rising a (b ∷ bs) h = cond_both (comes_before a.packet b.packet) (a ∷ (b ∷ bs)) (b ∷ put_in a bs) IsRising
    (λ e. (not_after a.packet b.packet e, h))
    (λ e. (head_put a b bs e h.0, put_rising a bs h.1))

all_rising : (xs : List Arrival) → IsRising (in_order xs)
all_rising [] = tt
all_rising (x ∷ xs) = put_rising x (in_order xs) (all_rising xs)

rising_at : (xs : List Arrival) → IsRising xs → (k : ℕ) (d : Packet) → suc k < length xs → comes_before (get_or (map packet_of xs) (suc k) d) (get_or (map packet_of xs) k d) ≡ false
rising_at [] h k d lt = absurd (omega arith)
rising_at (x ∷ []) h k d lt = absurd (omega arith)
rising_at (x ∷ (y ∷ ys)) h zero d lt = h.0
rising_at (x ∷ (y ∷ ys)) h (suc k) d lt = rising_at (y ∷ ys) h.1 k d (omega arith)

put_permutes : (a : Arrival) (bs : List Arrival) → IsPermutation (a ∷ bs) (put_in a bs)
put_permutes a [] = IsPermutation-refl (a ∷ [])
put_permutes a (b ∷ bs) = cond_both (comes_before a.packet b.packet) (a ∷ (b ∷ bs)) (b ∷ put_in a bs) (IsPermutation (a ∷ (b ∷ bs)))
    (λ _. IsPermutation-refl (a ∷ (b ∷ bs)))
    (λ _. IsPermutation-trans (a ∷ (b ∷ bs)) (b ∷ (a ∷ bs)) (b ∷ put_in a bs)
    (IsPermutation-sym (b ∷ (a ∷ bs)) (a ∷ (b ∷ bs)) (IsPermutation-middle (b ∷ []) a bs))
    (IsPermutation-cons b (a ∷ bs) (put_in a bs) (put_permutes a bs)))

all_permutes : (xs : List Arrival) → IsPermutation xs (in_order xs)
all_permutes [] = IsPermutation-refl []
all_permutes (x ∷ xs) = IsPermutation-trans (x ∷ xs) (x ∷ in_order xs) (put_in x (in_order xs)) (IsPermutation-cons x xs (in_order xs) (all_permutes xs)) (put_permutes x (in_order xs))

-- the law: the same packets, each once, in capture order
pub is_ordered : (xs : List Arrival) → IsOrdered xs (in_order xs)
is_ordered xs = record {
  each_once = all_permutes xs;
  in_order = record {
    each_once = IsPermutation-map packet_of xs (in_order xs) (all_permutes xs);
    in_order = λ k d low high.
        let inside : suc k < length (in_order xs) = omega (arith, length-map (in_order xs) packet_of) in
        rw (add-one k) (rising_at (in_order xs) (all_rising xs) k d inside);
  };
}

-- ---- what comes before all others comes first

-- packets that come behind one
abbrev pub IsBehind : Arrival → Arrival → Type 0
IsBehind a b = comes_before a.packet b.packet ≡ true

put_first : (a : Arrival) (bs : List Arrival) → AllByRecursion (IsBehind a) bs → put_in a bs ≡ a ∷ bs
put_first a [] h = refl
put_first a (b ∷ bs) h = ap (λ (t : Bool). cond t (a ∷ (b ∷ bs)) (b ∷ put_in a bs)) h.0

behind_put : (a b : Arrival) (bs : List Arrival) → IsBehind a b → AllByRecursion (IsBehind a) bs → AllByRecursion (IsBehind a) (put_in b bs)
behind_put a b [] e h = (e, tt)
behind_put a b (d ∷ ds) e h = cond_both (comes_before b.packet d.packet) (b ∷ (d ∷ ds)) (d ∷ put_in b ds) (AllByRecursion (IsBehind a)) (λ _. (e, h)) (λ _. (h.0, behind_put a b ds e h.1))

behind_order : (a : Arrival) (xs : List Arrival) → AllByRecursion (IsBehind a) xs → AllByRecursion (IsBehind a) (in_order xs)
behind_order a [] h = tt
behind_order a (x ∷ xs) h = behind_put a x (in_order xs) h.0 (behind_order a xs h.1)

put_second : (p a : Arrival) (xs : List Arrival) → IsBehind a p → put_in p (a ∷ xs) ≡ a ∷ put_in p xs
put_second p a xs h = ap (λ (t : Bool). cond t (p ∷ (a ∷ xs)) (a ∷ put_in p xs)) (not_after a.packet p.packet h)

pub comes_first : (a : Arrival) (pre post : List Arrival) → AllByRecursion (IsBehind a) pre → AllByRecursion (IsBehind a) post → in_order (pre ++ (a ∷ post)) ≡ a ∷ in_order (pre ++ post)
comes_first a [] post h k = put_first a (in_order post) (behind_order a post k)
comes_first a (p ∷ pre) post h k = ap (put_in p) (comes_first a pre post h.1 k) ∙ put_second p a (in_order (pre ++ post)) h.0
