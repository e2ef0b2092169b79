-- Places that rise along a whole text rise statement by statement, and in each `new` value by value.
use Rattle.std.proofs.Common.{◌<◌, ◌+◌, ℕ, List, [], ◌∷◌, All, Contains, slice_index_or, subst, arith, inl, inr}
use Rattle.std.specs.List.{flat_map}
use Rattle.std.specs.List.Sorted.{IsStrictlyIncreasing}
use Rattle.std.proofs.lemmas.List.Kept.{AllPairs-from_increasing}
use Rattle.nf_base.specs.Text.{Given, Creation}
use Rattle.nf_base.specs.Statements.{Statement, Ends, Does, Asks, Makes, statements}
use Rattle.nf_base.specs.TextPlaces.{expression_places, given_places, places_in}
use Rattle.nf_laws.proofs.Listed.{has, has_none}
use Rattle.nf_sites.specs.TextOrder.{StandBefore, StandApart, NewRises, StatementRises}
use Rattle.nf_sites.specs.Laws.{RisingTextsRise}
use Rattle.nf_sites.proofs.Pairs.{Pairs, is_in, from_all, to_all, left, right, across}
use Rattle.nf_sites.proofs.Sorting.{to_flat}

abbrev Below : ℕ → ℕ → Type 0
Below a b = a < b

strictly : (ns : List ℕ) → Pairs Below ns → IsStrictlyIncreasing ns
strictly ns h k within = to_all Below ns h k (k + 1) 0 (omega arith) within

all_from : {A : Type 0} (P : A → Type 0) (xs : List A) → ((x : A) → Contains xs x → P x) → All P xs
all_from P xs h = λ k d lt. h (slice_index_or xs k d) (is_in xs k d lt)

weaker : {A : Type 0} (R S : A → A → Type 0) (xs : List A) → ((x y : A) → R x y → S x y) → Pairs R xs → Pairs S xs
weaker R S [] f h = tt
weaker R S (x ∷ xs) f h = (λ y i. f x y (h.0 y i), weaker R S xs f h.1)

-- the places of one of some
piece : {A : Type 0} (f : A → List ℕ) (xs : List A) (x : A) → Contains xs x → Pairs Below (flat_map f xs) → Pairs Below (f x)
piece f [] x i h = absurd (has_none x i)
piece f (y ∷ xs) x i h = elim (has y xs x i) [
  | inl e ↦ subst (λ z. Pairs Below (f z)) e (left Below (f y) (flat_map f xs) h)
  | inr j ↦ piece f xs x j (right Below (f y) (flat_map f xs) h)
]

-- and of each two
one_by_one : {A : Type 0} (f : A → List ℕ) (xs : List A) → Pairs Below (flat_map f xs) → Pairs (λ x y. StandBefore (f x) (f y)) xs
one_by_one f [] h = tt
one_by_one f (x ∷ xs) h = (
  λ y i u v j k. across Below (f x) (flat_map f xs) u v h j (to_flat f xs y v i k),
  one_by_one f xs (right Below (f x) (flat_map f xs) h),
)

abbrev cells : Given → List ℕ
cells g = expression_places g.value

new_rises : (n : Creation) → Pairs Below (n.place ∷ given_places n.labels) → NewRises n
new_rises n h = record {
  first = λ u v i j. elim (has n.place [] u i) [ inl e ↦ subst (λ w. w < v) e (h.0 v j) | inr k ↦ absurd (has_none u k) ];
  each = all_from (λ (g : Given). IsStrictlyIncreasing (expression_places g.value)) n.labels (λ g i. strictly (expression_places g.value) (piece cells n.labels g i h.1));
  apart = to_all StandApart n.labels (weaker (λ g k. StandBefore (cells g) (cells k)) StandApart n.labels (λ g k b. inl b) (one_by_one cells n.labels h.1));
}

each_rises : (s : Statement) → Pairs Below (places_in s) → StatementRises s
each_rises (Ends e) h = strictly (places_in (Ends e)) h
each_rises (Does op) h = strictly (places_in (Does op)) h
each_rises (Asks q) h = strictly (places_in (Asks q)) h
each_rises (Makes n) h = new_rises n h

pub rising_texts : RisingTextsRise
rising_texts block rises =
    let ss = statements block in
    let h = from_all Below (flat_map places_in ss) (AllPairs-from_increasing (flat_map places_in ss) rises) in
    record {
      each = all_from StatementRises ss (λ s i. each_rises s (piece places_in ss s i h));
      between = to_all (λ s t. StandBefore (places_in s) (places_in t)) ss (one_by_one places_in ss h);
    }
