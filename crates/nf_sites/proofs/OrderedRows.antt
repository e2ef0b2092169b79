-- The places of a text that gives labels in another order than the chain.
use Rattle.std.proofs.Common.{◌≡◌, ◌<◌, ◌+◌, ℕ, nat_lt, Bool, true, ◌&&◌, List, [], ◌∷◌, Contains, refl, subst, arith, inl, inr, ltb-true}
use Rattle.std.specs.List.{list_all}
use Rattle.std.specs.List.Sorted.{IsStrictlyIncreasing}
use Rattle.std.proofs.lemmas.Bool.{and_parts}
use Rattle.std.proofs.lemmas.List.Elements.{All-nil, All-cons}
use Rattle.nf_base.specs.Text.{Given, FallsOff}
use Rattle.nf_base.specs.Statements.{Statement, Ends, Makes}
use Rattle.nf_base.specs.TextPlaces.{expression_places, places_in}
use Rattle.nf_laws.specs.Samples.{new_at}
use Rattle.nf_laws.proofs.Listed.{has, has_none}
use Rattle.nf_sites.specs.TextOrder.{StandBefore, StandApart, NewRises, StatementRises, PlacesRise}
use Rattle.nf_sites.specs.Rows.{src}
use Rattle.nf_sites.specs.OrderRows.{last_cell, first_cells, next_cells, out_of_order, LabelsInAnyOrder}
use Rattle.nf_sites.proofs.Lists.{all_has}
use Rattle.nf_sites.proofs.Pairs.{Pairs, to_all}

before : (us vs : List ℕ) → list_all (λ u. list_all (λ v. nat_lt u v) vs) us ≡ true → StandBefore us vs
before us vs e u v i j = ltb-true u v (all_has (λ w. nat_lt u w) vs v (all_has (λ w. list_all (λ x. nat_lt w x) vs) us u e i) j)

abbrev rise : List ℕ → Bool
rise [] = true
rise (n ∷ ns) = list_all (λ m. nat_lt n m) ns && rise ns

below : (ns : List ℕ) → rise ns ≡ true → Pairs (λ a b. a < b) ns
below [] e = tt
below (n ∷ ns) e = let w = and_parts (list_all (λ m. nat_lt n m) ns) (rise ns) e in (λ m i. ltb-true n m (all_has (λ m. nat_lt n m) ns m w.0 i), below ns w.1)

increasing : (ns : List ℕ) → rise ns ≡ true → IsStrictlyIncreasing ns
increasing ns e k within = to_all (λ a b. a < b) ns (below ns e) k (k + 1) 0 (omega arith) within

abbrev Ahead : {A : Type 0} → (A → A → Type 0) → A → List A → Type 0
Ahead R x [] = Unit {0}
Ahead R x (y ∷ ys) = R x y × Ahead R x ys

-- in front of some, one after another
ahead : {A : Type 0} (R : A → A → Type 0) (x : A) (ys : List A) → Ahead R x ys → (y : A) → Contains ys y → R x y
ahead R x [] h y i = absurd (has_none y i)
ahead R x (z ∷ ys) h y i = elim (has z ys y i) [ inl e ↦ subst (R x) e h.0 | inr j ↦ ahead R x ys h.1 y j ]

new_rises : NewRises (new_at 0 0 (last_cell ∷ src ∷ first_cells ∷ next_cells ∷ []))
new_rises = record {
  first = before (0 ∷ []) (5 ∷ 1 ∷ 2 ∷ 3 ∷ 4 ∷ []) refl;
  each =
      let P = λ (g : Given). IsStrictlyIncreasing (expression_places g.value) in
      All-cons P last_cell (src ∷ first_cells ∷ next_cells ∷ []) (increasing (5 ∷ []) refl)
      (All-cons P src (first_cells ∷ next_cells ∷ []) (increasing [] refl)
      (All-cons P first_cells (next_cells ∷ []) (increasing (1 ∷ 2 ∷ []) refl)
      (All-cons P next_cells [] (increasing (3 ∷ 4 ∷ []) refl) (All-nil P))));
  apart = to_all StandApart (last_cell ∷ src ∷ first_cells ∷ next_cells ∷ []) (
    ahead StandApart last_cell (src ∷ first_cells ∷ next_cells ∷ [])
        (inl (before (5 ∷ []) [] refl), (inr (before (1 ∷ 2 ∷ []) (5 ∷ []) refl), (inr (before (3 ∷ 4 ∷ []) (5 ∷ []) refl), tt))),
    (
      ahead StandApart src (first_cells ∷ next_cells ∷ []) (inl (before [] (1 ∷ 2 ∷ []) refl), (inl (before [] (3 ∷ 4 ∷ []) refl), tt)),
      (
        ahead StandApart first_cells (next_cells ∷ []) (inl (before (1 ∷ 2 ∷ []) (3 ∷ 4 ∷ []) refl), tt),
        (ahead StandApart next_cells [] tt, tt),
      ),
    ),
  );
}

abbrev Lower : Statement → Statement → Type 0
Lower s t = StandBefore (places_in s) (places_in t)

abbrev end : Statement
end = Ends FallsOff

to_end : (s : Statement) → Lower s end
to_end s = λ u v i j. absurd (has_none v j)

places_rise : PlacesRise out_of_order
places_rise =
    let made = Makes (new_at 0 0 (last_cell ∷ src ∷ first_cells ∷ next_cells ∷ [])) in
    let none = increasing [] refl in
    record {
      each =
          All-cons StatementRises made (end ∷ end ∷ end ∷ end ∷ []) new_rises
          (All-cons StatementRises end (end ∷ end ∷ end ∷ []) none
          (All-cons StatementRises end (end ∷ end ∷ []) none
          (All-cons StatementRises end (end ∷ []) none
          (All-cons StatementRises end [] none (All-nil StatementRises)))));
      between = to_all Lower (made ∷ end ∷ end ∷ end ∷ end ∷ []) (
        ahead Lower made (end ∷ end ∷ end ∷ end ∷ []) (to_end made, (to_end made, (to_end made, (to_end made, tt)))),
        (
          ahead Lower end (end ∷ end ∷ end ∷ []) (to_end end, (to_end end, (to_end end, tt))),
          (
            ahead Lower end (end ∷ end ∷ []) (to_end end, (to_end end, tt)),
            (ahead Lower end (end ∷ []) (to_end end, tt), (ahead Lower end [] tt, tt)),
          ),
        ),
      );
    }

pub labels_in_any_order : LabelsInAnyOrder
labels_in_any_order = record {
  values = refl;
  sites = refl;
  rises = places_rise;
}
