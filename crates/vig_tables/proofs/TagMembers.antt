-- The value of a key among the keys under some indices.
use Rattle.std.proofs.Common.{◌≡◌, ◌≢◌, ◌∙◌, ap, sym, refl, arith, ℕ, zero, suc, List, [], ◌∷◌, map, inl, inr, Bool, true, false}
use Rattle.std.specs.Prelude.{Option, Some, None, Contains}
use Rattle.nf_base.specs.Chains.{same_key}
use Rattle.std.proofs.lemmas.Option.{none-some, same_Some}
use Rattle.std.proofs.lemmas.Bool.{cases_Bool, cond-true, cond-false}
use Rattle.std.proofs.lemmas.Slice.Eq.{bytes_eq-Decides}
use Rattle.hash_slots.specs.declared.cells.Pair.{Pair}
use Rattle.vig_map.specs.Bindings.{value_of}
use Rattle.vig_tables.specs.Tagged.{binding}

behind : (q : Pair) (ps : List Pair) (p : Pair) → Contains ps p → Contains (q ∷ ps) p
behind q ps p h = (suc h.0, omega (arith, h.1), h.2)

first : (q : Pair) (ps : List Pair) → Contains (q ∷ ps) q
first q ps = (0, omega arith, refl)

-- no two of the keys are equal
abbrev pub ApartBy : (ℕ → List ℕ) → List Pair → Type 0
ApartBy keys ps =
    (p q : Pair) → Contains ps p → Contains ps q → keys p.index ≡ keys q.index → p ≡ q

no_both : (b : Bool) → b ≡ true → b ≡ false → ⊥
no_both true t f = absurd (grind arith)
no_both false t f = absurd (grind arith)

-- the value of a key that is under one of the indices
pub value_held :
    (keys : ℕ → List ℕ) (ps : List Pair) (p : Pair) (key : List ℕ) → ApartBy keys ps
    → Contains ps p → keys p.index ≡ key → value_of (map (binding keys) ps) key ≡ Some p.index
value_held keys [] p key apart h is = absurd (omega (arith, h.1))
value_held keys (q ∷ ps) p key apart h is = elim (cases_Bool (same_key (keys q.index) key)) [
  | inl t ↦
      cond-true (same_key (keys q.index) key) (Some q.index) (value_of (map (binding keys) ps) key) t
      ∙ ap (λ (x : Pair). Some x.index) (apart q p (first q ps) h ((bytes_eq-Decides (keys q.index) key).0 t ∙ sym is))
  | inr f ↦
      cond-false (same_key (keys q.index) key) (Some q.index) (value_of (map (binding keys) ps) key) f
      ∙ value_held keys ps p key (λ a b in_a in_b. apart a b (behind q ps a in_a) (behind q ps b in_b)) (later h f) is
]
  where
    later : Contains (q ∷ ps) p → same_key (keys q.index) key ≡ false → Contains ps p
    later (zero, lt, e) f = absurd (no_both (same_key (keys q.index) key) ((bytes_eq-Decides (keys q.index) key).1 (ap (λ (x : Pair). keys x.index) e ∙ is)) f)
    later (suc k, lt, e) f = (k, omega (arith, lt), e)

-- a key that has a value is under one of the indices
pub record IsUnder (keys : ℕ → List ℕ) (ps : List Pair) (key : List ℕ) (i : ℕ) : Type 0 where
  pub pair : Pair
  pub there : Contains ps pair
  pub key_is : keys pair.index ≡ key
  pub index_is : pair.index ≡ i

pub held_value :
    (keys : ℕ → List ℕ) (ps : List Pair) (key : List ℕ) (i : ℕ)
    → value_of (map (binding keys) ps) key ≡ Some i → IsUnder keys ps key i
held_value keys [] key i e = absurd (none-some i e)
held_value keys (q ∷ ps) key i e = elim (cases_Bool (same_key (keys q.index) key)) [
  | inl t ↦ record { pair = q; there = first q ps; key_is = (bytes_eq-Decides (keys q.index) key).0 t; index_is = same_Some q.index i (sym (cond-true (same_key (keys q.index) key) (Some q.index) (value_of (map (binding keys) ps) key) t) ∙ e) }
  | inr f ↦
      let h = held_value keys ps key i (sym (cond-false (same_key (keys q.index) key) (Some q.index) (value_of (map (binding keys) ps) key) f) ∙ e) in
      record { pair = h.pair; there = behind q ps h.pair h.there; key_is = h.key_is; index_is = h.index_is }
]

-- a key that is under none of the indices has no value
pub value_unheld :
    (keys : ℕ → List ℕ) (ps : List Pair) (key : List ℕ)
    → ((p : Pair) → Contains ps p → keys p.index ≢ key) → value_of (map (binding keys) ps) key ≡ None
value_unheld keys ps key nowhere = by_value (value_of (map (binding keys) ps) key) refl
  where
    by_value :
        (o : Option ℕ) → value_of (map (binding keys) ps) key ≡ o
        → value_of (map (binding keys) ps) key ≡ None
    by_value None e = e
    by_value (Some i) e = let h = held_value keys ps key i e in absurd (nowhere h.pair h.there h.key_is)

-- keys under indices with the same pairs of a key have the same value of it
pub same_value :
    (keys keys' : ℕ → List ℕ) (ps qs : List Pair) (key : List ℕ) → ApartBy keys ps
    → ApartBy keys' qs → ((p : Pair) → Contains ps p → keys p.index ≡ key → Contains qs p × (keys' p.index ≡ key))
    → ((p : Pair) → Contains qs p → keys' p.index ≡ key → Contains ps p × (keys p.index ≡ key))
    → value_of (map (binding keys') qs) key ≡ value_of (map (binding keys) ps) key
same_value keys keys' ps qs key apart_old apart there back = by_value (value_of (map (binding keys) ps) key) refl
  where
    by_value :
        (o : Option ℕ) → value_of (map (binding keys) ps) key ≡ o
        → value_of (map (binding keys') qs) key ≡ value_of (map (binding keys) ps) key
    by_value (Some i) e =
        let h = held_value keys ps key i e in
        let t = there h.pair h.there h.key_is in
        value_held keys' qs h.pair key apart t.0 t.1 ∙ ap (λ (x : ℕ). Some x) h.index_is ∙ sym e
    by_value None e =
        value_unheld keys' qs key (λ p in_q is. let b = back p in_q is in none-some p.index (sym e ∙ value_held keys ps p key apart_old b.0 b.1))
        ∙ sym e
