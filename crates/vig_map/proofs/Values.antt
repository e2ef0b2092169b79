-- The value of a key, by the slot in which the key stands.
use Rattle.std.proofs.Common.{◌≡◌, ◌≢◌, ◌∙◌, ap, sym, refl, arith, ℕ, zero, suc, List, [], ◌∷◌, inl, inr}
use Rattle.std.specs.Prelude.{Option, Some, None}
use Rattle.nf_base.specs.Chains.{same_key}
use Rattle.std.proofs.lemmas.Option.{none-some, same_Some}
use Rattle.std.proofs.lemmas.Bool.{cases_Bool, cond-true, cond-false}
use Rattle.std.proofs.lemmas.Slice.Eq.{bytes_eq-Decides}
use Rattle.vig_map.specs.declared.slots.Pair.{Pair}
use Rattle.vig_map.specs.Bindings.{value_of}
use Rattle.vig_map.specs.Slots.{slot_at, pairs_of, AreApart}

-- where a key stands with a value
pub record Holds (slots : List (Option Pair)) (key : List ℕ) (value : ℕ) : Type 0 where
  pub at : ℕ
  pub pair : Pair
  pub there : slot_at slots at ≡ Some pair
  pub key_is : pair.key ≡ key
  pub value_is : pair.value ≡ value

behind :
    (s : Option Pair) (slots : List (Option Pair)) (key : List ℕ) (value : ℕ)
    → Holds slots key value → Holds (s ∷ slots) key value
behind s slots key value h = record { at = suc h.at; pair = h.pair; there = h.there; key_is = h.key_is; value_is = h.value_is }

pub held :
    (slots : List (Option Pair)) (key : List ℕ) (value : ℕ)
    → value_of (pairs_of slots) key ≡ Some value → Holds slots key value
held [] key value e = absurd (none-some value e)
held (None ∷ slots) key value e = behind None slots key value (held slots key value e)
held (Some p ∷ slots) key value e = elim (cases_Bool (same_key p.key key)) [
  | inl t ↦ record { at = 0; pair = p; there = refl; key_is = (bytes_eq-Decides p.key key).0 t; value_is = same_Some p.value value (sym (cond-true (same_key p.key key) (Some p.value) (value_of (pairs_of slots) key) t) ∙ e) }
  | inr f ↦ behind (Some p) slots key value (held slots key value (sym (cond-false (same_key p.key key) (Some p.value) (value_of (pairs_of slots) key) f) ∙ e))
]

apart_behind :
    (s : Option Pair) (slots : List (Option Pair)) → AreApart (s ∷ slots) → AreApart slots
apart_behind s slots apart i j p q at_i at_j same = omega (arith, apart (suc i) (suc j) p q at_i at_j same)

pub value_there :
    (slots : List (Option Pair)) (i : ℕ) (p : Pair) → AreApart slots → slot_at slots i ≡ Some p
    → value_of (pairs_of slots) p.key ≡ Some p.value
value_there [] i p apart there = absurd (none-some p there)
value_there (None ∷ slots) zero p apart there = absurd (none-some p there)
value_there (None ∷ slots) (suc i) p apart there = value_there slots i p (apart_behind None slots apart) there
value_there (Some q ∷ slots) zero p apart there =
    let same = same_Some q p there in
    cond-true (same_key q.key p.key) (Some q.value) (value_of (pairs_of slots) p.key) ((bytes_eq-Decides q.key p.key).1 (ap (λ (x : Pair). x.key) same)) ∙ ap (λ (x : Pair). Some x.value) same
value_there (Some q ∷ slots) (suc i) p apart there = elim (cases_Bool (same_key q.key p.key)) [
  | inl t ↦ absurd (omega (arith, apart 0 (suc i) q p refl there ((bytes_eq-Decides q.key p.key).0 t)))
  | inr f ↦ cond-false (same_key q.key p.key) (Some q.value) (value_of (pairs_of slots) p.key) f ∙ value_there slots i p (apart_behind (Some q) slots apart) there
]

pub value_is :
    (slots : List (Option Pair)) (i : ℕ) (p : Pair) (key : List ℕ) (value : ℕ) → AreApart slots
    → slot_at slots i ≡ Some p → p.key ≡ key → p.value ≡ value
    → value_of (pairs_of slots) key ≡ Some value
value_is slots i p key value apart there k v =
    ap (value_of (pairs_of slots)) (sym k)
    ∙ value_there slots i p apart there
    ∙ ap (λ (x : ℕ). Some x) v

-- no value where the key stands nowhere
pub value_none :
    (slots : List (Option Pair)) (key : List ℕ)
    → ((i : ℕ) (p : Pair) → slot_at slots i ≡ Some p → p.key ≢ key)
    → value_of (pairs_of slots) key ≡ None
value_none slots key nowhere = by_value (value_of (pairs_of slots) key) refl
  where
    by_value :
        (o : Option ℕ) → value_of (pairs_of slots) key ≡ o → value_of (pairs_of slots) key ≡ None
    by_value None e = e
    by_value (Some value) e = let h = held slots key value e in absurd (nowhere h.at h.pair h.there h.key_is)

-- slots in which a key stands alike give it one value
pub same_value :
    (slots others : List (Option Pair)) (key : List ℕ) → AreApart slots → AreApart others
    → ((i : ℕ) (p : Pair) → slot_at slots i ≡ Some p → p.key ≡ key → (j : ℕ) × (slot_at others j ≡ Some p))
    → ((i : ℕ) (p : Pair) → slot_at others i ≡ Some p → p.key ≡ key → (j : ℕ) × (slot_at slots j ≡ Some p))
    → value_of (pairs_of others) key ≡ value_of (pairs_of slots) key
same_value slots others key apart apart' there back = by_value (value_of (pairs_of slots) key) refl
  where
    by_value :
        (o : Option ℕ) → value_of (pairs_of slots) key ≡ o
        → value_of (pairs_of others) key ≡ value_of (pairs_of slots) key
    by_value (Some value) e =
        let h = held slots key value e in
        let got = there h.at h.pair h.there h.key_is in
        value_is others got.0 h.pair key value apart' got.1 h.key_is h.value_is ∙ sym e
    by_value None e =
        value_none others key (λ i p at k. let got = back i p at k in none-some p.value (sym e ∙ value_is slots got.0 p key p.value apart got.1 k refl))
        ∙ sym e
