-- What is true of a map's fields, and what its calls do to the pairs.
use Rattle.std.proofs.Common.{◌≡◌, ◌≢◌, ◌∙◌, ap, sym, refl, arith, ℕ, ◌+◌, ◌-◌, ◌*◌, ◌<◌, ◌≤◌, List, [], length, Bool, true, false, inl, inr}
use Rattle.std.specs.Prelude.{Option, Some, None, slice_set, replicate, is_some, is_none, nat_lt}
use Rattle.std.specs.Option.{option_map}
use Rattle.std.proofs.Math.ListN.{length-set}
use Rattle.std.proofs.lemmas.Option.{none-some, same_Some}
use Rattle.std.proofs.lemmas.List.{length-replicate}
use Rattle.std.proofs.lemmas.Bool.{cases_eq, and_left, and_from, not_from_true, not_from_false, lt-ltb}
use Rattle.vig_map.specs.declared.slots.Pair.{Pair}
use Rattle.vig_map.specs.Bindings.{Bindings, bindings_of, value_of, is_bindable, IsPut, IsErased}
use Rattle.vig_map.specs.Hashes.{first_slot}
use Rattle.vig_map.specs.Slots.{slot_at, pairs_of, IsStop, AreMet, AreSamePairs}
use Rattle.vig_map.specs.Sound.{IsSoundMap}
use Rattle.vig_map.proofs.SlotLemmas.{slot-set_same, slot-set_other, slot_within, slot_replicate, pairs_replicate, count-set, weight}
use Rattle.vig_map.proofs.Values.{value_is, value_none, same_value}
use Rattle.vig_map.proofs.Searches.{first_below, missed, stop_near, put_met}

no_pair : (n i : ℕ) (p : Pair) → slot_at (replicate n None) i ≡ Some p → ⊥
no_pair n i p at = none-some p (sym (slot_replicate n i) ∙ at)

pub empty_sound :
    (most : ℕ) (slots : List (Option Pair)) → slots ≡ replicate (3 * most) None → 1 ≤ most
    → most ≤ 65536 → IsSoundMap slots 0 most
empty_sound most slots is some limit = rw is (record {
  some = some;
  limit = limit;
  room = length-replicate (3 * most) None;
  met = record {
    after = λ i p at. absurd (no_pair (3 * most) i p at);
    reached = λ i p at. absurd (no_pair (3 * most) i p at);
    apart = λ i j p q at. absurd (no_pair (3 * most) i p at);
  };
  count = ap length (pairs_replicate (3 * most));
  within = omega arith;
})

pub empty_pairs :
    (n : ℕ) (slots : List (Option Pair)) → slots ≡ replicate n None → pairs_of slots ≡ []
empty_pairs n slots is = ap pairs_of is ∙ pairs_replicate n

-- the value at the slot where the search for a key stops is the key's
pub found :
    (slots : List (Option Pair)) (held most : ℕ) (key : List ℕ) (i : ℕ) → IsSoundMap slots held most
    → IsStop slots (first_slot (2 * most) key) key i
    → option_map (λ (pair : Pair). pair.value) (slot_at slots i) ≡ value_of (pairs_of slots) key
found slots held most key i k stop = by_slot (slot_at slots i) refl
  where
    by_slot :
        (o : Option Pair) → slot_at slots i ≡ o
        → option_map (λ (pair : Pair). pair.value) (slot_at slots i) ≡ value_of (pairs_of slots) key
    by_slot None e =
        ap (option_map (λ (pair : Pair). pair.value)) e
        ∙ sym (value_none slots key (missed (2 * most) slots key i k.met stop e))
    by_slot (Some p) e =
        ap (option_map (λ (pair : Pair). pair.value)) e
        ∙ sym (value_is slots i p key p.value k.met.apart e (stop.stops p e) refl)

-- where the value at a slot is none, no pair stands there
pub no_value : (o : Option Pair) → option_map (λ (pair : Pair). pair.value) o ≡ None → o ≡ None
no_value None e = refl
no_value (Some p) e = absurd (none-some p.value (sym e))

-- else one does
pub the_pair :
    (o : Option Pair) (value : ℕ) → option_map (λ (pair : Pair). pair.value) o ≡ Some value
    → (p : Pair) × (o ≡ Some p)
the_pair None value e = absurd (none-some value e)
the_pair (Some p) value e = (p, refl)

-- the same of what is read of slots that are these
pub looked_up :
    (slots read : List (Option Pair)) (held most : ℕ) (key : List ℕ) (i : ℕ) (o : Option ℕ)
    → IsSoundMap slots held most → IsStop slots (first_slot (2 * most) key) key i → read ≡ slots
    → o ≡ option_map (λ (pair : Pair). pair.value) (slot_at read i)
    → o ≡ value_of (pairs_of slots) key
looked_up slots read held most key i o k stop same is =
    is
    ∙ ap (λ (xs : List (Option Pair)). option_map (λ (pair : Pair). pair.value) (slot_at xs i)) same
    ∙ found slots held most key i k stop

-- the pair that stands where a value was read
pub stands :
    (slots read : List (Option Pair)) (i : ℕ) (o : Option ℕ) (value : ℕ) → read ≡ slots
    → o ≡ option_map (λ (pair : Pair). pair.value) (slot_at read i) → o ≡ Some value
    → (p : Pair) × (slot_at slots i ≡ Some p)
stands slots read i o value same is some = the_pair (slot_at slots i) value (sym (is ∙ ap (λ (xs : List (Option Pair)). option_map (λ (pair : Pair). pair.value) (slot_at xs i)) same) ∙ some)

-- no pair stands where no value was read
pub stands_none :
    (slots read : List (Option Pair)) (i : ℕ) (o : Option ℕ) → read ≡ slots
    → o ≡ option_map (λ (pair : Pair). pair.value) (slot_at read i) → o ≡ None
    → slot_at slots i ≡ None
stands_none slots read i o same is none = no_value (slot_at slots i) (sym (is ∙ ap (λ (xs : List (Option Pair)). option_map (λ (pair : Pair). pair.value) (slot_at xs i)) same) ∙ none)

-- no value where a test says that there is none
pub none_of : (o : Option ℕ) (b : Bool) → b ≡ is_some o → b ≡ false → o ≡ None
none_of None b tells e = refl
none_of (Some value) b tells e = absurd (grind arith)

-- a key that has a value can't be bound
pub not_bindable :
    (map : Bindings) (key : List ℕ) (o : Option ℕ) (b : Bool) → o ≡ value_of map.pairs key
    → b ≡ is_some o → b ≡ true → false ≡ is_bindable map key
not_bindable map key o b is tells e = sym (and_left (is_none (value_of map.pairs key)) (nat_lt (length map.pairs) map.most) (not_from_true (is_some (value_of map.pairs key)) (ap (λ (x : Option ℕ). is_some x) (sym is) ∙ sym tells ∙ e)))

-- one that has none can while there is room
pub bindable :
    (map : Bindings) (key : List ℕ) (o : Option ℕ) (b : Bool) → o ≡ value_of map.pairs key
    → b ≡ is_some o → b ≡ false → length map.pairs < map.most → true ≡ is_bindable map key
bindable map key o b is tells e room = sym (and_from (is_none (value_of map.pairs key)) (nat_lt (length map.pairs) map.most) (not_from_false (is_some (value_of map.pairs key)) (ap (λ (x : Option ℕ). is_some x) (sym is) ∙ sym tells ∙ e)) (lt-ltb (length map.pairs) map.most room))

-- the search stops within the slots while there is room for a pair
pub stop_within :
    (slots : List (Option Pair)) (held most : ℕ) (key : List ℕ) (i : ℕ) → IsSoundMap slots held most
    → IsStop slots (first_slot (2 * most) key) key i → held < most → i < length slots
stop_within slots held most key i k stop room =
    let near = stop_near slots (first_slot (2 * most) key) key i stop in
    let low = first_below (2 * most) key (omega (arith, k.some)) in
    omega (arith, k.room, k.count)

pub put_sound :
    (slots : List (Option Pair)) (held most i : ℕ) (p : Pair) → IsSoundMap slots held most
    → IsStop slots (first_slot (2 * most) p.key) p.key i → slot_at slots i ≡ None → held < most
    → IsSoundMap (slice_set slots i (Some p)) (held + 1) most
put_sound slots held most i p k stop none room = record {
  some = k.some;
  limit = k.limit;
  room = length-set slots i (Some p) ∙ k.room;
  met = put_met (2 * most) slots i p k.met stop none lt;
  count = omega (arith, count-set slots i (Some p) lt, ap weight none, k.count);
  within = omega arith;
}
  where
    lt : i < length slots
    lt = stop_within slots held most p.key i k stop room

pub put_is :
    (slots : List (Option Pair)) (held most i : ℕ) (p : Pair) → IsSoundMap slots held most
    → IsStop slots (first_slot (2 * most) p.key) p.key i → slot_at slots i ≡ None → held < most
    → IsPut p.key p.value (bindings_of (pairs_of slots) most) (bindings_of (pairs_of (slice_set slots i (Some p))) most)
put_is slots held most i p k stop none room = record {
  bound = value_is (slice_set slots i (Some p)) i p p.key p.value met'.apart (slot-set_same slots i (Some p) lt) refl refl;
  others = λ other ne. same_value slots (slice_set slots i (Some p)) other k.met.apart met'.apart
      (λ j q at key. (j, slot-set_other slots i j (Some p) (λ e. none-some q (sym none ∙ ap (slot_at slots) (sym e) ∙ at)) ∙ at))
      (λ j q at key. (j, sym (slot-set_other slots i j (Some p) (λ e. ne (sym key ∙ sym (ap (λ (x : Pair). x.key) (same_Some p q (sym (slot-set_same slots i (Some p) lt) ∙ ap (slot_at (slice_set slots i (Some p))) (sym e) ∙ at)))))) ∙ at));
  count = omega (arith, count-set slots i (Some p) lt, ap weight none);
  most = refl;
}
  where
    lt : i < length slots
    lt = stop_within slots held most p.key i k stop room

    met' : AreMet (2 * most) (slice_set slots i (Some p))
    met' = put_met (2 * most) slots i p k.met stop none lt

-- one pair fewer where a slot is made empty
one_fewer :
    (slots : List (Option Pair)) (i : ℕ) (p : Pair) → slot_at slots i ≡ Some p
    → length (pairs_of (slice_set slots i None)) + 1 ≡ length (pairs_of slots)
one_fewer slots i p at = omega (arith, count-set slots i None (slot_within slots i p at), ap weight at)

pub held_some :
    (slots : List (Option Pair)) (held most i : ℕ) (p : Pair) → IsSoundMap slots held most
    → slot_at slots i ≡ Some p → 1 ≤ held
held_some slots held most i p k at = omega (arith, one_fewer slots i p at, k.count)

pub erase_sound :
    (slots new : List (Option Pair)) (held most i : ℕ) (p : Pair) → IsSoundMap slots held most
    → slot_at slots i ≡ Some p → AreMet (2 * most) new → AreSamePairs (slice_set slots i None) new
    → IsSoundMap new (held - 1) most
erase_sound slots new held most i p k at met same = record {
  some = k.some;
  limit = k.limit;
  room = same.size ∙ length-set slots i None ∙ k.room;
  met = met;
  count = omega (arith, one_fewer slots i p at, same.count, k.count);
  within = omega (arith, k.within);
}

-- where a pair stood that stands in the slots without one of theirs
record Stood (slots : List (Option Pair)) (i : ℕ) (q : Pair) : Type 0 where
  pub place : ℕ
  pub other : place ≢ i
  pub stood : slot_at slots place ≡ Some q

stood_there :
    (slots : List (Option Pair)) (i j : ℕ) (q : Pair) → i < length slots
    → slot_at (slice_set slots i None) j ≡ Some q → Stood slots i q
stood_there slots i j q lt at = elim (cases_eq j i) [
  | inl e ↦ absurd (none-some q (sym (slot-set_same slots i None lt) ∙ ap (slot_at (slice_set slots i None)) (sym e) ∙ at))
  | inr ne ↦ record { place = j; other = ne; stood = sym (slot-set_other slots i j None ne) ∙ at }
]

pub erase_is :
    (slots new : List (Option Pair)) (held most i : ℕ) (p : Pair) (key : List ℕ)
    → IsSoundMap slots held most → slot_at slots i ≡ Some p → p.key ≡ key → AreMet (2 * most) new
    → AreSamePairs (slice_set slots i None) new
    → IsErased key (bindings_of (pairs_of slots) most) (bindings_of (pairs_of new) most)
erase_is slots new held most i p key k at is met same = record {
  unbound = value_none new key (λ j q now e. let f = from j q now in f.other (k.met.apart f.place i q p f.stood at (e ∙ sym is)));
  others = λ other ne. same_value slots new other k.met.apart met.apart
      (λ j q old e. same.carried j q (slot-set_other slots i j None (λ f. ne (sym e ∙ sym (ap (λ (x : Pair). x.key) (same_Some p q (sym at ∙ ap (slot_at slots) (sym f) ∙ old))) ∙ is)) ∙ old))
      (λ j q now e. let f = from j q now in (f.place, f.stood));
  count = omega (arith, one_fewer slots i p at, same.count);
  most = refl;
}
  where
    from : (j : ℕ) (q : Pair) → slot_at new j ≡ Some q → Stood slots i q
    from j q now = let b = same.brought j q now in stood_there slots i b.0 q (slot_within slots i p at) b.1
