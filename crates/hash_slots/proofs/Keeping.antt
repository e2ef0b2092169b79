-- What is true of the fields, and what the calls do to the pairs.
use Rattle.std.proofs.Common.{◌≡◌, ◌≢◌, ◌∙◌, ap, sym, refl, arith, ℕ, ◌+◌, ◌-◌, ◌*◌, ◌<◌, ◌≤◌, List, [], length, inl, inr}
use Rattle.std.specs.Prelude.{Option, Some, None, slice_set, replicate, Contains}
use Rattle.std.specs.Int.{IsPowerOfTwo}
use Rattle.std.proofs.Math.ListN.{length-set}
use Rattle.std.proofs.lemmas.Option.{none-some, same_Some}
use Rattle.std.proofs.lemmas.List.{length-replicate}
use Rattle.std.proofs.lemmas.Bool.{cases_eq}
use Rattle.hash_slots.specs.declared.cells.Pair.{Pair}
use Rattle.hash_slots.specs.Places.{home, slot_at, pairs_of, IsStop, AreMet, AreSamePairs}
use Rattle.hash_slots.specs.Tags.{tags_of, AreSound, IsPut, IsErased}
use Rattle.hash_slots.proofs.SlotLemmas.{slot-set_same, slot-set_other, slot_within, slot_replicate, pairs_replicate, count-set, weight}
use Rattle.hash_slots.proofs.Searches.{home_below, missed, stop_near, put_met}
use Rattle.hash_slots.proofs.Members.{listed, placed}

no_pair : (n i : ℕ) (p : Pair) → slot_at (replicate n None) i ≡ Some p → ⊥
no_pair n i p at = none-some p (sym (slot_replicate n i) ∙ at)

pub empty_sound :
    (most homes : ℕ) (slots : List (Option Pair)) → slots ≡ replicate (homes + most) None → 1 ≤ most
    → most ≤ 65536 → IsPowerOfTwo homes → 2 * most ≤ homes → homes < 4 * most
    → AreSound slots (homes - 1) 0 most
empty_sound most homes slots is some limit power wide narrow = rw is (record {
  some = some;
  limit = limit;
  power = (power.0, let e : homes - 1 + 1 ≡ homes = omega arith in e ∙ power.1);
  wide = omega arith;
  narrow = omega arith;
  room = omega (arith, length-replicate {A = Option Pair} (homes + most) None);
  met = record {
    after = λ i p at. absurd (no_pair (homes + most) i p at);
    reached = λ i p at. absurd (no_pair (homes + most) i p at);
    apart = λ i j p q at. absurd (no_pair (homes + most) i p at);
  };
  count = ap length (pairs_replicate (homes + most));
  within = omega arith;
})

pub empty_pairs :
    (n : ℕ) (slots : List (Option Pair)) → slots ≡ replicate n None → pairs_of slots ≡ []
empty_pairs n slots is = ap pairs_of is ∙ pairs_replicate n

pub stop_within :
    (slots : List (Option Pair)) (mask held most : ℕ) (p : Pair) (i : ℕ)
    → AreSound slots mask held most → IsStop slots (home mask p.tag) p i → held < most
    → i < length slots
stop_within slots mask held most p i k stop room =
    let near = stop_near slots (home mask p.tag) p i stop in
    let low = home_below mask p.tag in
    omega (arith, k.room, k.count)

-- a pair that is none of them is not where its search stops
pub stop_none :
    (slots : List (Option Pair)) (p : Pair) (from i : ℕ) → IsStop slots from p i
    → (Contains (pairs_of slots) p → ⊥) → slot_at slots i ≡ None
stop_none slots p from i stop new = by_slot (slot_at slots i) refl
  where
    by_slot : (o : Option Pair) → slot_at slots i ≡ o → slot_at slots i ≡ None
    by_slot None e = e
    by_slot (Some q) e = absurd (new (listed slots i p (e ∙ ap (λ (x : Pair). Some x) (stop.stops q e))))

-- one that is one of them is
pub stop_there :
    (slots : List (Option Pair)) (mask : ℕ) (p : Pair) (i : ℕ) → AreMet mask slots
    → IsStop slots (home mask p.tag) p i → Contains (pairs_of slots) p → slot_at slots i ≡ Some p
stop_there slots mask p i met stop old = by_slot (slot_at slots i) refl
  where
    by_slot : (o : Option Pair) → slot_at slots i ≡ o → slot_at slots i ≡ Some p
    by_slot None e = let at = placed slots p old in absurd (missed mask slots p i met stop e at.0 p at.1 refl)
    by_slot (Some q) e = e ∙ ap (λ (x : Pair). Some x) (stop.stops q e)

pub put_sound :
    (slots : List (Option Pair)) (mask held most i : ℕ) (p : Pair) → AreSound slots mask held most
    → IsStop slots (home mask p.tag) p i → slot_at slots i ≡ None → held < most
    → AreSound (slice_set slots i (Some p)) mask (held + 1) most
put_sound slots mask held most i p k stop none room = record {
  some = k.some;
  limit = k.limit;
  power = k.power;
  wide = k.wide;
  narrow = k.narrow;
  room = length-set slots i (Some p) ∙ k.room;
  met = put_met mask slots i p k.met stop none lt;
  count = omega (arith, count-set slots i (Some p) lt, ap weight none, k.count);
  within = omega arith;
}
  where
    lt : i < length slots
    lt = stop_within slots mask held most p i k stop room

pub put_is :
    (slots : List (Option Pair)) (most i : ℕ) (p : Pair) → slot_at slots i ≡ None → i < length slots
    → IsPut p (tags_of (pairs_of slots) most) (tags_of (pairs_of (slice_set slots i (Some p))) most)
put_is slots most i p none lt = record {
  there = listed (slice_set slots i (Some p)) i p (slot-set_same slots i (Some p) lt);
  others = λ q ne. (
    λ new. let at = placed (slice_set slots i (Some p)) q new in
        listed slots at.0 q (sym (slot-set_other slots i at.0 (Some p) (λ e. ne (sym (same_Some p q (sym (slot-set_same slots i (Some p) lt) ∙ ap (slot_at (slice_set slots i (Some p))) (sym e) ∙ at.1))))) ∙ at.1),
    λ old. let at = placed slots q old in
        listed (slice_set slots i (Some p)) at.0 q (slot-set_other slots i at.0 (Some p) (λ e. none-some q (sym none ∙ ap (slot_at slots) (sym e) ∙ at.1)) ∙ at.1),
  );
  count = omega (arith, count-set slots i (Some p) lt, ap weight none);
  most = refl;
}

-- one pair fewer where a slot is made empty
one_fewer :
    (slots : List (Option Pair)) (i : ℕ) (p : Pair) → slot_at slots i ≡ Some p
    → length (pairs_of (slice_set slots i None)) + 1 ≡ length (pairs_of slots)
one_fewer slots i p at = omega (arith, count-set slots i None (slot_within slots i p at), ap weight at)

pub held_some :
    (slots : List (Option Pair)) (mask held most i : ℕ) (p : Pair) → AreSound slots mask held most
    → slot_at slots i ≡ Some p → 1 ≤ held
held_some slots mask held most i p k at = omega (arith, one_fewer slots i p at, k.count)

pub erase_sound :
    (slots new : List (Option Pair)) (mask held most i : ℕ) (p : Pair)
    → AreSound slots mask held most → slot_at slots i ≡ Some p → AreMet mask new
    → AreSamePairs (slice_set slots i None) new → AreSound new mask (held - 1) most
erase_sound slots new mask held most i p k at met same = record {
  some = k.some;
  limit = k.limit;
  power = k.power;
  wide = k.wide;
  narrow = k.narrow;
  room = same.size ∙ length-set slots i None ∙ k.room;
  met = met;
  count = omega (arith, one_fewer slots i p at, same.count, k.count);
  within = omega (arith, k.within);
}

-- where a pair stood that stands in the slots without one of theirs
record Stood (slots : List (Option Pair)) (i : ℕ) (q : Pair) : Type 0 where
  pub place : ℕ
  pub other : place ≢ i
  pub stood : slot_at slots place ≡ Some q

stood_there :
    (slots : List (Option Pair)) (i j : ℕ) (q : Pair) → i < length slots
    → slot_at (slice_set slots i None) j ≡ Some q → Stood slots i q
stood_there slots i j q lt at = elim (cases_eq j i) [
  | inl e ↦ absurd (none-some q (sym (slot-set_same slots i None lt) ∙ ap (slot_at (slice_set slots i None)) (sym e) ∙ at))
  | inr ne ↦ record { place = j; other = ne; stood = sym (slot-set_other slots i j None ne) ∙ at }
]

pub erase_is :
    (slots new : List (Option Pair)) (mask most i : ℕ) (p : Pair) → AreMet mask slots
    → slot_at slots i ≡ Some p → AreSamePairs (slice_set slots i None) new
    → IsErased p (tags_of (pairs_of slots) most) (tags_of (pairs_of new) most)
erase_is slots new mask most i p met at same = record {
  gone = λ h. let now = placed new p h in let f = from now.0 p now.1 in f.other (met.apart f.place i p p f.stood at refl);
  others = λ q ne. (
    λ h. let now = placed new q h in let f = from now.0 q now.1 in listed slots f.place q f.stood,
    λ h. let old = placed slots q h in
        let now = same.carried old.0 q (slot-set_other slots i old.0 None (λ e. ne (same_Some q p (sym old.1 ∙ ap (slot_at slots) e ∙ at))) ∙ old.1) in
        listed new now.0 q now.1,
  );
  count = omega (arith, one_fewer slots i p at, same.count);
  most = refl;
}
  where
    from : (j : ℕ) (q : Pair) → slot_at new j ≡ Some q → Stood slots i q
    from j q now = let b = same.brought j q now in stood_there slots i b.0 q (slot_within slots i p at) b.1
