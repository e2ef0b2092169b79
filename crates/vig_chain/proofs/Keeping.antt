-- A chain's fields keep what is true of them where an index is given a stamp, or loses it.
use Rattle.std.proofs.Common.{◌≡◌, ◌≢◌, ◌∙◌, ap, sym, refl, subst, arith, ℕ, ◌+◌, ◌<◌, ◌≤◌, Bool, true, List, length, inl, inr, ◌⊎◌}
use Rattle.std.specs.Prelude.{Option, Some, None, slice_index, slice_set, IsTrue, IsSome, IfSome, MatchBool, ◌==◌}
use Rattle.std.proofs.Math.ListN.{length-set}
use Rattle.std.proofs.lemmas.Bool.{cases_eq, and_parts, and_from}
use Rattle.std.proofs.lemmas.Bool.Decides.{eqb_tells}
use Rattle.std.proofs.lemmas.Option.{none-some}
use Rattle.nf_base.specs.Shares.{owns}
use Rattle.vig_chain.specs.Stamps.{Stamps, stamp_of, is_vacant_at, is_available, NoIndexHas, SomeIndexHas, IsOldest}
use Rattle.vig_chain.specs.Rings.{Rings, ring_of, ring_for, unlinked, appended}
use Rattle.vig_chain.specs.Sound.{IsSoundChain, LinksInRange}
use Rattle.vig_chain.proofs.RingLemmas.{IsFirst, first, goes_on}
use Rattle.vig_chain.proofs.Relinking.{IsPutLast, moved}
use Rattle.vig_chain.proofs.Slots.{stamp-set_same, stamp-set_other, stamp_within, ring_within_size, ring_begins, ring-set_same, ring-set_other, ring_live, ring_free, empty_parts, empty_from}

-- an own index stands in one of the two rings
own_ring :
    (size : ℕ) (own : ℕ → Bool) (slots : List (Option ℕ)) (i : ℕ) → i < size → own i ≡ true
    → size ≤ ring_of size own slots i
own_ring size own slots i lt is_own = rw (ring_within_size size own slots i lt, is_own) (above (stamp_of slots i))
  where
    above : (stamp : Option ℕ) → size ≤ ring_for size true stamp
    above (Some s) = omega arith
    above None = omega arith

ring_above : (size : ℕ) (v : Option ℕ) → size ≤ ring_for size true v
ring_above size (Some s) = omega arith
ring_above size None = omega arith

ring_within : (size : ℕ) (v : Option ℕ) → ring_for size true v < size + 2
ring_within size (Some s) = omega arith
ring_within size None = omega arith

pub sound_set :
    (size i g : ℕ) (v : Option ℕ) (chain : Stamps) (rings : Rings)
    (k : IsSoundChain size chain rings) → LinksInRange rings → i < size
    → IsTrue (owns chain.share i) → chain.greatest ≤ g → ((u : ℕ) → v ≡ Some u → u ≡ g)
    → IsSoundChain size (record { slots = slice_set chain.slots i v; greatest = g; share = chain.share }) (appended i (ring_for size true v) (unlinked i rings))
sound_set size i g v chain rings k w lt is_own' grows given = record {
  slots = length-set chain.slots i v ∙ k.slots;
  most = k.most;
  cells = length-set _ _ _ ∙ length-set _ _ _ ∙ length-set _ _ _ ∙ k.cells;
  linked = m.linked;
  sorted = λ j l s u at_j at_l le. elim (cases_eq j i) [
    | inl e ↦ elim (cases_eq l i) [
      | inl f ↦ omega (arith, given s (new j s e at_j), given u (new l u f at_l))
      | inr nf ↦
          let old = stamp_within chain.slots l u (kept l u nf at_l) in
          absurd (omega (arith, k.linked.under l, ap m.linked.rank e, m.rank_here, m.rank_there l nf, k.slots))
    ]
    | inr ne ↦ elim (cases_eq l i) [
      | inl f ↦ omega (arith, k.under j s (kept j s ne at_j), given u (new l u f at_l))
      | inr nf ↦ k.sorted j l s u (kept j s ne at_j) (kept l u nf at_l) (omega (arith, m.rank_there j ne, m.rank_there l nf))
    ]
  ];
  under = λ j s at. elim (cases_eq j i) [
    | inl e ↦ omega (arith, given s (new j s e at))
    | inr ne ↦ omega (arith, k.under j s (kept j s ne at))
  ];
  own = λ j s at. elim (cases_eq j i) [
    | inl e ↦ subst (λ (x : ℕ). IsTrue (owns chain.share x)) (sym e) is_own'
    | inr ne ↦ k.own j s (kept j s ne at)
  ];
}
  where
    within : i < length chain.slots
    within = omega (arith, k.slots)

    new : (j s : ℕ) → j ≡ i → stamp_of (slice_set chain.slots i v) j ≡ Some s → v ≡ Some s
    new j s e at =
        sym (stamp-set_same chain.slots i v within)
        ∙ ap (stamp_of (slice_set chain.slots i v)) (sym e)
        ∙ at

    kept :
        (j s : ℕ) → j ≢ i → stamp_of (slice_set chain.slots i v) j ≡ Some s
        → stamp_of chain.slots j ≡ Some s
    kept j s ne at = sym (stamp-set_other chain.slots i j v ne) ∙ at

    m :
        IsPutLast size i (ring_for size true v) (unlinked i rings) (ring_of size (owns chain.share) (slice_set chain.slots i v)) k.linked.rank k.linked.rank_bound
    m = moved size i (ring_for size true v) rings (ring_of size (owns chain.share) chain.slots) (ring_of size (owns chain.share) (slice_set chain.slots i v)) k.linked w k.cells (own_ring size (owns chain.share) chain.slots i lt is_own') lt (ring_above size v) (ring_within size v) (ring_begins size (owns chain.share) chain.slots (ring_for size true v) (ring_above size v) (ring_within size v)) (record {
      here =
          ring-set_same size (owns chain.share) chain.slots i v lt k.slots
          ∙ ap (λ (o : Bool). ring_for size o v) is_own'
          ∙ at_ring_of v;
      there = λ j ne. ring-set_other size (owns chain.share) chain.slots i j v ne;
    })
      where
        at_ring_of : (x : Option ℕ) → ring_for size true x ≡ ring_for size true x
        at_ring_of x = refl

-- the last index of a chain is free or live
pub own_within :
    (size : ℕ) (chain : Stamps) (rings : Rings) (k : IsSoundChain size chain rings) (i s : ℕ)
    → stamp_of chain.slots i ≡ Some s → i < size
own_within size chain rings k i s at = omega (arith, stamp_within chain.slots i s at, k.slots)

some_of : (o : Option ℕ) → IsSome o → (s : ℕ) × (o ≡ Some s)
some_of None live = absurd (grind arith)
some_of (Some s) live = (s, refl)

-- an index with an entry is own
pub own_of :
    (size : ℕ) (chain : Stamps) (rings : Rings) (k : IsSoundChain size chain rings) (i : ℕ)
    (o : Option ℕ) → o ≡ stamp_of chain.slots i → IsSome o → IsTrue (owns chain.share i)
own_of size chain rings k i o is live = let got = some_of o live in k.own i got.0 (sym is ∙ got.1)

-- no stamp is above the greatest one
pub under_of :
    (size : ℕ) (chain : Stamps) (rings : Rings) (k : IsSoundChain size chain rings) (i : ℕ)
    (o : Option ℕ) → o ≡ stamp_of chain.slots i → IfSome o (λ stamp. stamp ≤ chain.greatest)
under_of size chain rings k i None is = tt
under_of size chain rings k i (Some stamp) is = k.under i stamp (sym is)

-- a chain stays sound where its greatest stamp rises
pub raised_sound :
    (size : ℕ) (chain : Stamps) (rings : Rings) (top : ℕ) → IsSoundChain size chain rings
    → chain.greatest ≤ top → IsSoundChain size (record chain { greatest = top }) rings
raised_sound size chain rings top k no_less = record {
  slots = k.slots;
  most = k.most;
  cells = k.cells;
  linked = k.linked;
  sorted = k.sorted;
  under = λ i s at. omega (arith, k.under i s at);
  own = k.own;
}

-- an own index within that is free or live
pub own_at :
    (size : ℕ) (chain : Stamps) (rings : Rings) (k : IsSoundChain size chain rings) (i : ℕ)
    → IsTrue (is_available chain i) ⊎ IsSome (stamp_of chain.slots i)
    → IsTrue (owns chain.share i) × (i < size)
own_at size chain rings k i (inl free) =
    let parts = and_parts (owns chain.share i) (is_vacant_at chain.slots i) free in
    (parts.0, omega (arith, (empty_parts chain.slots i parts.1).0, k.slots))
own_at size chain rings k i (inr live) = let got = some_of (stamp_of chain.slots i) live in (k.own i got.0 got.1, own_within size chain rings k i got.0 got.1)

-- no index is free where the ring of the free ones ends where it begins
pub none_available :
    (size : ℕ) (chain : Stamps) (rings : Rings) (k : IsSoundChain size chain rings)
    → slice_index rings.next (size + 1) ≡ size + 1 → NoIndexHas (is_available chain)
none_available size chain rings k ends i free =
    let parts = and_parts (owns chain.share i) (is_vacant_at chain.slots i) free in
    let empty = empty_parts chain.slots i parts.1 in
    let lt : i < size = omega (arith, empty.0, k.slots) in
    let at : ring_of size (owns chain.share) chain.slots i ≡ size + 1 = ring_within_size size (owns chain.share) chain.slots i lt ∙ rw (parts.0, empty.1) refl in
    let f = first size (size + 1) i _ _ _ k.linked (omega arith) at lt in
    omega (arith, f.below)

-- else the first of it is
pub first_available :
    (size : ℕ) (chain : Stamps) (rings : Rings) (k : IsSoundChain size chain rings) (i : ℕ)
    → i ≡ slice_index rings.next (size + 1) → i ≢ size + 1 → IsTrue (is_available chain i)
first_available size chain rings k i is ne = rw is (and_from (owns chain.share n) (is_vacant_at chain.slots n) parts.0 (empty_from chain.slots n (omega (arith, below, k.slots)) parts.1))
  where
    n : ℕ
    n = slice_index rings.next (size + 1)

    below : slice_index rings.next (size + 1) < size
    below = goes_on size (size + 1) _ _ _ k.linked (omega arith) k.linked.begins_free (λ e. ne (is ∙ e))

    at : ring_of size (owns chain.share) chain.slots (slice_index rings.next (size + 1)) ≡ size + 1
    at = k.linked.next_ring (size + 1) (omega (arith, k.linked.begins_free)) ∙ k.linked.begins_free

    parts :
        (owns chain.share (slice_index rings.next (size + 1)) ≡ true) × (stamp_of chain.slots (slice_index rings.next (size + 1)) ≡ None)
    parts = ring_free size (owns chain.share) chain.slots (slice_index rings.next (size + 1)) below at

pub fullness :
    (size : ℕ) (chain : Stamps) (rings : Rings) (k : IsSoundChain size chain rings) (n : ℕ)
    → n ≡ slice_index rings.next (size + 1)
    → MatchBool (n == size + 1) (NoIndexHas (is_available chain)) (SomeIndexHas (is_available chain))
fullness size chain rings k n is = elim (eqb_tells n (size + 1)) [
  | inl e ↦ subst (λ (b : Bool). MatchBool b (NoIndexHas (is_available chain)) (SomeIndexHas (is_available chain))) (sym e.0) (none_available size chain rings k (sym is ∙ e.1))
  | inr e ↦ subst (λ (b : Bool). MatchBool b (NoIndexHas (is_available chain)) (SomeIndexHas (is_available chain))) (sym e.0) (n, first_available size chain rings k n is e.1)
]

-- the first entry
first_live :
    (size : ℕ) (chain : Stamps) (rings : Rings) (k : IsSoundChain size chain rings) (j s : ℕ)
    → stamp_of chain.slots j ≡ Some s
    → IsFirst size size (slice_index rings.next) (ring_of size (owns chain.share) chain.slots) k.linked.rank j
first_live size chain rings k j s at =
    let lt = own_within size chain rings k j s at in
    first size size j _ _ _ k.linked (omega arith) (ring_within_size size (owns chain.share) chain.slots j lt ∙ rw at refl) lt

-- it is an oldest
pub first_oldest :
    (size : ℕ) (chain : Stamps) (rings : Rings) (k : IsSoundChain size chain rings) (i : ℕ)
    → i ≡ slice_index rings.next size → IsOldest chain i
first_oldest size chain rings k i is j s u at_i at_j = k.sorted (slice_index rings.next size) j s u (rw is at at_i) at_j (first_live size chain rings k j u at_j).least

-- where it has no stamp there is none
pub none_live :
    (size : ℕ) (chain : Stamps) (rings : Rings) (k : IsSoundChain size chain rings) (i : ℕ)
    → i ≡ slice_index rings.next size → stamp_of chain.slots i ≡ None → (j s : ℕ)
    → stamp_of chain.slots j ≡ Some s → ⊥
none_live size chain rings k i is none j s at =
    let f = first_live size chain rings k j s at in
    let got = ring_live size (owns chain.share) chain.slots (slice_index rings.next size) f.below f.at_ring in
    none-some got.0 (sym (rw is at none) ∙ got.1)
