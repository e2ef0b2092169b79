-- The stamps of a chain by index, and the ring in which each index stands.
use Rattle.std.proofs.Common.{◌≡◌, ◌≢◌, ◌∙◌, ap, sym, refl, arith, ℕ, zero, suc, ◌+◌, ◌<◌, ◌≤◌, Bool, true, false, List, [], ◌∷◌, length, get_or, ltb}
use Rattle.std.specs.Prelude.{Option, Some, None, slice_set, replicate, IsTrue}
use Rattle.std.proofs.lemmas.Bool.{lt-ltb, le-ltb, ltb-true}
use Rattle.std.proofs.lemmas.Option.{none-some}
use Rattle.vig_chain.specs.Stamps.{stamp_of, is_vacant_at}
use Rattle.vig_chain.specs.Rings.{ring_of, ring_for}

pub stamp-set_same :
    (slots : List (Option ℕ)) (i : ℕ) (v : Option ℕ) → i < length slots
    → stamp_of (slice_set slots i v) i ≡ v
stamp-set_same [] i v lt = absurd (omega arith)
stamp-set_same (s ∷ slots) zero v lt = refl
stamp-set_same (s ∷ slots) (suc i) v lt = stamp-set_same slots i v (omega (arith, lt))

pub stamp-set_other :
    (slots : List (Option ℕ)) (i j : ℕ) (v : Option ℕ) → j ≢ i
    → stamp_of (slice_set slots i v) j ≡ stamp_of slots j
stamp-set_other [] i j v ne = refl
stamp-set_other (s ∷ slots) zero zero v ne = absurd (ne refl)
stamp-set_other (s ∷ slots) zero (suc j) v ne = refl
stamp-set_other (s ∷ slots) (suc i) zero v ne = refl
stamp-set_other (s ∷ slots) (suc i) (suc j) v ne = stamp-set_other slots i j v (λ e. ne (ap suc e))

pub stamp_within :
    (slots : List (Option ℕ)) (i s : ℕ) → stamp_of slots i ≡ Some s → i < length slots
stamp_within [] i s here = absurd (none-some s here)
stamp_within (x ∷ slots) zero s here = omega arith
stamp_within (x ∷ slots) (suc i) s here = omega (arith, stamp_within slots i s here)

-- an index with room is within the list, and has no entry
pub empty_parts :
    (slots : List (Option ℕ)) (i : ℕ) → IsTrue (is_vacant_at slots i)
    → (i < length slots) × (stamp_of slots i ≡ None)
empty_parts [] i e = absurd (grind arith)
empty_parts (None ∷ slots) zero e = (omega arith, refl)
empty_parts (Some s ∷ slots) zero e = absurd (grind arith)
empty_parts (x ∷ slots) (suc i) e = let parts = empty_parts slots i e in (omega (arith, parts.0), parts.1)

pub empty_from :
    (slots : List (Option ℕ)) (i : ℕ) → i < length slots → stamp_of slots i ≡ None
    → IsTrue (is_vacant_at slots i)
empty_from [] i lt none = absurd (omega arith)
empty_from (None ∷ slots) zero lt none = refl
empty_from (Some s ∷ slots) zero lt none = absurd (none-some s (sym none))
empty_from (x ∷ slots) (suc i) lt none = empty_from slots i (omega (arith, lt)) none

-- an index within: where its ring begins
pub ring_within_size :
    (size : ℕ) (own : ℕ → Bool) (slots : List (Option ℕ)) (j : ℕ) → j < size
    → ring_of size own slots j ≡ ring_for size (own j) (stamp_of slots j)
ring_within_size size own slots j lt = rw (lt-ltb j size lt) refl

-- the two beginnings
pub ring_begins :
    (size : ℕ) (own : ℕ → Bool) (slots : List (Option ℕ)) (j : ℕ) → size ≤ j → j < size + 2
    → ring_of size own slots j ≡ j
ring_begins size own slots j ge lt = rw (le-ltb j size ge, lt-ltb j (size + 2) lt) refl

pub ring_past :
    (size : ℕ) (own : ℕ → Bool) (slots : List (Option ℕ)) (j : ℕ) → size + 2 ≤ j
    → ring_of size own slots j ≡ 0
ring_past size own slots j ge =
    let over : size ≤ j = omega arith in
    rw (le-ltb j size over, le-ltb j (size + 2) ge) refl

pub ring-set_same :
    (size : ℕ) (own : ℕ → Bool) (slots : List (Option ℕ)) (i : ℕ) (v : Option ℕ) → i < size
    → length slots ≡ size → ring_of size own (slice_set slots i v) i ≡ ring_for size (own i) v
ring-set_same size own slots i v lt same =
    let within : i < length slots = omega arith in
    ring_within_size size own (slice_set slots i v) i lt ∙ ap (ring_for size (own i)) (stamp-set_same slots i v within)

pub ring-set_other :
    (size : ℕ) (own : ℕ → Bool) (slots : List (Option ℕ)) (i j : ℕ) (v : Option ℕ) → j ≢ i
    → ring_of size own (slice_set slots i v) j ≡ ring_of size own slots j
ring-set_other size own slots i j v ne = rw (stamp-set_other slots i j v ne) refl

-- an index in the ring of the entries has one
pub ring_live :
    (size : ℕ) (own : ℕ → Bool) (slots : List (Option ℕ)) (j : ℕ) → j < size
    → ring_of size own slots j ≡ size → (s : ℕ) × (stamp_of slots j ≡ Some s)
ring_live size own slots j lt at = of_stamp (own j) (stamp_of slots j) (sym (ring_within_size size own slots j lt) ∙ at)
  where
    of_stamp :
        (o : Bool) (stamp : Option ℕ) → ring_for size o stamp ≡ size → (s : ℕ) × (stamp ≡ Some s)
    of_stamp o (Some s) is = (s, refl)
    of_stamp true None is = absurd (omega arith)
    of_stamp false None is = absurd (omega arith)

-- an index in the ring of the free ones is own and has no entry
pub ring_free :
    (size : ℕ) (own : ℕ → Bool) (slots : List (Option ℕ)) (j : ℕ) → j < size
    → ring_of size own slots j ≡ size + 1 → (own j ≡ true) × (stamp_of slots j ≡ None)
ring_free size own slots j lt at = of_stamp (own j) (stamp_of slots j) (sym (ring_within_size size own slots j lt) ∙ at)
  where
    of_stamp :
        (o : Bool) (stamp : Option ℕ) → ring_for size o stamp ≡ size + 1
        → (o ≡ true) × (stamp ≡ None)
    of_stamp o (Some s) is = absurd (omega arith)
    of_stamp true None is = (refl, refl)
    of_stamp false None is = absurd (omega arith)

-- what a look-up reads
pub stamp_read :
    (slots : List (Option ℕ)) (i : ℕ) (x : Option ℕ) → true ≡ ltb i (length slots)
    → x ≡ get_or slots i x → x ≡ stamp_of slots i
stamp_read [] i x within is = absurd (omega (arith, ltb-true i 0 (sym within)))
stamp_read (s ∷ slots) zero x within is = is
stamp_read (s ∷ slots) (suc i) x within is =
    let lt : i < length slots = omega (arith, ltb-true (suc i) (length (s ∷ slots)) (sym within)) in
    stamp_read slots i x (sym (lt-ltb i (length slots) lt)) is

pub stamp_replicate : (n i : ℕ) → stamp_of (replicate n None) i ≡ None
stamp_replicate zero i = refl
stamp_replicate (suc n) zero = refl
stamp_replicate (suc n) (suc i) = stamp_replicate n i

pub no_stamp : (n i s : ℕ) → stamp_of (replicate n None) i ≡ Some s → ⊥
no_stamp n i s at = none-some s (sym (stamp_replicate n i) ∙ at)
