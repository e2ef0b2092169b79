-- Entries by index, and by their parts.
use Rattle.std.proofs.Common.{◌≡◌, ◌≢◌, ◌∙◌, ap, sym, refl, arith, ℕ, zero, suc, ◌+◌, ◌<◌, ◌≤◌, List, [], ◌∷◌, ◌++◌, length, get_or, take, replicate}
use Rattle.std.specs.Prelude.{Option, Some, None, slice_get, slice_set, IsTrue}
use Rattle.std.proofs.lemmas.List.{set-get_or, take_more}
use Rattle.std.proofs.lemmas.Option.{none-some}
use Rattle.nf_base.specs.declared.state.Entry.{Entry}
use Rattle.nf_base.specs.Chains.{entry_at, is_vacant}
use Rattle.vig_chain.specs.Stamps.{stamp_of, is_vacant_at}
use Rattle.vig_tables.specs.Slots.{slot_of, slots_of, live}

pub entry-set_same :
    (slots : List (Option Entry)) (i : ℕ) (v : Option Entry) → i < length slots
    → entry_at (slice_set slots i v) i ≡ v
entry-set_same [] i v lt = absurd (omega arith)
entry-set_same (s ∷ slots) zero v lt = refl
entry-set_same (s ∷ slots) (suc i) v lt = entry-set_same slots i v (omega (arith, lt))

pub entry-set_other :
    (slots : List (Option Entry)) (i j : ℕ) (v : Option Entry) → j ≢ i
    → entry_at (slice_set slots i v) j ≡ entry_at slots j
entry-set_other [] i j v ne = refl
entry-set_other (s ∷ slots) zero zero v ne = absurd (ne refl)
entry-set_other (s ∷ slots) zero (suc j) v ne = refl
entry-set_other (s ∷ slots) (suc i) zero v ne = refl
entry-set_other (s ∷ slots) (suc i) (suc j) v ne = entry-set_other slots i j v (λ e. ne (ap suc e))

pub entry_within :
    (slots : List (Option Entry)) (i : ℕ) (e : Entry) → entry_at slots i ≡ Some e → i < length slots
entry_within [] i e here = absurd (none-some e here)
entry_within (s ∷ slots) zero e here = omega arith
entry_within (s ∷ slots) (suc i) e here = omega (arith, entry_within slots i e here)

entry_or : (slots : List (Option Entry)) (i : ℕ) → get_or slots i None ≡ entry_at slots i
entry_or [] i = refl
entry_or (s ∷ slots) zero = refl
entry_or (s ∷ slots) (suc i) = entry_or slots i

-- one more entry behind the first ones
pub one_more :
    (slots front new : List (Option Entry)) (i : ℕ) (x : Option Entry) → new ≡ front ++ x ∷ []
    → front ≡ take i slots → x ≡ entry_at slots i → i < length slots → new ≡ take (i + 1) slots
one_more slots front new i x pushed so_far here lt =
    pushed ∙ ap (λ (xs : List (Option Entry)). xs ++ x ∷ []) so_far ∙ ap (λ (y : Option Entry). take i slots ++ y ∷ []) (here ∙ sym (entry_or slots i)) ∙ sym (take_more slots i None lt)

-- a columns index is within the list, and has no entry
pub vacant_parts :
    (slots : List (Option Entry)) (i : ℕ) → IsTrue (is_vacant (slice_get slots i))
    → (i < length slots) × (entry_at slots i ≡ None)
vacant_parts [] i e = absurd (grind arith)
vacant_parts (None ∷ slots) zero e = (omega arith, refl)
vacant_parts (Some s ∷ slots) zero e = absurd (grind arith)
vacant_parts (s ∷ slots) (suc i) e = let parts = vacant_parts slots i e in (omega (arith, parts.0), parts.1)

-- an index without an entry keeps none
pub none_again :
    (slots : List (Option Entry)) (i : ℕ) → entry_at slots i ≡ None → slice_set slots i None ≡ slots
none_again [] i none = refl
none_again (None ∷ slots) zero none = refl
none_again (Some s ∷ slots) zero none = absurd (none-some s (sym none))
none_again (s ∷ slots) (suc i) none = ap (λ (rest : List (Option Entry)). s ∷ rest) (none_again slots i none)

abbrev pub weight : Option Entry → ℕ
weight None = 0
weight (Some e) = 1

live-cons :
    (s : Option Entry) (slots : List (Option Entry)) → live (s ∷ slots) ≡ live slots + weight s
live-cons None slots = omega arith
live-cons (Some e) slots = refl

-- how many entries there are after a change at an index
pub live-set :
    (slots : List (Option Entry)) (i : ℕ) (v : Option Entry) → i < length slots
    → live (slice_set slots i v) + weight (entry_at slots i) ≡ live slots + weight v
live-set [] i v lt = absurd (omega arith)
live-set (s ∷ slots) zero v lt = omega (arith, live-cons s slots, live-cons v slots)
live-set (s ∷ slots) (suc i) v lt = omega (arith, live-set slots i v (omega (arith, lt)), live-cons s slots, live-cons s (slice_set slots i v))

live_most : (slots : List (Option Entry)) → live slots ≤ length slots
live_most [] = omega arith
live_most (None ∷ slots) = omega (arith, live_most slots)
live_most (Some e ∷ slots) = omega (arith, live_most slots)

-- where an index is columns there are fewer entries than indices
pub live_room :
    (slots : List (Option Entry)) (i : ℕ) → IsTrue (is_vacant (slice_get slots i))
    → live slots < length slots
live_room [] i e = absurd (grind arith)
live_room (None ∷ slots) zero e = omega (arith, live_most slots)
live_room (Some s ∷ slots) zero e = absurd (grind arith)
live_room (None ∷ slots) (suc i) e = omega (arith, live_room slots i e)
live_room (Some s ∷ slots) (suc i) e = omega (arith, live_room slots i e)

pub live_none : (n : ℕ) → live (replicate n None) ≡ 0
live_none zero = refl
live_none (suc n) = live_none n

pub entry_none : (n i : ℕ) → entry_at (replicate n None) i ≡ None
entry_none zero i = refl
entry_none (suc n) zero = refl
entry_none (suc n) (suc i) = entry_none n i

pub stamp-set_other :
    (stamps : List (Option ℕ)) (i j : ℕ) (v : Option ℕ) → j ≢ i
    → stamp_of (slice_set stamps i v) j ≡ stamp_of stamps j
stamp-set_other [] i j v ne = refl
stamp-set_other (s ∷ stamps) zero zero v ne = absurd (ne refl)
stamp-set_other (s ∷ stamps) zero (suc j) v ne = refl
stamp-set_other (s ∷ stamps) (suc i) zero v ne = refl
stamp-set_other (s ∷ stamps) (suc i) (suc j) v ne = stamp-set_other stamps i j v (λ e. ne (ap suc e))

pub stamp_within :
    (stamps : List (Option ℕ)) (i s : ℕ) → stamp_of stamps i ≡ Some s → i < length stamps
stamp_within [] i s here = absurd (none-some s here)
stamp_within (x ∷ stamps) zero s here = omega arith
stamp_within (x ∷ stamps) (suc i) s here = omega (arith, stamp_within stamps i s here)

pub stamp_past : (stamps : List (Option ℕ)) (i : ℕ) → length stamps ≤ i → stamp_of stamps i ≡ None
stamp_past [] i le = refl
stamp_past (x ∷ stamps) zero le = absurd (omega arith)
stamp_past (x ∷ stamps) (suc i) le = stamp_past stamps i (omega (arith, le))

pub stamp_none : (n i : ℕ) → stamp_of (replicate n None) i ≡ None
stamp_none zero i = refl
stamp_none (suc n) zero = refl
stamp_none (suc n) (suc i) = stamp_none n i

-- how many indices there are, by the parts
pub length-slots_of :
    (stamps : List (Option ℕ)) (labels columns : List (List ℕ)) → length labels ≡ length stamps
    → length columns ≡ length stamps → length (slots_of stamps labels columns) ≡ length stamps
length-slots_of [] labels columns l f = refl
length-slots_of (s ∷ stamps) [] columns l f = absurd (omega arith)
length-slots_of (s ∷ stamps) (x ∷ labels) [] l f = absurd (omega arith)
length-slots_of (s ∷ stamps) (x ∷ labels) (y ∷ columns) l f = ap suc (length-slots_of stamps labels columns (omega (arith, l)) (omega (arith, f)))

-- what stands at an index, by the parts
pub entry_of :
    (stamps : List (Option ℕ)) (labels columns : List (List ℕ)) (i : ℕ)
    → length labels ≡ length stamps → length columns ≡ length stamps
    → entry_at (slots_of stamps labels columns) i ≡ slot_of (stamp_of stamps i) (get_or labels i []) (get_or columns i [])
entry_of [] labels columns i l f = refl
entry_of (s ∷ stamps) [] columns i l f = absurd (omega arith)
entry_of (s ∷ stamps) (x ∷ labels) [] i l f = absurd (omega arith)
entry_of (s ∷ stamps) (x ∷ labels) (y ∷ columns) zero l f = refl
entry_of (s ∷ stamps) (x ∷ labels) (y ∷ columns) (suc i) l f = entry_of stamps labels columns i (omega (arith, l)) (omega (arith, f))

-- an index is columns where it has no stamp
pub vacant_of :
    (stamps : List (Option ℕ)) (labels columns : List (List ℕ)) (i : ℕ)
    → length labels ≡ length stamps → length columns ≡ length stamps
    → is_vacant (slice_get (slots_of stamps labels columns) i) ≡ is_vacant_at stamps i
vacant_of [] labels columns i l f = refl
vacant_of (s ∷ stamps) [] columns i l f = absurd (omega arith)
vacant_of (s ∷ stamps) (x ∷ labels) [] i l f = absurd (omega arith)
vacant_of (None ∷ stamps) (x ∷ labels) (y ∷ columns) zero l f = refl
vacant_of (Some s ∷ stamps) (x ∷ labels) (y ∷ columns) zero l f = refl
vacant_of (s ∷ stamps) (x ∷ labels) (y ∷ columns) (suc i) l f = vacant_of stamps labels columns i (omega (arith, l)) (omega (arith, f))

-- all parts of an index changed
pub all_set :
    (stamps : List (Option ℕ)) (labels columns : List (List ℕ)) (i : ℕ) (v : Option ℕ)
    (l f : List ℕ)
    → slots_of (slice_set stamps i v) (slice_set labels i l) (slice_set columns i f) ≡ slice_set (slots_of stamps labels columns) i (slot_of v l f)
all_set [] labels columns i v l f = refl
all_set (s ∷ stamps) [] columns zero v l f = refl
all_set (s ∷ stamps) [] columns (suc i) v l f = refl
all_set (s ∷ stamps) (x ∷ labels) [] zero v l f = refl
all_set (s ∷ stamps) (x ∷ labels) [] (suc i) v l f = refl
all_set (s ∷ stamps) (x ∷ labels) (y ∷ columns) zero v l f = refl
all_set (s ∷ stamps) (x ∷ labels) (y ∷ columns) (suc i) v l f = ap (λ (rest : List (Option Entry)). slot_of s x y ∷ rest) (all_set stamps labels columns i v l f)

-- the stamp alone
pub stamp_set :
    (stamps : List (Option ℕ)) (labels columns : List (List ℕ)) (i : ℕ) (v : Option ℕ)
    → slots_of (slice_set stamps i v) labels columns ≡ slice_set (slots_of stamps labels columns) i (slot_of v (get_or labels i []) (get_or columns i []))
stamp_set stamps labels columns i v =
    ap (λ (ls : List (List ℕ)). slots_of (slice_set stamps i v) ls columns) (sym (set-get_or labels i []))
    ∙ ap (λ (fs : List (List ℕ)). slots_of (slice_set stamps i v) (slice_set labels i (get_or labels i [])) fs) (sym (set-get_or columns i []))
    ∙ all_set stamps labels columns i v (get_or labels i []) (get_or columns i [])

pub stamp_or : (stamps : List (Option ℕ)) (i : ℕ) → get_or stamps i None ≡ stamp_of stamps i
stamp_or [] i = refl
stamp_or (s ∷ stamps) zero = refl
stamp_or (s ∷ stamps) (suc i) = stamp_or stamps i

-- the free columns alone
pub columns_set :
    (stamps : List (Option ℕ)) (labels columns : List (List ℕ)) (i : ℕ) (f : List ℕ)
    → slots_of stamps labels (slice_set columns i f) ≡ slice_set (slots_of stamps labels columns) i (slot_of (stamp_of stamps i) (get_or labels i []) f)
columns_set stamps labels columns i f =
    ap (λ (ss : List (Option ℕ)). slots_of ss labels (slice_set columns i f)) (sym (set-get_or stamps i None))
    ∙ ap (λ (ls : List (List ℕ)). slots_of (slice_set stamps i (get_or stamps i None)) ls (slice_set columns i f)) (sym (set-get_or labels i []))
    ∙ all_set stamps labels columns i (get_or stamps i None) (get_or labels i []) f
    ∙ ap (λ (v : Option ℕ). slice_set (slots_of stamps labels columns) i (slot_of v (get_or labels i []) f)) (stamp_or stamps i)

pub slots_of_none :
    (n : ℕ) (l f : List ℕ)
    → slots_of (replicate n None) (replicate n l) (replicate n f) ≡ replicate n None
slots_of_none zero l f = refl
slots_of_none (suc n) l f = ap (λ (rest : List (Option Entry)). None ∷ rest) (slots_of_none n l f)
