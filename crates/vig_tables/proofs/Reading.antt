-- What is read of the fields of a chain's tables.
use Rattle.std.proofs.Common.{◌≡◌, ◌∙◌, ap, sym, refl, subst, arith, ℕ, zero, suc, ◌<◌, ◌≤◌, Bool, true, false, ◌&&◌, List, [], ◌∷◌, length, inl, inr}
use Rattle.std.specs.Prelude.{Option, Some, None, slice_get, MatchBool, All, is_some, not, if◌then◌else◌}
use Rattle.std.proofs.lemmas.Bool.{cond-true, cond-false, cases_Bool, false_from_ne_true, and_parts, and_from, true≢false, false≢true}
use Rattle.std.specs.Option.{option_map}
use Rattle.std.proofs.lemmas.Option.{slice_get-map, get_or_from_slice_get, slice_get_within}
use Rattle.nf_base.specs.declared.decl.MapDecl.{MapDecl}
use Rattle.nf_base.specs.declared.decl.ChainDecl.{ChainDecl}
use Rattle.nf_base.specs.declared.state.Entry.{Entry}
use Rattle.nf_base.specs.Chains.{entry_at, is_due, is_vacant}
use Rattle.nf_base.specs.Shares.{none_vacant}
use Rattle.vig_chain.specs.Stamps as stamps
use Rattle.nf_base.specs.Shares.{owns}
use Rattle.vig_chain.specs.Stamps.{Stamps, stamp_of, is_due_at, SomeIndexHas, NoIndexHas}
use Rattle.vig_map.specs.Bindings.{value_of}
use Rattle.vig_tables.specs.Grid.{Grid, row_at}
use Rattle.vig_tables.specs.Keyed.{Keyed}
use Rattle.vig_tables.specs.Slots.{slot_of, labelled}
use Rattle.vig_tables.specs.Table.{is_open, index_under, index_with, has_label, has_labels}
use Rattle.vig_tables.specs.Joined.{entries, IsJoined, AreJoined}
use Rattle.vig_tables.proofs.Entries.{entry_of, vacant_of, length-slots_of, stamp_within, stamp_past}
use Rattle.vig_tables.proofs.Joining.{lookup_is}

-- what stands at an index, by the fields
pub entry_is :
    (decl : ChainDecl) (s : Stamps) (maps : List Keyed) (labels columns : Grid)
    → AreJoined decl s maps labels columns → (i : ℕ)
    → entry_at (entries s labels columns) i ≡ slot_of (stamp_of s.slots i) (row_at labels i) (row_at columns i)
entry_is decl s maps labels columns j i = entry_of s.slots labels.rows columns.rows i (j.label_rows ∙ sym j.size) (j.column_rows ∙ sym j.size)

-- an index may be given out by the fields where it may
pub open_is :
    (decl : ChainDecl) (s : Stamps) (maps : List Keyed) (labels columns : Grid)
    → AreJoined decl s maps labels columns → (i : ℕ)
    → is_open s.share (entries s labels columns) i ≡ stamps.is_available s i
open_is decl s maps labels columns j i = ap (λ (b : Bool). owns s.share i && b) (vacant_of s.slots labels.rows columns.rows i (j.label_rows ∙ sym j.size) (j.column_rows ∙ sym j.size))

-- where no index is own and vacant there is none
none_open :
    (own : ℕ → Bool) (slots : List (Option Entry))
    → ((i : ℕ) → (own i && is_vacant (slice_get slots i)) ≡ true → ⊥) → none_vacant own slots ≡ true
none_open own [] none = refl
none_open own (None ∷ slots) none =
    cond-false (own 0) false (none_vacant (λ i. own (suc i)) slots) (false_from_ne_true (own 0) (λ o. none 0 (and_from (own 0) true o refl)))
    ∙ none_open (λ i. own (suc i)) slots (λ i. none (suc i))
none_open own (Some e ∷ slots) none = none_open (λ i. own (suc i)) slots (λ i. none (suc i))

-- where one is there is one
some_open :
    (own : ℕ → Bool) (slots : List (Option Entry)) (i : ℕ)
    → (own i && is_vacant (slice_get slots i)) ≡ true → none_vacant own slots ≡ false
some_open own [] i is = absurd (false≢true (and_parts (own i) false is).1)
some_open own (None ∷ slots) zero is = cond-true (own 0) false (none_vacant (λ i. own (suc i)) slots) (and_parts (own 0) true is).0
some_open own (None ∷ slots) (suc i) is = elim (cases_Bool (own 0)) [
  | inl t ↦ cond-true (own 0) false (none_vacant (λ k. own (suc k)) slots) t
  | inr f ↦ cond-false (own 0) false (none_vacant (λ k. own (suc k)) slots) f ∙ some_open (λ k. own (suc k)) slots i is
]
some_open own (Some e ∷ slots) zero is = absurd (false≢true (and_parts (own 0) false is).1)
some_open own (Some e ∷ slots) (suc i) is = some_open (λ k. own (suc k)) slots i is

-- no index may be given out where none may by the fields
pub full_is :
    (decl : ChainDecl) (s : Stamps) (maps : List Keyed) (labels columns : Grid)
    → AreJoined decl s maps labels columns → (b : Bool)
    → MatchBool b (NoIndexHas (stamps.is_available s)) (SomeIndexHas (stamps.is_available s))
    → b ≡ none_vacant (owns s.share) (entries s labels columns)
full_is decl s maps labels columns j true none = sym (none_open (owns s.share) (entries s labels columns) (λ i is. none i (sym (open_is decl s maps labels columns j i) ∙ is)))
full_is decl s maps labels columns j false some = sym (some_open (owns s.share) (entries s labels columns) some.0 (open_is decl s maps labels columns j some.0 ∙ some.1))

-- the stamp at an index
pub stamp_is :
    (decl : ChainDecl) (s : Stamps) (maps : List Keyed) (labels columns : Grid)
    → AreJoined decl s maps labels columns → (i : ℕ)
    → stamp_of s.slots i ≡ option_map (λ (e : Entry). e.stamp) (entry_at (entries s labels columns) i)
stamp_is decl s maps labels columns j i =
    by_stamp (stamp_of s.slots i)
    ∙ sym (ap (option_map (λ (e : Entry). e.stamp)) (entry_is decl s maps labels columns j i))
  where
    by_stamp :
        (o : Option ℕ)
        → o ≡ option_map (λ (e : Entry). e.stamp) (slot_of o (row_at labels i) (row_at columns i))
    by_stamp None = refl
    by_stamp (Some stamp) = refl

-- an entry is past its lifetime by the fields where it is
pub past_is :
    (decl : ChainDecl) (s : Stamps) (maps : List Keyed) (labels columns : Grid) (time lifetime : ℕ)
    → AreJoined decl s maps labels columns → (i : ℕ)
    → is_due_at time lifetime s i ≡ is_due time lifetime (entry_at (entries s labels columns) i)
past_is decl s maps labels columns time lifetime j i =
    by_stamp (stamp_of s.slots i) refl
    ∙ sym (ap (is_due time lifetime) (entry_is decl s maps labels columns j i))
  where
    by_stamp :
        (o : Option ℕ) → stamp_of s.slots i ≡ o
        → is_due_at time lifetime s i ≡ is_due time lifetime (slot_of (stamp_of s.slots i) (row_at labels i) (row_at columns i))
    by_stamp None e = rw e refl
    by_stamp (Some stamp) e = rw e refl

pub past_match :
    (decl : ChainDecl) (s : Stamps) (maps : List Keyed) (labels columns : Grid) (time lifetime : ℕ)
    → AreJoined decl s maps labels columns → (b : Bool)
    → MatchBool b (SomeIndexHas (is_due_at time lifetime s)) (NoIndexHas (is_due_at time lifetime s))
    → MatchBool b ((i : ℕ) × (is_due time lifetime (entry_at (entries s labels columns) i) ≡ true)) ((i : ℕ) → is_due time lifetime (entry_at (entries s labels columns) i) ≡ true → ⊥)
past_match decl s maps labels columns time lifetime j true some = (some.0, sym (past_is decl s maps labels columns time lifetime j some.0) ∙ some.1)
past_match decl s maps labels columns time lifetime j false none = λ i past. none i (past_is decl s maps labels columns time lifetime j i ∙ past)

map_joined :
    (size : ℕ) (slots : List (Option Entry)) (maps : List Keyed) (k : ℕ) (m : Keyed)
    → All (IsJoined size slots) maps → slice_get maps k ≡ Some m → IsJoined size slots m
map_joined size slots maps k m all at = subst (λ (x : Keyed). IsJoined size slots x) (get_or_from_slice_get maps k m m at) (all k m (slice_get_within maps k m at))

-- what a key is bound to in a map of a number, where there is one
pub found_is :
    (decl : ChainDecl) (s : Stamps) (maps : List Keyed) (labels columns : Grid)
    → AreJoined decl s maps labels columns → (k : ℕ) (m : Keyed) (key : List ℕ)
    → slice_get maps k ≡ Some m
    → value_of m.map.pairs key ≡ index_under decl.maps k key (entries s labels columns)
found_is decl s maps labels columns j k m key at =
    let here : slice_get decl.maps k ≡ Some m.decl = ap (λ (ds : List MapDecl). slice_get ds k) (sym j.decls) ∙ slice_get-map (λ (x : Keyed). x.decl) maps k ∙ ap (option_map (λ (x : Keyed). x.decl)) at in
    rw here (lookup_is decl.size (entries s labels columns) m key (map_joined decl.size (entries s labels columns) maps k m j.joined at))

-- and where there is none
pub not_found :
    (decl : ChainDecl) (s : Stamps) (maps : List Keyed) (labels columns : Grid)
    → AreJoined decl s maps labels columns → (k : ℕ) (key : List ℕ) → slice_get maps k ≡ None
    → None ≡ index_under decl.maps k key (entries s labels columns)
not_found decl s maps labels columns j k key at =
    let here : slice_get decl.maps k ≡ None = ap (λ (ds : List MapDecl). slice_get ds k) (sym j.decls) ∙ slice_get-map (λ (x : Keyed). x.decl) maps k ∙ ap (option_map (λ (x : Keyed). x.decl)) at in
    rw here refl

-- the entry at an index with a stamp
abbrev pub entry_with : ℕ → Grid → Grid → ℕ → Entry
entry_with stamp labels columns i = record { stamp = stamp; labels = row_at labels i; columns = row_at columns i }

pub stands :
    (decl : ChainDecl) (s : Stamps) (maps : List Keyed) (labels columns : Grid) (i stamp : ℕ)
    → AreJoined decl s maps labels columns → stamp_of s.slots i ≡ Some stamp
    → entry_at (entries s labels columns) i ≡ Some (entry_with stamp labels columns i)
stands decl s maps labels columns i stamp j at =
    entry_is decl s maps labels columns j i
    ∙ ap (λ (o : Option ℕ). slot_of o (row_at labels i) (row_at columns i)) at

pub stands_not :
    (decl : ChainDecl) (s : Stamps) (maps : List Keyed) (labels columns : Grid) (i : ℕ)
    → AreJoined decl s maps labels columns → stamp_of s.slots i ≡ None
    → entry_at (entries s labels columns) i ≡ None
stands_not decl s maps labels columns i j none =
    entry_is decl s maps labels columns j i
    ∙ ap (λ (o : Option ℕ). slot_of o (row_at labels i) (row_at columns i)) none

-- past the end no entry stands
pub stands_past :
    (decl : ChainDecl) (s : Stamps) (maps : List Keyed) (labels columns : Grid) (i : ℕ)
    → AreJoined decl s maps labels columns → decl.size ≤ i
    → entry_at (entries s labels columns) i ≡ None
stands_past decl s maps labels columns i j past = stands_not decl s maps labels columns i j (stamp_past s.slots i (omega (arith, j.size)))

-- what a look at a stamp tells
pub stamped :
    (s : Stamps) (i : ℕ) (o : Option ℕ) (b : Bool) → o ≡ stamp_of s.slots i → b ≡ is_some o
    → b ≡ true → (stamp : ℕ) × (stamp_of s.slots i ≡ Some stamp)
stamped s i None b is tells so = absurd (grind arith)
stamped s i (Some stamp) b is tells so = (stamp, sym is)

pub unstamped :
    (s : Stamps) (i : ℕ) (o : Option ℕ) (b : Bool) → o ≡ stamp_of s.slots i → b ≡ is_some o
    → b ≡ false → stamp_of s.slots i ≡ None
unstamped s i None b is tells so = sym is
unstamped s i (Some stamp) b is tells so = absurd (grind arith)

pub none_stamped :
    (s : Stamps) (i : ℕ) (o : Option ℕ) (b : Bool) → o ≡ stamp_of s.slots i → is_some o ≡ not b
    → b ≡ true → stamp_of s.slots i ≡ None
none_stamped s i None b is tells so = sym is
none_stamped s i (Some stamp) b is tells so = absurd (true≢false (tells ∙ ap (λ (x : Bool). not x) so))

pub not_none_stamped :
    (s : Stamps) (i : ℕ) (o : Option ℕ) (b : Bool) → o ≡ stamp_of s.slots i → is_some o ≡ not b
    → b ≡ false → (stamp : ℕ) × (stamp_of s.slots i ≡ Some stamp)
not_none_stamped s i None b is tells so = absurd (false≢true (tells ∙ ap (λ (x : Bool). not x) so))
not_none_stamped s i (Some stamp) b is tells so = (stamp, sym is)

-- how many indices there are
pub length_is :
    (decl : ChainDecl) (s : Stamps) (maps : List Keyed) (labels columns : Grid)
    → AreJoined decl s maps labels columns → length (entries s labels columns) ≡ decl.size
length_is decl s maps labels columns j =
    length-slots_of s.slots labels.rows columns.rows (j.label_rows ∙ sym j.size) (j.column_rows ∙ sym j.size)
    ∙ j.size

-- an index with a stamp has rows
pub rows_within :
    (decl : ChainDecl) (s : Stamps) (maps : List Keyed) (labels columns : Grid) (i stamp : ℕ)
    → AreJoined decl s maps labels columns → stamp_of s.slots i ≡ Some stamp
    → (i < length labels.rows) × (i < length columns.rows)
rows_within decl s maps labels columns i stamp j at =
    let lt = stamp_within s.slots i stamp at in
    (omega (arith, lt, j.size, j.label_rows), omega (arith, lt, j.size, j.column_rows))

-- an entry has labels by its labels alone
pub labelled_is :
    (guards : List (ℕ × ℕ)) (e : Entry)
    → has_labels guards e ≡ has_labels guards (labelled e.labels)
labelled_is [] e = refl
labelled_is (g ∷ guards) e = ap (λ (b : Bool). has_label g e && b) (labelled_is guards e)

pub looked_at :
    (slots : List (Option Entry)) (i : ℕ) (guards : List (ℕ × ℕ)) (e : Entry) (b : Bool)
    → entry_at slots i ≡ Some e → b ≡ has_labels guards (labelled e.labels)
    → (if b then Some i else None) ≡ index_with i guards (entry_at slots i)
looked_at slots i guards e b here is = rw (here, labelled_is guards e, is) refl

pub looked_at_none :
    (slots : List (Option Entry)) (i : ℕ) (guards : List (ℕ × ℕ)) → entry_at slots i ≡ None
    → None ≡ index_with i guards (entry_at slots i)
looked_at_none slots i guards none = rw none refl
