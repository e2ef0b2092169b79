-- Entries that are made.
use Rattle.std.proofs.Common.{◌≡◌, ◌∙◌, ap, sym, refl, subst, arith, ℕ, ◌<◌, true, false, List, [], ◌∷◌, length, get_or, map, replicate, inl, inr}
use Rattle.std.specs.Prelude.{Option, Some, None, slice_get, slice_set, IsTrue, is_some, is_none, nat_lt, All}
use Rattle.std.specs.List.{AllZip, list_any}
use Rattle.std.proofs.lemmas.Option.{none-some}
use Rattle.std.proofs.lemmas.List.{length-set, length-replicate}
use Rattle.std.proofs.lemmas.List.Elements.{All-map}
use Rattle.std.proofs.lemmas.List.Folds.{list_any_at}
use Rattle.std.proofs.lemmas.Bool.{cases_eq, cases_Bool, both_ways, and_parts, and_from, lt-ltb}
use Rattle.nf_base.specs.declared.decl.MapDecl.{MapDecl}
use Rattle.nf_base.specs.declared.decl.ColumnDecl.{ColumnDecl}
use Rattle.nf_base.specs.declared.decl.ChainDecl.{ChainDecl}
use Rattle.nf_base.specs.declared.state.Entry.{Entry}
use Rattle.nf_base.specs.declared.share.Share.{Share}
use Rattle.nf_base.specs.Chains.{is_vacant, is_taken, entry_at}
use Rattle.vig_chain.specs.Stamps as stamps
use Rattle.nf_base.specs.Shares.{owns}
use Rattle.vig_chain.specs.Stamps.{Stamps, stamp_of, is_vacant_at, stamped, next_stamp}
use Rattle.vig_map.specs.Bindings.{bindings_of}
use Rattle.vig_tables.specs.Grid.{Grid, with_row}
use Rattle.vig_tables.specs.Keyed as keyed
use Rattle.vig_tables.specs.Keyed.{Keyed, key_of, value_for, AreBindable, IsBoundTo}
use Rattle.vig_tables.specs.Table.{entered, opened, zeros}
use Rattle.vig_tables.specs.Joined.{entries, table_of, IsJoined, AreJoined}
use Rattle.vig_tables.proofs.Changes.{true_after, same_after}
use Rattle.vig_tables.proofs.Entries.{stamp-set_other, stamp_none, vacant_of, vacant_parts, all_set, length-slots_of, slots_of_none, live_room}
use Rattle.vig_tables.proofs.Joining.{taken_is, joined_entered, joined_none}

decls_of :
    (size : ℕ) (decls : List MapDecl)
    → map (λ (m : Keyed). m.decl) (map (λ (d : MapDecl). keyed.keyed d (bindings_of [] size)) decls) ≡ decls
decls_of size [] = refl
decls_of size (d ∷ decls) = ap (λ (rest : List MapDecl). d ∷ rest) (decls_of size decls)

-- the fields of tables without entries
pub opened_joined :
    (decl : ChainDecl) (share : Share) (maps : List Keyed) (labels columns : Grid)
    → maps ≡ map (λ (d : MapDecl). keyed.keyed d (bindings_of [] decl.size)) decl.maps
    → labels ≡ record { width = length decl.labels; rows = replicate decl.size (replicate (length decl.labels) 0) }
    → columns ≡ record { width = length decl.columns; rows = replicate decl.size (replicate (length decl.columns) 0) }
    → AreJoined decl (stamps.opened decl.size share) maps labels columns
opened_joined decl share maps labels columns m l f = rw (m, l, f) (record {
  size = length-replicate decl.size None;
  label_rows = length-replicate decl.size (replicate (length decl.labels) 0);
  column_rows = length-replicate decl.size (replicate (length decl.columns) 0);
  label_width = refl;
  column_width = refl;
  decls = decls_of decl.size decl.maps;
  joined = rw (slots_of_none decl.size (replicate (length decl.labels) 0) (replicate (length decl.columns) 0))
      (All-map (IsJoined decl.size (replicate decl.size None)) (λ (d : MapDecl). keyed.keyed d (bindings_of [] decl.size)) decl.maps (λ k d lt. joined_none decl.size _));
  own = λ i s at. absurd (none-some s (sym (stamp_none decl.size i) ∙ at));
})

pub opened_is :
    (decl : ChainDecl) (share : Share) (labels columns : Grid)
    → labels ≡ record { width = length decl.labels; rows = replicate decl.size (replicate (length decl.labels) 0) }
    → columns ≡ record { width = length decl.columns; rows = replicate decl.size (replicate (length decl.columns) 0) }
    → table_of decl (stamps.opened decl.size share) labels columns ≡ opened decl share
opened_is decl share labels columns l f = rw (l, f, slots_of_none decl.size (replicate (length decl.labels) 0) (replicate (length decl.columns) 0)) refl

-- an index that may be given out, by the fields
pub record IsFresh (s : Stamps) (labels columns : Grid) (i : ℕ) : Type 0 where
  pub own : IsTrue (owns s.share i)
  pub vacant : IsTrue (is_vacant (slice_get (entries s labels columns) i))
  pub within : i < length (entries s labels columns)
  pub within_stamps : i < length s.slots
  pub none : entry_at (entries s labels columns) i ≡ None

pub fresh :
    (decl : ChainDecl) (s : Stamps) (maps : List Keyed) (labels columns : Grid) (i : ℕ)
    → AreJoined decl s maps labels columns → IsTrue (stamps.is_available s i)
    → IsFresh s labels columns i
fresh decl s maps labels columns i j may =
    let l = j.label_rows ∙ sym j.size in
    let f = j.column_rows ∙ sym j.size in
    let parts = and_parts (owns s.share i) (is_vacant_at s.slots i) may in
    let vacant : is_vacant (slice_get (entries s labels columns) i) ≡ true = vacant_of s.slots labels.rows columns.rows i l f ∙ parts.1 in
    let at = vacant_parts (entries s labels columns) i vacant in
    record { own = parts.0; vacant = vacant; within = at.0; within_stamps = omega (arith, at.0, length-slots_of s.slots labels.rows columns.rows l f); none = at.1 }

-- its rows
pub open_rows :
    (decl : ChainDecl) (s : Stamps) (maps : List Keyed) (labels columns : Grid) (i : ℕ)
    → AreJoined decl s maps labels columns → IsTrue (stamps.is_available s i)
    → (i < length labels.rows) × (i < length columns.rows)
open_rows decl s maps labels columns i j may =
    let f = fresh decl s maps labels columns i j may in
    (omega (arith, f.within_stamps, j.size, j.label_rows), omega (arith, f.within_stamps, j.size, j.column_rows))

-- where no key is bound in any map, it isn't in each
each_unbound :
    (row : List ℕ) (maps : List Keyed) → list_any (keyed.is_bound row) maps ≡ false
    → All (λ (m : Keyed). keyed.is_bound row m ≡ false) maps
each_unbound row maps none k d lt = elim (cases_Bool (keyed.is_bound row (get_or maps k d))) [
  | inl t ↦ absurd (both_ways (list_any (keyed.is_bound row) maps) none (list_any_at (keyed.is_bound row) maps k d lt t))
  | inr f ↦ f
]

no_value : (o : Option ℕ) → is_some o ≡ false → o ≡ None
no_value None e = refl
no_value (Some v) e = absurd (grind arith)

-- its keys can be bound
pub bindable :
    (decl : ChainDecl) (s : Stamps) (maps : List Keyed) (labels columns : Grid) (i : ℕ)
    (row : List ℕ) → AreJoined decl s maps labels columns → IsTrue (stamps.is_available s i)
    → list_any (keyed.is_bound row) maps ≡ false → AreBindable row maps
bindable decl s maps labels columns i row j may none k d lt =
    let m = get_or maps k d in
    let here = j.joined k d lt in
    let f = fresh decl s maps labels columns i j may in
    let few = live_room (entries s labels columns) i f.vacant in
    let l = j.label_rows ∙ sym j.size in
    let r = j.column_rows ∙ sym j.size in
    and_from (is_none (value_for row m)) (nat_lt (length m.map.pairs) m.map.most)
    (ap (λ (o : Option ℕ). is_none o) (no_value (value_for row m) (each_unbound row maps none k d lt)))
    (lt-ltb (length m.map.pairs) m.map.most (omega (arith, here.count, here.room, few, j.size, length-slots_of s.slots labels.rows columns.rows l r)))

-- the fields after an entry was made
pub entered_joined :
    (decl : ChainDecl) (s : Stamps) (maps maps' : List Keyed) (labels columns : Grid) (time i : ℕ)
    (row zs : List ℕ) → AreJoined decl s maps labels columns → IsTrue (stamps.is_available s i)
    → list_any (keyed.is_bound row) maps ≡ false → AllZip (IsBoundTo row i) maps maps'
    → AreJoined decl (stamped time i s) maps' (with_row i row labels) (with_row i zs columns)
entered_joined decl s maps maps' labels columns time i row zs j may none changed =
    let e : Entry = record { stamp = next_stamp time s; labels = row; columns = zs } in
    let f = fresh decl s maps labels columns i j may in
    let Before : Keyed → Type 0 = λ m. IsJoined decl.size (entries s labels columns) m × (keyed.is_bound row m ≡ false) in
    record {
      size = length-set s.slots i (Some (next_stamp time s)) ∙ j.size;
      label_rows = length-set labels.rows i row ∙ j.label_rows;
      column_rows = length-set columns.rows i zs ∙ j.column_rows;
      label_width = j.label_width;
      column_width = j.column_width;
      decls =
          same_after (λ (m : Keyed). m.decl) (IsBoundTo row i) maps maps' (λ x y c. c.decl) changed
          ∙ j.decls;
      joined = rw (all_set s.slots labels.rows columns.rows i (Some (next_stamp time s)) row zs)
          (true_after Before (IsJoined decl.size (slice_set (entries s labels columns) i (Some e))) (IsBoundTo row i) maps maps'
          (λ x y b c. joined_entered decl.size (entries s labels columns) row i e x y b.0 c f.within f.none (no_value (value_for row x) b.1) refl)
          (λ k d lt. (j.joined k d lt, each_unbound row maps none k d lt)) changed);
      own = λ k u at. elim (cases_eq k i) [
        | inl q ↦ subst (λ (x : ℕ). IsTrue (owns s.share x)) (sym q) f.own
        | inr nq ↦ j.own k u (sym (stamp-set_other s.slots i k (Some (next_stamp time s)) nq) ∙ at)
      ];
    }

zeros_are : (columns : List ColumnDecl) → replicate (length columns) 0 ≡ zeros columns
zeros_are [] = refl
zeros_are (c ∷ columns) = ap (λ (rest : List ℕ). 0 ∷ rest) (zeros_are columns)

-- the tables then
pub entered_is :
    (decl : ChainDecl) (s : Stamps) (maps : List Keyed) (labels columns : Grid) (time i : ℕ)
    (row : List ℕ) → AreJoined decl s maps labels columns
    → table_of decl (stamped time i s) (with_row i row labels) (with_row i (replicate columns.width 0) columns) ≡ entered time i row (table_of decl s labels columns)
entered_is decl s maps labels columns time i row j =
    let zs : replicate columns.width 0 ≡ zeros decl.columns = ap (λ (n : ℕ). replicate n 0) j.column_width ∙ zeros_are decl.columns in
    rw (all_set s.slots labels.rows columns.rows i (Some (next_stamp time s)) row (replicate columns.width 0), zs) refl

-- some labels' keys are bound in the maps where they are taken
pub bound_taken :
    (decl : ChainDecl) (s : Stamps) (maps : List Keyed) (labels columns : Grid) (row : List ℕ)
    → AreJoined decl s maps labels columns
    → list_any (keyed.is_bound row) maps ≡ is_taken decl.maps row (entries s labels columns)
bound_taken decl s maps labels columns row j =
    taken_is decl.size (entries s labels columns) row maps j.joined
    ∙ rw j.decls refl
