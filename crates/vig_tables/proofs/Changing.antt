-- Entries that are renewed, given up or written.
use Rattle.std.proofs.Common.{◌≡◌, ◌∙◌, ap, sym, refl, subst, arith, ℕ, ◌<◌, ◌↔◌, Bool, true, false, List, inl, inr}
use Rattle.std.specs.Prelude.{Option, Some, None, slice_set, IsTrue, IsSome, MatchBool}
use Rattle.std.specs.List.{AllZip}
use Rattle.std.proofs.lemmas.List.{length-set}
use Rattle.std.proofs.lemmas.Bool.{cases_eq, both_ways, false≢true}
use Rattle.nf_base.specs.declared.decl.ChainDecl.{ChainDecl}
use Rattle.nf_base.specs.declared.state.Entry.{Entry}
use Rattle.nf_base.specs.Chains.{entry_at, touched, written}
use Rattle.nf_base.specs.Chains as chains
use Rattle.nf_base.specs.Shares.{owns}
use Rattle.vig_chain.specs.Stamps.{Stamps, stamp_of, raised, stamped, freed, next_stamp, is_due_at, SomeIndexHas, NoIndexHas}
use Rattle.vig_tables.specs.Grid.{Grid, row_at, with_row}
use Rattle.vig_tables.specs.Keyed.{Keyed, IsUnbound}
use Rattle.vig_tables.specs.Slots.{live}
use Rattle.vig_tables.specs.Table.{with_chain, without_past, overwritten}
use Rattle.vig_tables.specs.Joined.{entries, table_of, IsJoined, AreJoined}
use Rattle.vig_tables.proofs.Changes.{true_after, same_after}
use Rattle.vig_tables.proofs.Entries.{stamp-set_other, stamp_set, columns_set, none_again, live-set, weight, entry_within}
use Rattle.vig_tables.proofs.Expiring.{kept_freed, kept_all}
use Rattle.vig_tables.proofs.Joining.{joined_freed, joined_changed}
use Rattle.vig_tables.proofs.Reading.{past_is, past_match, entry_with, stands, stands_not}

-- a renewed entry
pub touched_joined :
    (decl : ChainDecl) (s : Stamps) (maps : List Keyed) (labels columns : Grid) (time i stamp : ℕ)
    → AreJoined decl s maps labels columns → stamp_of s.slots i ≡ Some stamp
    → AreJoined decl (stamped time i s) maps labels columns
touched_joined decl s maps labels columns time i stamp j at = record {
  size = length-set s.slots i (Some (next_stamp time s)) ∙ j.size;
  label_rows = j.label_rows;
  column_rows = j.column_rows;
  label_width = j.label_width;
  column_width = j.column_width;
  decls = j.decls;
  joined = rw (stamp_set s.slots labels.rows columns.rows i (Some (next_stamp time s)))
      (λ k d lt. joined_changed decl.size (entries s labels columns) i (entry_with stamp labels columns i) (entry_with (next_stamp time s) labels columns i) _ (j.joined k d lt) (stands decl s maps labels columns i stamp j at) refl);
  own = λ k u here. elim (cases_eq k i) [
    | inl q ↦ subst (λ (x : ℕ). IsTrue (owns s.share x)) (sym q) (j.own i stamp at)
    | inr nq ↦ j.own k u (sym (stamp-set_other s.slots i k (Some (next_stamp time s)) nq) ∙ here)
  ];
}

pub touched_is :
    (decl : ChainDecl) (s : Stamps) (maps : List Keyed) (labels columns : Grid) (time i stamp : ℕ)
    → AreJoined decl s maps labels columns → stamp_of s.slots i ≡ Some stamp
    → table_of decl (stamped time i s) labels columns ≡ with_chain (touched time i (record { slots = entries s labels columns; greatest = s.greatest })) (table_of decl s labels columns)
touched_is decl s maps labels columns time i stamp j at = rw (stands decl s maps labels columns i stamp j at, stamp_set s.slots labels.rows columns.rows i (Some (next_stamp time s))) refl

-- where there is no entry none is renewed
pub not_touched :
    (decl : ChainDecl) (s : Stamps) (maps : List Keyed) (labels columns : Grid) (time i : ℕ)
    → AreJoined decl s maps labels columns → stamp_of s.slots i ≡ None
    → table_of decl s labels columns ≡ with_chain (touched time i (record { slots = entries s labels columns; greatest = s.greatest })) (table_of decl s labels columns)
not_touched decl s maps labels columns time i j none = rw (stands_not decl s maps labels columns i j none) refl

-- an entry given up
pub freed_joined :
    (decl : ChainDecl) (s : Stamps) (maps maps' : List Keyed) (labels columns : Grid) (i stamp : ℕ)
    → AreJoined decl s maps labels columns → stamp_of s.slots i ≡ Some stamp
    → AllZip (IsUnbound (row_at labels i)) maps maps'
    → AreJoined decl (freed i s) maps' labels columns
freed_joined decl s maps maps' labels columns i stamp j at changed = record {
  size = length-set s.slots i None ∙ j.size;
  label_rows = j.label_rows;
  column_rows = j.column_rows;
  label_width = j.label_width;
  column_width = j.column_width;
  decls =
      same_after (λ (m : Keyed). m.decl) (IsUnbound (row_at labels i)) maps maps' (λ x y c. c.decl) changed
      ∙ j.decls;
  joined = rw (stamp_set s.slots labels.rows columns.rows i None)
      (true_after (IsJoined decl.size (entries s labels columns)) (IsJoined decl.size (slice_set (entries s labels columns) i None)) (IsUnbound (row_at labels i)) maps maps'
      (λ x y b c. joined_freed decl.size (entries s labels columns) (row_at labels i) i (entry_with stamp labels columns i) x y b c (stands decl s maps labels columns i stamp j at) refl)
      j.joined changed);
  own = λ k u here. elim (cases_eq k i) [
    | inl q ↦ subst (λ (x : ℕ). IsTrue (owns s.share x)) (sym q) (j.own i stamp at)
    | inr nq ↦ j.own k u (sym (stamp-set_other s.slots i k None nq) ∙ here)
  ];
}

pub freed_is :
    (decl : ChainDecl) (s : Stamps) (labels columns : Grid) (i : ℕ)
    → table_of decl (freed i s) labels columns ≡ with_chain (chains.freed i (record { slots = entries s labels columns; greatest = s.greatest })) (table_of decl s labels columns)
freed_is decl s labels columns i = rw (stamp_set s.slots labels.rows columns.rows i None) refl

pub not_freed :
    (decl : ChainDecl) (s : Stamps) (maps : List Keyed) (labels columns : Grid) (i : ℕ)
    → AreJoined decl s maps labels columns → stamp_of s.slots i ≡ None
    → table_of decl s labels columns ≡ with_chain (chains.freed i (record { slots = entries s labels columns; greatest = s.greatest })) (table_of decl s labels columns)
not_freed decl s maps labels columns i j none = rw (none_again (entries s labels columns) i (stands_not decl s maps labels columns i j none)) refl

-- a free column written
pub written_joined :
    (decl : ChainDecl) (s : Stamps) (maps : List Keyed) (labels columns : Grid) (i stamp : ℕ)
    (row : List ℕ) → AreJoined decl s maps labels columns → stamp_of s.slots i ≡ Some stamp
    → AreJoined decl s maps labels (with_row i row columns)
written_joined decl s maps labels columns i stamp row j at = record {
  size = j.size;
  label_rows = j.label_rows;
  column_rows = length-set columns.rows i row ∙ j.column_rows;
  label_width = j.label_width;
  column_width = j.column_width;
  decls = j.decls;
  joined = rw (columns_set s.slots labels.rows columns.rows i row, at)
      (λ k d lt. joined_changed decl.size (entries s labels columns) i (entry_with stamp labels columns i) (record { stamp = stamp; labels = row_at labels i; columns = row }) _ (j.joined k d lt) (stands decl s maps labels columns i stamp j at) refl);
  own = j.own;
}

pub column_written :
    (decl : ChainDecl) (s : Stamps) (maps : List Keyed) (labels columns : Grid)
    (i column v stamp : ℕ) → AreJoined decl s maps labels columns → stamp_of s.slots i ≡ Some stamp
    → table_of decl s labels (with_row i (slice_set (row_at columns i) column v) columns) ≡ with_chain (written column v i (record { slots = entries s labels columns; greatest = s.greatest })) (table_of decl s labels columns)
column_written decl s maps labels columns i column v stamp j at = rw (stands decl s maps labels columns i stamp j at, columns_set s.slots labels.rows columns.rows i (slice_set (row_at columns i) column v), at) refl

pub no_column_written :
    (decl : ChainDecl) (s : Stamps) (maps : List Keyed) (labels columns : Grid) (i column v : ℕ)
    → AreJoined decl s maps labels columns → stamp_of s.slots i ≡ None
    → table_of decl s labels columns ≡ with_chain (written column v i (record { slots = entries s labels columns; greatest = s.greatest })) (table_of decl s labels columns)
no_column_written decl s maps labels columns i column v j none = rw (stands_not decl s maps labels columns i j none) refl

-- all free columns written over
pub columns_written :
    (decl : ChainDecl) (s : Stamps) (maps : List Keyed) (labels columns : Grid) (i stamp : ℕ)
    (row : List ℕ) → AreJoined decl s maps labels columns → stamp_of s.slots i ≡ Some stamp
    → table_of decl s labels (with_row i row columns) ≡ with_chain (overwritten row i (record { slots = entries s labels columns; greatest = s.greatest })) (table_of decl s labels columns)
columns_written decl s maps labels columns i stamp row j at = rw (stands decl s maps labels columns i stamp j at, columns_set s.slots labels.rows columns.rows i row, at) refl

pub no_columns_written :
    (decl : ChainDecl) (s : Stamps) (maps : List Keyed) (labels columns : Grid) (i : ℕ)
    (row : List ℕ) → AreJoined decl s maps labels columns → stamp_of s.slots i ≡ None
    → table_of decl s labels columns ≡ with_chain (overwritten row i (record { slots = entries s labels columns; greatest = s.greatest })) (table_of decl s labels columns)
no_columns_written decl s maps labels columns i row j none = rw (stands_not decl s maps labels columns i j none) refl

-- a stamp given
pub raised_joined :
    (decl : ChainDecl) (s : Stamps) (maps : List Keyed) (labels columns : Grid) (stamp : ℕ)
    → AreJoined decl s maps labels columns
    → AreJoined decl (raised stamp s) maps labels columns
raised_joined decl s maps labels columns stamp j = record {
  size = j.size;
  label_rows = j.label_rows;
  column_rows = j.column_rows;
  label_width = j.label_width;
  column_width = j.column_width;
  decls = j.decls;
  joined = j.joined;
  own = j.own;
}

some_of : (o : Option ℕ) → IsSome o → (stamp : ℕ) × (o ≡ Some stamp)
some_of None live = absurd (grind arith)
some_of (Some stamp) live = (stamp, refl)

none_of : (o : Option ℕ) → (IsSome o → ⊥) → o ≡ None
none_of None dead = refl
none_of (Some stamp) dead = absurd (dead refl)

-- what giving up an entry tells
pub was_stamped :
    (s : Stamps) (i : ℕ) (b : Bool) → (IsTrue b ↔ IsSome (stamp_of s.slots i)) → b ≡ true
    → (stamp : ℕ) × (stamp_of s.slots i ≡ Some stamp)
was_stamped s i b tells so = some_of (stamp_of s.slots i) (tells.0 so)

pub was_not_stamped :
    (s : Stamps) (i : ℕ) (b : Bool) → (IsTrue b ↔ IsSome (stamp_of s.slots i)) → b ≡ false
    → stamp_of s.slots i ≡ None
was_not_stamped s i b tells so = none_of (stamp_of s.slots i) (λ live. both_ways b so (tells.1 live))

pub past_stamped :
    (s : Stamps) (time lifetime i : ℕ) → is_due_at time lifetime s i ≡ true
    → (stamp : ℕ) × (stamp_of s.slots i ≡ Some stamp)
past_stamped s time lifetime i past = by_stamp (stamp_of s.slots i) refl
  where
    by_stamp :
        (o : Option ℕ) → stamp_of s.slots i ≡ o → (stamp : ℕ) × (stamp_of s.slots i ≡ Some stamp)
    by_stamp None e = absurd (false≢true (rw e at past))
    by_stamp (Some stamp) e = (stamp, e)

-- what expires is gone already
pub past_gone :
    (decl : ChainDecl) (s : Stamps) (maps : List Keyed) (labels columns : Grid) (time i : ℕ)
    → AreJoined decl s maps labels columns → is_due_at time decl.lifetime s i ≡ true
    → without_past time (table_of decl (freed i s) labels columns) ≡ without_past time (table_of decl s labels columns)
past_gone decl s maps labels columns time i j past =
    rw (stamp_set s.slots labels.rows columns.rows i None)
    (ap (λ (slots : List (Option Entry)). with_chain (record { slots = slots; greatest = s.greatest }) (table_of decl s labels columns))
    (kept_freed time decl.lifetime (entries s labels columns) i (sym (past_is decl s maps labels columns time decl.lifetime j i) ∙ past)))

pub fewer_live :
    (decl : ChainDecl) (s : Stamps) (maps : List Keyed) (labels columns : Grid) (i stamp : ℕ)
    → AreJoined decl s maps labels columns → stamp_of s.slots i ≡ Some stamp
    → live (entries (freed i s) labels columns) < live (entries s labels columns)
fewer_live decl s maps labels columns i stamp j at =
    let here = stands decl s maps labels columns i stamp j at in
    let lt = entry_within (entries s labels columns) i (entry_with stamp labels columns i) here in
    rw (stamp_set s.slots labels.rows columns.rows i None) (omega (arith, live-set (entries s labels columns) i None lt, ap weight here))

-- where nothing is past its lifetime all stays
pub none_gone :
    (decl : ChainDecl) (s : Stamps) (maps : List Keyed) (labels columns : Grid) (time : ℕ)
    → AreJoined decl s maps labels columns → NoIndexHas (is_due_at time decl.lifetime s)
    → table_of decl s labels columns ≡ without_past time (table_of decl s labels columns)
none_gone decl s maps labels columns time j none =
    ap (λ (slots : List (Option Entry)). with_chain (record { slots = slots; greatest = s.greatest }) (table_of decl s labels columns))
    (sym (kept_all time decl.lifetime (entries s labels columns) (past_match decl s maps labels columns time decl.lifetime j false none)))

pub none_gone_if :
    (decl : ChainDecl) (s : Stamps) (maps : List Keyed) (labels columns : Grid) (time : ℕ) (due : Bool)
    → AreJoined decl s maps labels columns
    → MatchBool due (SomeIndexHas (is_due_at time decl.lifetime s)) (NoIndexHas (is_due_at time decl.lifetime s))
    → due ≡ false
    → table_of decl s labels columns ≡ without_past time (table_of decl s labels columns)
none_gone_if decl s maps labels columns time true j none e = absurd (false≢true (sym e))
none_gone_if decl s maps labels columns time false j none e = none_gone decl s maps labels columns time j none
