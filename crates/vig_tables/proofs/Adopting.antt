-- Entries of other tables.
use Rattle.std.proofs.Common.{◌≡◌, ◌∙◌, ap, refl, ℕ, zero, suc, ◌<◌, true, List, [], ◌∷◌, length}
use Rattle.std.specs.Prelude.{Option, Some, slice_get, slice_set}
use Rattle.std.proofs.lemmas.Bool.{and_parts}
use Rattle.nf_base.specs.declared.decl.MapDecl.{MapDecl}
use Rattle.nf_base.specs.declared.share.Share.{Share}
use Rattle.nf_base.specs.declared.state.Entry.{Entry}
use Rattle.nf_base.specs.Chains.{is_vacant, on_live, next_stamp}
use Rattle.nf_base.specs.Shares.{owns}
use Rattle.vig_tables.specs.Table.{Table, with_chain, with_columns, overwritten, entered, adopted, can_make_at, is_open, zeros}
use Rattle.vig_tables.proofs.Entries.{entry-set_same, vacant_parts}

set_again :
    {A : Type 0} (xs : List A) (i : ℕ) (v w : A)
    → slice_set (slice_set xs i v) i w ≡ slice_set xs i w
set_again [] i v w = refl
set_again (x ∷ xs) zero v w = refl
set_again (x ∷ xs) (suc i) v w = ap (λ (rest : List _). x ∷ rest) (set_again xs i v w)

-- where an entry can be made there is such an index
pub made_within :
    (maps : List MapDecl) (labels : List ℕ) (share : Share) (slots : List (Option Entry)) (i : ℕ)
    → can_make_at maps labels share slots i ≡ true → i < length slots
made_within maps labels share slots i may =
    (vacant_parts slots i (and_parts (owns share i) (is_vacant (slice_get slots i)) (and_parts _ (is_open share slots i) may).1).1).0

-- an entry made anew, whose free columns were written over, is the one of other tables
pub adopted_is :
    (t mid new : Table) (e : Entry) (i : ℕ) → mid ≡ entered e.stamp i e.labels t
    → new ≡ with_chain (overwritten e.columns i mid.chain) mid → i < length t.chain.slots
    → new ≡ adopted (Some e) i t
adopted_is t mid new e i made over lt =
    let stamp = next_stamp e.stamp t.chain in
    let first : Entry = record { stamp = stamp; labels = e.labels; columns = zeros t.decl.columns } in
    over
    ∙ ap (λ (m : Table). with_chain (overwritten e.columns i m.chain) m) made
    ∙ ap (λ (o : Option Entry). with_chain (on_live (with_columns e.columns i) o (record { slots = slice_set t.chain.slots i (Some first); greatest = stamp })) t) (entry-set_same t.chain.slots i (Some first) lt)
    ∙ ap (λ (slots : List (Option Entry)). with_chain (record { slots = slots; greatest = stamp }) t) (set_again t.chain.slots i (Some first) (Some (record e { stamp = stamp })))
