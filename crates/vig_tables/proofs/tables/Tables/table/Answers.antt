use Rattle.std.proofs.Common.{◌≡◌, ◌∙◌, ap, sym, refl, ℕ, List, length}
use Rattle.std.specs.Prelude.{Option, Some, None, slice_get, All}
use Rattle.std.specs.Borrow.{Bor}
use Rattle.std.specs.Slice.{IsItemAt}
use Rattle.std.proofs.lemmas.Bool.{ltb-true, ltb-false}
use Rattle.std.proofs.lemmas.Option.{slice_get_read, slice_get_past}
use Rattle.nf_base.specs.declared.share.Share.{Share}
use Rattle.vig_tables.specs.Table.{Table}
use Rattle.vig_tables.specs.TablesState.{state_of, IsOfShare, IsTableAt}
use Rattle.vig_tables.proofs.StateLemmas.{stands_at, stands_none}
use Rattle.vig_tables.proofs.tables.Tables.table.Goals as goal

-- what a look at the list of the chains' tables gives
table_at :
    (tables seen : List Table) (arrays : List (List ℕ)) (share : Share) (k : ℕ)
    (o : Option (Bor Table)) → seen ≡ tables → All (IsOfShare share) tables → IsItemAt seen k o
    → IsTableAt (state_of tables arrays share) k o
table_at tables seen arrays share k (Some t) same all is =
    let at = slice_get_read seen (length seen) k t.now refl (ltb-true _ _ (sym is.0)) is.1 in
    stands_at tables arrays share k t.now all (ap (λ (ts : List Table). slice_get ts k) (sym same) ∙ at)
table_at tables seen arrays share k None same all is =
    stands_none tables arrays share k (ap (λ (ts : List Table). slice_get ts k) (sym same) ∙ slice_get_past seen k (ltb-false _ _ (sym is.0)))

pub returns : goal.returns
returns c = rw (← c.self.view_is) (table_at c.self.inside.chains c.as_slice.result.now c.self.inside.arrays c.self.inside.share c.args.chain c.get.result c.as_slice.ensures c.self.invariant c.get.ensures.lookup)
