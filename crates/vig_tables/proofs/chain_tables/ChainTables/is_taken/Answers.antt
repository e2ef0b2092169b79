use Rattle.std.proofs.Common.{◌∙◌, ap}
use Rattle.std.specs.List.{list_any}
use Rattle.vig_tables.specs.Tagged.{is_bound_in}
use Rattle.vig_tables.proofs.Mapped.{any_bound}
use Rattle.vig_tables.proofs.Making.{bound_taken}
use Rattle.vig_tables.proofs.chain_tables.ChainTables.is_taken.Goals as goal

pub is_any_bound-requires : goal.is_any_bound-requires
is_any_bound-requires c = rw c.as_slice.ensures.value c.self.invariant.tagged

pub returns : goal.returns
returns c =
    let a = c.self.inside in
    let bound = c.is_any_bound.ensures ∙ ap (list_any (is_bound_in a.labels c.args.labels.now)) c.as_slice.ensures.value ∙ any_bound a.labels c.args.labels.now a.maps.items in
    rw (← c.self.view_is) (bound ∙ bound_taken _ _ _ _ _ c.args.labels.now c.self.invariant.joined)
