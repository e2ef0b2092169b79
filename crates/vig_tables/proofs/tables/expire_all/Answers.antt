use Rattle.std.proofs.Common.{◌∙◌, ◌<◌, ap, arith, length}
use Rattle.std.specs.Prelude.{slice_set}
use Rattle.std.proofs.lemmas.List.Edits.{map_over_more}
use Rattle.vig_tables.specs.Table.{without_past}
use Rattle.vig_tables.proofs.tables.expire_all.Goals as goal

pub loop-k-preserved : goal.loop-k-preserved
loop-k-preserved c =
    let chains = c.args.chains.now in
    let now = c.loop-k.chains in
    let k = c.loop-k.k in
    let lt : k < length chains = omega (arith, c.len-k-end.ensures, c.loop-k-test.true) in
    ap (slice_set now k) c.expire.ensures ∙ map_over_more (without_past c.args.time) chains now k c.item_mut.result.now lt c.loop-k.invariant c.item_mut.ensures.value
