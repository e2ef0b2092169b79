use Rattle.std.proofs.Common.{◌∙◌, length, ap, sym, arith}
use Rattle.nf_base.specs.declared.keys.Keys.{Keys}
use Rattle.rss_table.specs.Tables.{even_table}
use Rattle.shard_core.proofs.Starting.{new_sharded, same_handlers}
use Rattle.shard_core.proofs.shards.make.Goals as goal

pub invariant_of-result : goal.invariant_of-result
invariant_of-result c =
    let same = same_handlers c.in_ok-func.func c.args.func.now c.in_ok-func.ensures in
    let fit = c.requires in
    let held = ap (λ (k : Keys). length k.ports) c.in_ok-keys.ensures in
    new_sharded c.in_ok-func.func c.in_ok-keys.keys c.args.workers c.in_ok-made.made c.new-2.result.items c.even-table.result c.in_ok-made.ensures (omega arith) (omega arith) (omega (arith, same, fit, held)) (c.even-table.ensures.value ∙ ap (λ (k : Keys). even_table k.table c.args.workers) (sym c.in_ok-keys.ensures)) c.new-2.ensures
