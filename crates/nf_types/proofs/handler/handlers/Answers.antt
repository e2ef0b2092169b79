use Rattle.std.proofs.Common.{map, arith}
use Rattle.std.proofs.lemmas.Grind.{common_steps}
use Rattle.std.proofs.lemmas.List.FromFn.{map-range_with_len_more}
use Rattle.nf_tree.specs.View as syntax
use Rattle.nf_types.specs.Function.{port_at}
use Rattle.nf_types.proofs.handler.handlers.Goals as goal

pub loop-port-preserved : goal.loop-port-preserved
loop-port-preserved c =
    let more = map-range_with_len_more (port_at c.args.objects.now (map syntax.handler_of c.args.handlers.now)) 0 c.loop-port.port c.loop-port.port (omega arith) in
    grind (arith, common_steps, more)
