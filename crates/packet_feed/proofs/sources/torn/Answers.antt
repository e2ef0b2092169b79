use Rattle.std.proofs.Common.{◌<◌, ◌∙◌, length, sym, arith}
use Rattle.packet_feed.proofs.Firsts.{torn_here, torn_later}
use Rattle.packet_feed.proofs.sources.torn.Goals as goal

pub returns-in-Some : goal.returns-in-Some
returns-in-Some c =
    let all = c.args.sources.now in
    let lt : c.loop-port.port < length all = omega (arith, c.len-port-end.ensures, c.loop-port-test.true) in
    torn_here all c.loop-port.port c.item.result.now c.in-Some.offset lt c.item.ensures c.in-Some.ensures c.loop-port.invariant

pub loop-port-preserved : goal.loop-port-preserved
loop-port-preserved c =
    let all = c.args.sources.now in
    let lt : c.loop-port.port < length all = omega (arith, c.len-port-end.ensures, c.loop-port-test.true) in
    torn_later all c.loop-port.port c.item.result.now lt c.item.ensures (sym c.in_default.is ∙ c.tear.ensures) c.loop-port.invariant
