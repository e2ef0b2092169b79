use Rattle.std.proofs.Common.{◌<◌, length, refl, arith}
use Rattle.std.proofs.lemmas.Option.{slice_get_read}
use Rattle.packet_feed.proofs.Firsts.{first_more}
use Rattle.packet_feed.proofs.first.earliest.Goals as goal

pub loop-port-preserved : goal.loop-port-preserved
loop-port-preserved c =
    let all = c.args.sources.now in
    let port = c.loop-port.port in
    let lt : port < length all = omega (arith, c.len-port-end.ensures, c.loop-port-test.true) in
    let at = slice_get_read all (length all) port c.item.result.now refl lt c.item.ensures in
    first_more all port c.loop-port.first c.item.result.now c.time.result c.earlier-first.result at c.time.ensures c.earlier-first.ensures c.loop-port.invariant
