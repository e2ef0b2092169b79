use Rattle.std.proofs.Common.{arith}
use Rattle.traffic_summary.proofs.Ends.{ports_more}
use Rattle.traffic_summary.proofs.lines.push_ports.Goals as goal

pub loop-port-preserved : goal.loop-port-preserved
loop-port-preserved c = record {
  lines = ports_more c.args.packets c.args.ports c.loop-port.port c.args.out.now.items c.loop-port.out.items c.push_port.new.out.items c.loop-port.invariant.lines c.in_ok-push_port.ensures.ok;
  within = omega (arith, c.loop-port-test.true);
}
