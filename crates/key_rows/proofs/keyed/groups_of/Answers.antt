use Rattle.key_rows.proofs.Grouped.{groups_more}
use Rattle.key_rows.proofs.keyed.groups_of.Goals as goal

pub loop-port-preserved : goal.loop-port-preserved
loop-port-preserved c =
    groups_more c.args.ports c.args.objects.now c.args.size c.loop-port.port c.loop-port.groups c.put_group.new.groups c.put_group-in-loop-port.new.groups c.loop-port.invariant c.in_ok-put_group.ensures c.in_ok-put_group-2.ensures
