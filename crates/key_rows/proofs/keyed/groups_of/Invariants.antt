use Rattle.key_rows.proofs.Grouped.{AreGroupsBelow}
use Rattle.key_rows.proofs.keyed.groups_of.Given as goal

abbrev pub invariant-loop-port : goal.invariant-loop-port
invariant-loop-port l = AreGroupsBelow l.ports l.objects l.size l.port l.groups
