use Rattle.std.proofs.Common.{◌≡◌, ◌+◌, ◌*◌, ◌++◌, true, false, replicate}
use Rattle.key_rows.specs.Systems.{group_from}
use Rattle.key_rows.proofs.keyed.group.Given as goal

abbrev pub invariant-loop-i : goal.invariant-loop-i
invariant-loop-i l = l.bits.items ≡ replicate (319 * l.port + group_from l.fn.size) false ++ replicate l._i true
