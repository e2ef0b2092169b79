-- the tables are of the function, with the whole share
use Rattle.std.proofs.Common.{◌≡◌}
use Rattle.function_tests.proofs.engines.sides.replay_all.Given as goal

abbrev pub invariant-loop-seq : goal.invariant-loop-seq
invariant-loop-seq l = (l.tables.decls ≡ l.func.chains) × (l.tables.share.of ≡ 1)
