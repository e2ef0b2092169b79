-- the declarations stay
use Rattle.std.proofs.Common.{◌≡◌}
use Rattle.table_tests.proofs.merge_tests.part.Given as goal

abbrev pub invariant-loop-host : goal.invariant-loop-host
invariant-loop-host l = l.tables.decls ≡ l.func.chains

abbrev pub invariant-loop-one : goal.invariant-loop-one
invariant-loop-one l = l.tables.decls ≡ l.func.chains
