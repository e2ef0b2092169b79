-- so many tables, of the function
use Rattle.std.proofs.Common.{◌≡◌, length}
use Rattle.vig_tables.specs.Union.{AreOf}
use Rattle.table_tests.proofs.merge_tests.parts.Given as goal

abbrev pub invariant-loop-queue : goal.invariant-loop-queue
invariant-loop-queue l = record {
  count : length l.parts.items ≡ l.queue;
  of_one : AreOf l.func.chains l.parts.items;
}
