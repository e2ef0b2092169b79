-- the tables are where the history so far ends
use Rattle.std.proofs.Common.{take}
use Rattle.nf_base.specs.Functions.{function_of}
use Rattle.lock_core.specs.Calls.{history}
use Rattle.lock_core.specs.Replays.{AreBehind}
use Rattle.lock_core.proofs.tables.replayed.Given as goal

abbrev pub invariant-loop-x : goal.invariant-loop-x
invariant-loop-x l = AreBehind (function_of l.func) (history (take l.x-index l.order)) l.tables
