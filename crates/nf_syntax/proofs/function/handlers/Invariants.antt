use Rattle.std.proofs.Common.{◌≡◌, [], ◌≤◌, List, length, map}
use Rattle.nf_tree.specs.Tree.{Handler}
use Rattle.nf_tree.specs.View.{handler_of}
use Rattle.nf_syntax.specs.Machine.{Place, HandlersAt, run}
use Rattle.nf_syntax.proofs.function.handlers.Given as goal

abbrev pub invariant-handlers : goal.invariant-handlers
invariant-handlers l = record {
  shorter : length l.rest ≤ length l.fn.tokens;
  so_far : (k : List Handler → Place) → run (HandlersAt [] k) l.fn.tokens ≡ run (HandlersAt (map handler_of l.all) k) l.rest;
}

abbrev pub decreases-handlers : goal.decreases-handlers
decreases-handlers l = length l.rest
