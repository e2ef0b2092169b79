-- what was made is what comes of the ports so far
use Rattle.std.proofs.Common.{◌≡◌, length, map}
use Rattle.nf_base.specs.Handlers.{blocks_of}
use Rattle.nf_tree.specs.View as syntax
use Rattle.nf_types.specs.Function.{handlers_of}
use Rattle.nf_types.proofs.handler.handlers.Given as goal

abbrev pub invariant-loop-port : goal.invariant-loop-port
invariant-loop-port l = record {
  made : length l.all ≡ l.port;
  so_far : map blocks_of l.all ≡ handlers_of l.objects l.port (map syntax.handler_of l.handlers);
}
