-- what was copied stands for the front
use Rattle.std.proofs.Common.{◌≡◌, length, map, take}
use Rattle.nf_base.specs.Handlers.{blocks_of}
use Rattle.nf_base.proofs.port_handlers.copied_handlers.Given as goal

abbrev pub invariant-loop-one : goal.invariant-loop-one
invariant-loop-one l = record {
  made : length l.all ≡ l.one-index;
  same : map blocks_of l.all ≡ map blocks_of (take l.one-index l.handlers);
}
