-- what was put stands for the front
use Rattle.std.proofs.Common.{◌≡◌, length, map, take}
use Rattle.nf_base.specs.Handlers.{blocks_of}
use Rattle.nf_code.specs.Code.{Keeps}
use Rattle.nf_code.specs.Ready.{AllBegin}
use Rattle.nf_code.proofs.ready.all_starts.Given as goal

abbrev pub invariant-loop-one : goal.invariant-loop-one
invariant-loop-one l = record {
  made : length l.all ≡ l.one-index;
  keeps : Keeps l.fn.code l.code;
  begin : AllBegin l.code (map blocks_of (take l.one-index l.handlers)) l.all;
}
