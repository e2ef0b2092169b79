use Rattle.std.proofs.Common.{◌≡◌, take}
use Rattle.nf_files.proofs.memory.opened.take_from.Given as goal

abbrev pub invariant-loop-k : goal.invariant-loop-k
invariant-loop-k l = take l.k l.out ≡ take l.k l.front
