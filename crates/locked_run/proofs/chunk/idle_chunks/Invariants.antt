use Rattle.std.proofs.Common.{◌≡◌, length}
use Rattle.locked_run.specs.Chunks.{AreOf, AreIdle}
use Rattle.locked_run.proofs.chunk.idle_chunks.Given as goal

-- so many are there
abbrev pub invariant-loop-i : goal.invariant-loop-i
invariant-loop-i l = record {
  count : length l.chunks.items ≡ l._i;
  files : AreOf l.targets l.chunks.items;
  idle : AreIdle l.format l.chunks.items;
}
