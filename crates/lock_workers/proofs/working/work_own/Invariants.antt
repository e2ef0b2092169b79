use Rattle.std.proofs.Common.{◌≡◌, length}
use Rattle.lock_workers.specs.Working.{packets_in, AreAtPlaces}
use Rattle.lock_workers.proofs.working.work_own.Given as goal

-- the first packets were called for
abbrev pub invariant-loop-k : goal.invariant-loop-k
invariant-loop-k g l = record {
  called : AreAtPlaces l.packets l.places (packets_in l.seat.calls);
  long : length (packets_in l.seat.calls) ≡ l.k;
  number : l.seat.number ≡ l.fn.seat.number;
}
