use Rattle.std.proofs.Common.{take}
use Rattle.lock_workers.specs.Dealing.{AreDealt}
use Rattle.lock_workers.proofs.dealing.deal.Given as goal

-- the first packets are dealt
abbrev pub invariant-loop-place : goal.invariant-loop-place
invariant-loop-place l = AreDealt l.workers (take l.place l.packets) l.own
