use Rattle.std.proofs.Common.{◌≡◌, [], replicate}
use Rattle.lock_workers.proofs.dealing.none_yet.Given as goal

-- so many stand there
abbrev pub invariant-loop-i : goal.invariant-loop-i
invariant-loop-i l = l.own ≡ replicate l._i []
