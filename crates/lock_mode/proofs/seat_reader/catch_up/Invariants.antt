use Rattle.lock_mode.proofs.seat_reader.catch_up.Given as goal

abbrev pub invariant-loop : goal.invariant-loop
invariant-loop g l = Unit {0}
