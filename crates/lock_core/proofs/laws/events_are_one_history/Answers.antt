use Rattle.lock_core.proofs.laws.events_are_one_history.Goals as goal
use Rattle.lock_core.proofs.Playing.{one_history, only_seats}

pub returns-clause-history : goal.returns-clause-history
returns-clause-history c = one_history

pub returns-clause-seats : goal.returns-clause-seats
returns-clause-seats c = only_seats
