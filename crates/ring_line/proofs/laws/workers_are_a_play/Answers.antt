use Rattle.ring_line.proofs.laws.workers_are_a_play.Goals as goal
use Rattle.ring_line.proofs.Lined.{workers_are_a_play, halts_are_stops}

pub returns-clause-play : goal.returns-clause-play
returns-clause-play c = workers_are_a_play

pub returns-clause-stop : goal.returns-clause-stop
returns-clause-stop c = halts_are_stops
