use Rattle.nf_laws.proofs.paths.packets_take_paths.Goals as goal
use Rattle.nf_laws.proofs.Walked.{courses_walk, packets_walk}

pub returns-clause-courses : goal.returns-clause-courses
returns-clause-courses c = courses_walk

pub returns-clause-packets : goal.returns-clause-packets
returns-clause-packets c = packets_walk
