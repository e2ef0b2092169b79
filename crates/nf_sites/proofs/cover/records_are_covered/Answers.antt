use Rattle.nf_sites.proofs.cover.records_are_covered.Goals as goal
use Rattle.nf_sites.proofs.Covering.{records_covered, events_covered}

pub returns-clause-records : goal.returns-clause-records
returns-clause-records c = records_covered

pub returns-clause-events : goal.returns-clause-events
returns-clause-events c = events_covered
