use Rattle.nf_laws.proofs.locations.locations_are_touched.Goals as goal
use Rattle.nf_laws.proofs.Touched.{touched_is, only_touched}

pub returns-clause-each : goal.returns-clause-each
returns-clause-each c = touched_is

pub returns-clause-only : goal.returns-clause-only
returns-clause-only c = only_touched
