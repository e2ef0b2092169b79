use Rattle.nf_laws.proofs.records.places_rise.Goals as goal
use Rattle.nf_laws.proofs.PlacedApart.{of_one_statement, places_rise}

pub returns-clause-one : goal.returns-clause-one
returns-clause-one c = of_one_statement

pub returns-clause-rise : goal.returns-clause-rise
returns-clause-rise c = places_rise
