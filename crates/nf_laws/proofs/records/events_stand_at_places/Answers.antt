use Rattle.nf_laws.proofs.records.events_stand_at_places.Goals as goal
use Rattle.nf_laws.proofs.Placed.{events_stand, places_of_text}

pub returns-clause-places : goal.returns-clause-places
returns-clause-places c = events_stand

pub returns-clause-text : goal.returns-clause-text
returns-clause-text c = places_of_text
