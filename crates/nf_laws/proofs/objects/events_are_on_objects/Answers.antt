use Rattle.nf_laws.proofs.objects.events_are_on_objects.Goals as goal
use Rattle.nf_laws.proofs.OnObjects.{events_on, locations_on}

pub returns-clause-events : goal.returns-clause-events
returns-clause-events c = events_on

pub returns-clause-locations : goal.returns-clause-locations
returns-clause-locations c = locations_on
