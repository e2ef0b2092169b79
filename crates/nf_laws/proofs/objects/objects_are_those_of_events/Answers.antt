use Rattle.nf_laws.proofs.objects.objects_are_those_of_events.Goals as goal
use Rattle.nf_laws.proofs.OnObjects.{objects_are}

pub returns : goal.returns
returns c = objects_are
