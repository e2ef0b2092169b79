use Rattle.nf_meaning.proofs.Vacant.{least_is_next}
use Rattle.nf_meaning.proofs.creation.next_choice.Goals as goal

pub returns-in-None : goal.returns-in-None
returns-in-None c = least_is_next c.args.choices c.args.picks.now c.args.slots.now c.least_vacant.result c.in-None.is c.least_vacant.ensures c.requires.vacant
