use Rattle.lock_mode.proofs.Opens.{never_one}
use Rattle.lock_mode.proofs.opening.opened_by.Goals as goal

pub returns-in-Ok-clause-tables : goal.returns-in-Ok-clause-tables
returns-in-Ok-clause-tables g c = never_one c.seated.result _ c.seated.ensures.several

pub returns-in-Ok-clause-refused : goal.returns-in-Ok-clause-refused
returns-in-Ok-clause-refused g c = never_one c.seated.result _ c.seated.ensures.several
