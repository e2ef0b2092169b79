use Rattle.nf_sites.proofs.laws.fields_are_plain.Goals as goal
use Rattle.nf_sites.proofs.Speaking.{fields_given, together_is}

pub returns-clause-given : goal.returns-clause-given
returns-clause-given c = fields_given

pub returns-clause-together : goal.returns-clause-together
returns-clause-together c = together_is
