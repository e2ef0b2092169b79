use Rattle.nf_laws.proofs.values.fields_have_their_widths.Goals as goal
use Rattle.nf_laws.proofs.Valued.{their_widths, fields_read}

pub returns-clause-widths : goal.returns-clause-widths
returns-clause-widths c = their_widths

pub returns-clause-read : goal.returns-clause-read
returns-clause-read c = fields_read
