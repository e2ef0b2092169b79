use Rattle.nf_laws.proofs.objects.written_is_by_the_text.Goals as goal
use Rattle.nf_laws.proofs.Written.{written_is, packets_write}

pub returns-clause-text : goal.returns-clause-text
returns-clause-text c = written_is

pub returns-clause-packets : goal.returns-clause-packets
returns-clause-packets c = packets_write
