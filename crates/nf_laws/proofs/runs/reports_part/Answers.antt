use Rattle.nf_laws.proofs.runs.reports_part.Goals as goal
use Rattle.nf_laws.proofs.Reported.{reports_part, numbers_part, reports_end, one_a_packet, last_report}

pub returns-clause-reports : goal.returns-clause-reports
returns-clause-reports c = reports_part

pub returns-clause-numbers : goal.returns-clause-numbers
returns-clause-numbers c = numbers_part

pub returns-clause-ends : goal.returns-clause-ends
returns-clause-ends c = reports_end

pub returns-clause-each : goal.returns-clause-each
returns-clause-each c = one_a_packet

pub returns-clause-last : goal.returns-clause-last
returns-clause-last c = last_report
