use Rattle.nf_laws.proofs.courses.courses_end_where_they_come.Goals as goal
use Rattle.nf_laws.proofs.Ended.{end_where, fall_off}

pub returns-clause-ends : goal.returns-clause-ends
returns-clause-ends c = end_where

pub returns-clause-falls : goal.returns-clause-falls
returns-clause-falls c = fall_off
