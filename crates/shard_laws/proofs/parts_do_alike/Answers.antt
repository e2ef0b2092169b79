use Rattle.shard_laws.proofs.parts_do_alike.Goals as goal
use Rattle.shard_laws.proofs.Opening.{seen_is_part, parts_age, operations_agree, questions_agree, creations_agree}

pub returns-clause-seen : goal.returns-clause-seen
returns-clause-seen c = seen_is_part

pub returns-clause-aging : goal.returns-clause-aging
returns-clause-aging c = parts_age

pub returns-clause-operations : goal.returns-clause-operations
returns-clause-operations c = operations_agree

pub returns-clause-questions : goal.returns-clause-questions
returns-clause-questions c = questions_agree

pub returns-clause-creations : goal.returns-clause-creations
returns-clause-creations c = creations_agree
