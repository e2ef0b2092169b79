use Rattle.shard_rounds.proofs.laws.rounds_hand_out_their_batch.Goals as goal
use Rattle.shard_rounds.proofs.Handed.{hands_out, hands_up_to}

pub returns-clause-whole : goal.returns-clause-whole
returns-clause-whole c = hands_out

pub returns-clause-front : goal.returns-clause-front
returns-clause-front c = hands_up_to
