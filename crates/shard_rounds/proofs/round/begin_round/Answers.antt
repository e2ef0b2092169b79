use Rattle.shard_rounds.proofs.round.begin_round.Goals as goal

pub returns-clause-given : goal.returns-clause-given
returns-clause-given c = λ x m h. c.give_all.ensures.stands x m (c.take_room.ensures.stands x m h)
