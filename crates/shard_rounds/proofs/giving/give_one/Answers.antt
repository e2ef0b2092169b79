use Rattle.shard_rounds.proofs.giving.give_one.Goals as goal

pub returns-clause-room : goal.returns-clause-room
returns-clause-room c = λ n room. (c.in-Ok.ensures.room n room).1
