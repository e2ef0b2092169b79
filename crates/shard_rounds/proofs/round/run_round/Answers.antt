use Rattle.shard_rounds.proofs.round.run_round.Goals as goal

pub returns-clause-ran : goal.returns-clause-ran
returns-clause-ran g c = λ x m h.
    c.end_round.ensures.ran x m c.args.batch.now c.args.shards.now h (c.work_apart.ensures.worked x _ (c.in_ok-got.ensures.given x m h))
