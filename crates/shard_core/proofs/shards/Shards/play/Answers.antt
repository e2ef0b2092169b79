use Rattle.shard_core.specs.Plays.{PlayedFront}
use Rattle.shard_core.proofs.Played.{any_err, none_played}
use Rattle.shard_core.proofs.shards.Shards.play.Goals as goal

pub returns-in_err-got-clause-front : goal.returns-in_err-got-clause-front
returns-in_err-got-clause-front c = λ x m h.
    any_err c.from_residual.result (PlayedFront x m c.args.events.now c.args.self.now) (none_played x m c.args.events.now c.args.self.now (λ e. let ok = c.in_err-got.ensures.succeeds e in cc) h)
