use Rattle.shard_core.specs.Finished.{IsMergeOf, Finishes}
use Rattle.shard_core.proofs.Giving.{if_ok}
use Rattle.shard_core.proofs.Finishing.{finishes}
use Rattle.shard_core.proofs.shards.Shards.finish.Goals as goal

pub returns-clause-stands : goal.returns-clause-stands
returns-clause-stands c = λ x m h times meet.
    if_ok c.merged.result (IsMergeOf c.args.self) (Finishes x m) c.merged.ensures (λ tables merge. finishes x m c.args.self tables h c.requires.collected times meet merge)
