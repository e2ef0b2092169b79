use Rattle.shard_laws.proofs.shares.meeting_shares_recompose.Goals as goal
use Rattle.shard_laws.proofs.Sharing.{meeting_shares_recompose}

pub returns : goal.returns
returns c = meeting_shares_recompose
