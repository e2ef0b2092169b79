use Rattle.shard_laws.proofs.shares.meeting_shares_compose.Goals as goal
use Rattle.shard_laws.proofs.Sharing.{meeting_shares_compose}

pub returns : goal.returns
returns c = meeting_shares_compose
