use Rattle.journal_check.proofs.Judged.{queues_shares}
use Rattle.journal_check.proofs.laws.queues_are_shares.Goals as goal

pub returns : goal.returns
returns c = queues_shares
