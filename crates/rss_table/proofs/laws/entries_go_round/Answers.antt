use Rattle.rss_table.proofs.Entries.{entries_go_round}
use Rattle.rss_table.proofs.laws.entries_go_round.Goals as goal

pub returns : goal.returns
returns c = entries_go_round
