use Rattle.rss_table.proofs.Owners.{shares_part_indices}
use Rattle.rss_table.proofs.laws.shares_part_indices.Goals as goal

pub returns : goal.returns
returns c = shares_part_indices
