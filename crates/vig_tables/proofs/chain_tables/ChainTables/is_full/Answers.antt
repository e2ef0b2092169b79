use Rattle.vig_tables.proofs.Reading.{full_is}
use Rattle.vig_tables.proofs.chain_tables.ChainTables.is_full.Goals as goal

pub returns : goal.returns
returns c = rw (← c.self.view_is) (full_is _ _ _ _ _ c.self.invariant.joined c.is_full.result c.is_full.ensures)
