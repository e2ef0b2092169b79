use Rattle.std.proofs.Common.{◌∙◌}
use Rattle.vig_tables.proofs.Reading.{stamp_is}
use Rattle.vig_tables.proofs.chain_tables.ChainTables.stamp.Goals as goal

pub returns : goal.returns
returns c = rw (← c.self.view_is) (c.stamp.ensures.value ∙ stamp_is _ _ _ _ _ c.self.invariant.joined c.args.i)
