use Rattle.vig_tables.proofs.Changing.{none_gone_if}
use Rattle.vig_tables.proofs.chain_tables.ChainTables.expire.Goals as goal

pub returns-else-due : goal.returns-else-due
returns-else-due c = rw (← c.self.view_is) (none_gone_if _ _ _ _ _ c.args.time c.due.result c.self.invariant.joined c.due.ensures c.if-due.false)
