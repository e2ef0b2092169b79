use Rattle.vig_tables.specs.Joined.{entries}
use Rattle.vig_tables.proofs.Expiring.{due_is}
use Rattle.vig_tables.proofs.Reading.{past_match}
use Rattle.vig_tables.proofs.chain_tables.ChainTables.due.Goals as goal

pub returns : goal.returns
returns c =
    let a = c.self.inside in
    rw (← c.self.view_is) (due_is c.args.time a.decl.lifetime (entries a.chain a.labels a.columns) c.due.result (past_match _ _ _ _ _ c.args.time a.decl.lifetime c.self.invariant.joined c.due.result c.due.ensures))
