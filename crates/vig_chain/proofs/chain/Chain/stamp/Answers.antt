use Rattle.vig_chain.proofs.Keeping.{own_of, under_of}
use Rattle.vig_chain.proofs.chain.Chain.stamp.Goals as goal

pub returns-clause-own : goal.returns-clause-own
returns-clause-own c = rw (← c.self.view_is) (own_of _ _ _ c.self.invariant c.args.index c.stamp.result c.stamp.ensures)

pub returns-clause-under : goal.returns-clause-under
returns-clause-under c = rw (← c.self.view_is) (under_of _ _ _ c.self.invariant c.args.index c.stamp.result c.stamp.ensures)
