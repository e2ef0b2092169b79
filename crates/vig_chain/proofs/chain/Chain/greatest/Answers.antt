use Rattle.vig_chain.proofs.chain.Chain.greatest.Goals as goal

pub returns-clause-above : goal.returns-clause-above
returns-clause-above c = rw (← c.self.view_is) c.self.invariant.under
