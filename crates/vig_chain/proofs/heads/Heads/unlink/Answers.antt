use Rattle.vig_chain.proofs.heads.Heads.unlink.Goals as goal

pub returns-clause-within : goal.returns-clause-within
returns-clause-within c = c.prev-before.ensures.links
