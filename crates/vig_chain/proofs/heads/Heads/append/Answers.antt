use Rattle.vig_chain.proofs.heads.Heads.append.Goals as goal

pub set_next-requires-clause-to_within : goal.set_next-requires-clause-to_within
set_next-requires-clause-to_within c = c.requires.cell_within
