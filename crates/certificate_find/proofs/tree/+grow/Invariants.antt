use Rattle.certificate_find.proofs.tree.+grow.Given as goal

abbrev pub decreases-grow : goal.decreases-grow
decreases-grow l = l.deep
