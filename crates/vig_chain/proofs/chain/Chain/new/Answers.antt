use Rattle.vig_chain.proofs.HeadLemmas.{opened_sound}
use Rattle.vig_chain.proofs.chain.Chain.new.Goals as goal

pub invariant_of-result : goal.invariant_of-result
invariant_of-result c = rw c.in_ok-new.ensures.value (opened_sound c.args.size c.args.share c.in_ok-new.ensures.some c.in_ok-new.ensures.most)
