use Rattle.std.proofs.Common.{arith}
use Rattle.nf_meaning.proofs.Writes.{no_touch}
use Rattle.nf_meaning.proofs.chain.touch.Goals as goal

pub returns-in-None : goal.returns-in-None
returns-in-None c = no_touch c.args.time c.args.i c.args.chain.now c.item_mut.result.now (omega arith) c.item_mut.ensures.value c.in-None.is
