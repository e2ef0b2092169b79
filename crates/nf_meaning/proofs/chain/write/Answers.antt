use Rattle.std.proofs.Common.{arith}
use Rattle.nf_meaning.proofs.Writes.{no_write}
use Rattle.nf_meaning.proofs.chain.write.Goals as goal

pub returns-in-None : goal.returns-in-None
returns-in-None c = no_write c.args.column c.args.v c.args.i c.args.chain.now c.item_mut.result.now (omega arith) c.item_mut.ensures.value c.in-None.is
