use Rattle.std.proofs.Common.{sym}
use Rattle.nf_meaning.proofs.Vacant.{chain_here}
use Rattle.nf_meaning.proofs.creation.enter.Goals as goal

pub returns-clause-made : goal.returns-clause-made
returns-clause-made c = λ left.
    let here = chain_here c.args.context.now.state.chains c.args.creation.now.chain c.item_mut-chain.result.now c.requires.chain c.item_mut-chain.ensures.value in
    rw here (sym (rw (c.put.ensures, c.from_vec.ensures, c.from_vec-2.ensures, c.in_ok-columns.ensures) at (c.in_ok-bind.ensures.bound left)))
