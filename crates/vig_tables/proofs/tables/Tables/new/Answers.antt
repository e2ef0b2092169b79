use Rattle.std.proofs.Common.{refl}
use Rattle.vig_tables.proofs.StateLemmas.{opened_decls, opened_chains, opened_shares}
use Rattle.vig_tables.proofs.tables.Tables.new.Goals as goal

pub invariant_of-result : goal.invariant_of-result
invariant_of-result c = rw c.in_ok-chains.ensures (opened_shares c.args.share c.as_slice.result.now)

pub returns : goal.returns
returns c =
    rw (c.in_ok-chains.ensures, c.in_ok-arrays.ensures, c.as_slice.ensures.value, c.as_slice-2.ensures.value, opened_decls c.args.share c.args.func.now.chains, opened_chains c.args.share c.args.func.now.chains) refl
