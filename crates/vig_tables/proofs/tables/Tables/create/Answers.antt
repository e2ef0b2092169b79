use Rattle.std.proofs.Common.{◌<◌, ◌≤◌, refl, arith, length}
use Rattle.std.proofs.lemmas.Option.{slice_get_read, slice_get_past}
use Rattle.vig_tables.proofs.StateLemmas.{cause_in, created_in, full_past}
use Rattle.vig_tables.proofs.tables.Tables.create.Goals as goal

pub returns-then-chain-len-clause-cause : goal.returns-then-chain-len-clause-cause
returns-then-chain-len-clause-cause c =
    let a = c.self.inside in
    let lt : c.args.chain < length a.chains = omega (arith, c.len.ensures, c.if-chain-len.true) in
    let at = slice_get_read a.chains (length a.chains) c.args.chain c.item_mut.result.now refl lt c.item_mut.ensures.value in
    rw (← c.self.view_is) (cause_in a.chains a.arrays a.share c.args.chain c.item_mut.result.now c.args.labels.now c.create.result c.self.invariant at c.create.ensures.cause)

pub returns-then-chain-len-clause-changes : goal.returns-then-chain-len-clause-changes
returns-then-chain-len-clause-changes c =
    let a = c.self.inside in
    let lt : c.args.chain < length a.chains = omega (arith, c.len.ensures, c.if-chain-len.true) in
    let at = slice_get_read a.chains (length a.chains) c.args.chain c.item_mut.result.now refl lt c.item_mut.ensures.value in
    rw (← c.self.view_is) (created_in a.chains a.arrays a.share c.args.chain c.args.time c.item_mut.result.now c.create.new.self c.args.labels.now c.create.result c.self.invariant at c.create.ensures.changes)

pub returns-else-chain-len-clause-cause : goal.returns-else-chain-len-clause-cause
returns-else-chain-len-clause-cause c =
    let a = c.self.inside in
    let past : length a.chains ≤ c.args.chain = omega (arith, c.len.ensures, c.if-chain-len.false) in
    rw (← c.self.view_is) (full_past a.chains a.arrays a.share c.args.chain c.args.labels.now (slice_get_past a.chains c.args.chain past))
