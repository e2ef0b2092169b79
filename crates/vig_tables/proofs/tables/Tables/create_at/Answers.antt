use Rattle.std.proofs.Common.{◌<◌, ◌≤◌, ◌∙◌, refl, arith, length}
use Rattle.std.proofs.lemmas.Option.{slice_get_read, slice_get_past}
use Rattle.vig_tables.proofs.StateLemmas.{can_make_in, entered_in, cannot_past}
use Rattle.vig_tables.proofs.tables.Tables.create_at.Goals as goal

pub returns-then-chain-len-clause-cause : goal.returns-then-chain-len-clause-cause
returns-then-chain-len-clause-cause c =
    let a = c.self.inside in
    let lt : c.args.chain < length a.chains = omega (arith, c.len.ensures, c.if-chain-len.true) in
    let at = slice_get_read a.chains (length a.chains) c.args.chain c.item_mut.result.now refl lt c.item_mut.ensures.value in
    rw (← c.self.view_is) (c.create_at.ensures.cause ∙ can_make_in a.chains a.arrays a.share c.args.chain c.args.i c.item_mut.result.now c.args.labels.now c.self.invariant at)

pub returns-then-chain-len-clause-made : goal.returns-then-chain-len-clause-made
returns-then-chain-len-clause-made c =
    let a = c.self.inside in
    let lt : c.args.chain < length a.chains = omega (arith, c.len.ensures, c.if-chain-len.true) in
    let at = slice_get_read a.chains (length a.chains) c.args.chain c.item_mut.result.now refl lt c.item_mut.ensures.value in
    rw (← c.self.view_is) (entered_in c.create_at.result a.chains a.arrays a.share c.args.chain c.args.time c.args.i c.item_mut.result.now c.create_at.new.self c.args.labels.now c.self.invariant at c.create_at.ensures.entered)

pub returns-else-chain-len-clause-cause : goal.returns-else-chain-len-clause-cause
returns-else-chain-len-clause-cause c =
    let a = c.self.inside in
    let past : length a.chains ≤ c.args.chain = omega (arith, c.len.ensures, c.if-chain-len.false) in
    rw (← c.self.view_is) (cannot_past a.chains a.arrays a.share c.args.chain c.args.i c.args.labels.now (slice_get_past a.chains c.args.chain past))
