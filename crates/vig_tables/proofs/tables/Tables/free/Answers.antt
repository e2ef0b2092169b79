use Rattle.std.proofs.Common.{◌<◌, ◌≤◌, ap, refl, arith, length}
use Rattle.std.proofs.lemmas.Option.{slice_get_read, slice_get_past}
use Rattle.nf_base.specs.Chains.{freed}
use Rattle.vig_tables.specs.Table.{Table}
use Rattle.vig_tables.proofs.StateLemmas.{changed_is, not_changed}
use Rattle.vig_tables.proofs.tables.Tables.free.Goals as goal

pub returns-then-chain-len : goal.returns-then-chain-len
returns-then-chain-len c =
    let a = c.self.inside in
    let lt : c.args.chain < length a.chains = omega (arith, c.len.ensures, c.if-chain-len.true) in
    let at = slice_get_read a.chains (length a.chains) c.args.chain c.item_mut.result.now refl lt c.item_mut.ensures.value in
    rw (← c.self.view_is) (changed_is a.chains a.arrays a.share c.args.chain c.item_mut.result.now c.free.new.self (freed c.args.i) at (ap (λ (t : Table). t.chain) c.free.ensures) (ap (λ (t : Table). t.decl) c.free.ensures))

pub returns-else-chain-len : goal.returns-else-chain-len
returns-else-chain-len c =
    let a = c.self.inside in
    let past : length a.chains ≤ c.args.chain = omega (arith, c.len.ensures, c.if-chain-len.false) in
    rw (← c.self.view_is) (not_changed a.chains a.arrays a.share c.args.chain (freed c.args.i) (slice_get_past a.chains c.args.chain past))
