use Rattle.std.proofs.Common.{◌≡◌, ◌∙◌, ap, sym, refl, arith, ◌<◌, ◌≤◌, length}
use Rattle.std.proofs.lemmas.List.{take_all}
use Rattle.vig_tables.specs.Table.{Table}
use Rattle.vig_tables.proofs.Entries.{one_more}
use Rattle.vig_tables.proofs.Reading.{length_is}
use Rattle.vig_tables.proofs.chain_tables.ChainTables.state.Goals as goal

pub loop-i-preserved : goal.loop-i-preserved
loop-i-preserved c =
    let slots = c.args.self.now.chain.slots in
    let i = c.loop-i.i in
    let size = ap (λ (t : Table). length t.chain.slots) (sym c.self.view_is) ∙ length_is _ _ _ _ _ c.self.invariant.joined in
    let lt : i < length slots = omega (arith, size, c.get-size.ensures.value, c.loop-i-test.true) in
    one_more slots c.loop-i.slots.items c.push.new.self.items i c.in_ok-entry.field-0 c.in_ok-push.ensures.items c.loop-i.invariant c.in_ok-entry.ensures lt

pub returns : goal.returns
returns c =
    let slots = c.args.self.now.chain.slots in
    let size = ap (λ (t : Table). length t.chain.slots) (sym c.self.view_is) ∙ length_is _ _ _ _ _ c.self.invariant.joined in
    let le : length slots ≤ c.loop-i.i = omega (arith, size, c.get-size.ensures.value, c.loop-i-test.false) in
    let same : c.from_vec.result ≡ slots = c.from_vec.ensures ∙ c.loop-i.invariant ∙ take_all c.loop-i.i slots le in
    rw (same, c.greatest.ensures.value, ← c.self.view_is) refl
