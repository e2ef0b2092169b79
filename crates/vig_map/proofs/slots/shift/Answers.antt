use Rattle.std.proofs.Common.{◌≡◌, ◌∙◌, sym, refl, arith, ◌<◌, length}
use Rattle.std.specs.Prelude.{Some}
use Rattle.vig_map.specs.Slots.{slot_at}
use Rattle.vig_map.proofs.SlotLemmas.{slot_read}
use Rattle.vig_map.proofs.Gaps.{shifted, shifted_same}
use Rattle.vig_map.proofs.slots.shift.Goals as goal

pub returns-clause-gap : goal.returns-clause-gap
returns-clause-gap c =
    let lt : c.args.at < length c.args.slots.now.items = omega arith in
    let yes = c.if-not-fits.ensures.yes refl in
    let stood : slot_at c.args.slots.now.items c.args.at ≡ Some yes.0 = sym (slot_read c.args.slots.now.items c.args.at c.index.result.now lt c.index.ensures) ∙ yes.1 in
    let taken : c.take-moved.result ≡ Some yes.0 = c.take-moved.ensures.value ∙ slot_read c.args.slots.now.items c.args.at c.index_mut.result.now lt c.index_mut.ensures.value ∙ stood in
    rw (c.take-moved.ensures.after, taken) (shifted c.args.starts c.args.gap c.args.at c.args.slots.now.items yes.0 c.requires.gap stood yes.2)

pub returns-clause-same : goal.returns-clause-same
returns-clause-same c =
    let lt : c.args.at < length c.args.slots.now.items = omega arith in
    let yes = c.if-not-fits.ensures.yes refl in
    let stood : slot_at c.args.slots.now.items c.args.at ≡ Some yes.0 = sym (slot_read c.args.slots.now.items c.args.at c.index.result.now lt c.index.ensures) ∙ yes.1 in
    let taken : c.take-moved.result ≡ Some yes.0 = c.take-moved.ensures.value ∙ slot_read c.args.slots.now.items c.args.at c.index_mut.result.now lt c.index_mut.ensures.value ∙ stood in
    rw (c.take-moved.ensures.after, taken) (shifted_same c.args.gap c.args.at c.args.slots.now.items yes.0 c.requires.gap.empty c.requires.gap.order stood)
