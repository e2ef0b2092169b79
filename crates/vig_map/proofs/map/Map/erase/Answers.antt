use Rattle.std.proofs.Common.{◌∙◌, ap, sym, arith, ◌*◌}
use Rattle.vig_map.specs.Bindings.{Bindings, value_of}
use Rattle.vig_map.proofs.SlotLemmas.{slot_within}
use Rattle.vig_map.proofs.Gaps.{gapped}
use Rattle.vig_map.proofs.Keeping.{looked_up, stands, held_some, erase_sound, erase_is}
use Rattle.vig_map.proofs.map.Map.erase.Goals as goal

pub returns-in-None-clause-value : goal.returns-in-None-clause-value
returns-in-None-clause-value c =
    let stop = rw c.deref.ensures.value at c.search-at.ensures in
    sym c.in-None.is ∙ looked_up c.self.inside.slots.items c.deref-2.result.now c.self.inside.held c.self.inside.most c.args.key.now c.search-at.result c.value_at.result c.self.invariant stop c.deref-2.ensures.value c.value_at.ensures ∙ ap (λ (map : Bindings). value_of map.pairs c.args.key.now) c.self.view_is

pub index_mut-requires : goal.index_mut-requires
index_mut-requires c =
    let t = stands c.self.inside.slots.items c.deref-2.result.now c.search-at.result c.value_at.result c.in-Some.value c.deref-2.ensures.value c.value_at.ensures c.in-Some.is in
    omega (arith, slot_within c.self.inside.slots.items c.search-at.result t.0 t.1)

pub close_gap-requires-clause-within : goal.close_gap-requires-clause-within
close_gap-requires-clause-within c =
    let t = stands c.self.inside.slots.items c.deref-2.result.now c.search-at.result c.value_at.result c.in-Some.value c.deref-2.ensures.value c.value_at.ensures c.in-Some.is in
    omega (arith, slot_within c.self.inside.slots.items c.search-at.result t.0 t.1)

pub close_gap-requires-clause-gap : goal.close_gap-requires-clause-gap
close_gap-requires-clause-gap c =
    let t = stands c.self.inside.slots.items c.deref-2.result.now c.search-at.result c.value_at.result c.in-Some.value c.deref-2.ensures.value c.value_at.ensures c.in-Some.is in
    gapped (2 * c.self.inside.most) c.self.inside.slots.items c.search-at.result c.self.invariant.met (slot_within c.self.inside.slots.items c.search-at.result t.0 t.1)

pub overflow_sub-self : goal.overflow_sub-self
overflow_sub-self c =
    let t = stands c.self.inside.slots.items c.deref-2.result.now c.search-at.result c.value_at.result c.in-Some.value c.deref-2.ensures.value c.value_at.ensures c.in-Some.is in
    held_some c.self.inside.slots.items c.self.inside.held c.self.inside.most c.search-at.result t.0 c.self.invariant t.1

pub invariant_of-self : goal.invariant_of-self
invariant_of-self c =
    let t = stands c.self.inside.slots.items c.deref-2.result.now c.search-at.result c.value_at.result c.in-Some.value c.deref-2.ensures.value c.value_at.ensures c.in-Some.is in
    erase_sound c.self.inside.slots.items c.close_gap.new.slots.items c.self.inside.held c.self.inside.most c.search-at.result t.0 c.self.invariant t.1 c.close_gap.ensures.met c.close_gap.ensures.same

pub returns-clause-value : goal.returns-clause-value
returns-clause-value c =
    let stop = rw c.deref.ensures.value at c.search-at.ensures in
    sym c.in-Some.is ∙ looked_up c.self.inside.slots.items c.deref-2.result.now c.self.inside.held c.self.inside.most c.args.key.now c.search-at.result c.value_at.result c.self.invariant stop c.deref-2.ensures.value c.value_at.ensures ∙ ap (λ (map : Bindings). value_of map.pairs c.args.key.now) c.self.view_is

pub returns-clause-erased : goal.returns-clause-erased
returns-clause-erased c =
    let stop = rw c.deref.ensures.value at c.search-at.ensures in
    let t = stands c.self.inside.slots.items c.deref-2.result.now c.search-at.result c.value_at.result c.in-Some.value c.deref-2.ensures.value c.value_at.ensures c.in-Some.is in
    rw (← c.self.view_is) (erase_is c.self.inside.slots.items c.close_gap.new.slots.items c.self.inside.held c.self.inside.most c.search-at.result t.0 c.args.key.now c.self.invariant t.1 (stop.stops t.0 t.1) c.close_gap.ensures.met c.close_gap.ensures.same)
