use Rattle.std.proofs.Common.{arith, ◌<◌}
use Rattle.vig_map.specs.Bindings.{bindings_of}
use Rattle.vig_map.specs.Slots.{pairs_of}
use Rattle.vig_map.proofs.Keeping.{looked_up, stands_none, none_of, not_bindable, bindable, stop_within, put_sound, put_is}
use Rattle.vig_map.proofs.map.Map.put.Goals as goal

pub returns-then-is_some-clause-cause : goal.returns-then-is_some-clause-cause
returns-then-is_some-clause-cause c =
    let stop = rw c.deref.ensures.value at c.search-at.ensures in
    rw (← c.self.view_is) (not_bindable (bindings_of (pairs_of c.self.inside.slots.items) c.self.inside.most) c.args.key c.value_at-bound.result c.is_some.result (looked_up c.self.inside.slots.items c.deref-2.result.now c.self.inside.held c.self.inside.most c.args.key c.search-at.result c.value_at-bound.result c.self.invariant stop c.deref-2.ensures.value c.value_at-bound.ensures) c.is_some.ensures c.if-is_some.true)

pub index_mut-requires : goal.index_mut-requires
index_mut-requires c =
    let stop = rw c.deref.ensures.value at c.search-at.ensures in
    let room : c.self.inside.held < c.self.inside.most = omega (arith, c.self.invariant.within, c.if-self.false) in
    omega (arith, stop_within c.self.inside.slots.items c.self.inside.held c.self.inside.most c.args.key c.search-at.result c.self.invariant stop room)

pub invariant_of-self : goal.invariant_of-self
invariant_of-self c =
    let stop = rw c.deref.ensures.value at c.search-at.ensures in
    let room : c.self.inside.held < c.self.inside.most = omega (arith, c.self.invariant.within, c.if-self.false) in
    let none = stands_none c.self.inside.slots.items c.deref-2.result.now c.search-at.result c.value_at-bound.result c.deref-2.ensures.value c.value_at-bound.ensures (none_of c.value_at-bound.result c.is_some.result c.is_some.ensures c.if-is_some.false) in
    put_sound c.self.inside.slots.items c.self.inside.held c.self.inside.most c.search-at.result (record { key = c.args.key; value = c.args.value }) c.self.invariant stop none room

pub returns-clause-cause : goal.returns-clause-cause
returns-clause-cause c =
    let stop = rw c.deref.ensures.value at c.search-at.ensures in
    rw (← c.self.view_is) (bindable (bindings_of (pairs_of c.self.inside.slots.items) c.self.inside.most) c.args.key c.value_at-bound.result c.is_some.result (looked_up c.self.inside.slots.items c.deref-2.result.now c.self.inside.held c.self.inside.most c.args.key c.search-at.result c.value_at-bound.result c.self.invariant stop c.deref-2.ensures.value c.value_at-bound.ensures) c.is_some.ensures c.if-is_some.false (omega (arith, c.self.invariant.count, c.self.invariant.within, c.if-self.false)))

pub returns-clause-put : goal.returns-clause-put
returns-clause-put c =
    let stop = rw c.deref.ensures.value at c.search-at.ensures in
    let room : c.self.inside.held < c.self.inside.most = omega (arith, c.self.invariant.within, c.if-self.false) in
    let none = stands_none c.self.inside.slots.items c.deref-2.result.now c.search-at.result c.value_at-bound.result c.deref-2.ensures.value c.value_at-bound.ensures (none_of c.value_at-bound.result c.is_some.result c.is_some.ensures c.if-is_some.false) in
    rw (← c.self.view_is) (put_is c.self.inside.slots.items c.self.inside.held c.self.inside.most c.search-at.result (record { key = c.args.key; value = c.args.value }) c.self.invariant stop none room)
