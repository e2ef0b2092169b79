use Rattle.std.proofs.Common.{slice_set, refl, ap, sym, subst, arith}
use Rattle.nf_engine.specs.View.{fixed_of}
use Rattle.shard_core.specs.declared.collected.Collected.{Collected}
use Rattle.shard_core.specs.Sharded.{Sharded, sharded_of, IsWhole, ComesFirst, TakenFrom, NoneTaken, SameButRooms, HasRoom}
use Rattle.shard_core.proofs.Changing.{changed_room}
use Rattle.shard_core.proofs.Taking.{same_tables, same_waiting, same_stopped, there, taken_sharded, popped_sharded, more_room, same_but_rooms, first_is, none_taken}
use Rattle.shard_core.proofs.shards.Shards.take_of.Goals as goal

pub invariant_of-self : goal.invariant_of-self
invariant_of-self c =
    let i = c.self.inside in
    let before = c.item_mut.result.now in
    let after = c.take.new.self in
    let first = subst (λ (v : Sharded). ComesFirst c.args.queue v.queues.items) (sym c.self.view_is) c.requires.first in
    let whole = subst (λ (v : Sharded). IsWhole v) (sym c.self.view_is) c.requires.whole in
    let at = there i.func i.keys i.count i.workers i.queues.items i.table c.args.queue before whole c.self.invariant first c.item_mut.ensures.value in
    popped_sharded i.func i.keys i.count (slice_set i.workers c.args.queue after) c.pop.result i.queues.items c.pop.new.self.items i.table c.pop.ensures.items
    (taken_sharded i.func i.keys i.count i.workers i.queues.items i.table c.args.queue before after c.self.invariant at c.take.ensures.rest)

pub invariant_of-self-in-None : goal.invariant_of-self-in-None
invariant_of-self-in-None c =
    let i = c.self.inside in
    let before = c.item_mut.result.now in
    let after = c.take.new.self in
    let first = subst (λ (v : Sharded). ComesFirst c.args.queue v.queues.items) (sym c.self.view_is) c.requires.first in
    let whole = subst (λ (v : Sharded). IsWhole v) (sym c.self.view_is) c.requires.whole in
    let at = there i.func i.keys i.count i.workers i.queues.items i.table c.args.queue before whole c.self.invariant first c.item_mut.ensures.value in
    taken_sharded i.func i.keys i.count i.workers i.queues.items i.table c.args.queue before after c.self.invariant at c.take.ensures.rest

pub returns-in-Some-clause-takes : goal.returns-in-Some-clause-takes
returns-in-Some-clause-takes c =
    let i = c.self.inside in
    let before = c.item_mut.result.now in
    let after = c.take.new.self in
    let first = subst (λ (v : Sharded). ComesFirst c.args.queue v.queues.items) (sym c.self.view_is) c.requires.first in
    let whole = subst (λ (v : Sharded). IsWhole v) (sym c.self.view_is) c.requires.whole in
    let at = there i.func i.keys i.count i.workers i.queues.items i.table c.args.queue before whole c.self.invariant first c.item_mut.ensures.value in
    let got : Collected = record { packet = c.in-Some.answer.packet; queue = c.args.queue; done = c.in-Some.answer.done } in
    subst (λ (v : Sharded). TakenFrom got v (sharded_of i.func i.keys i.count (slice_set i.workers c.args.queue after) c.pop.new.self c.time_after-self-inside.result)) c.self.view_is
    (record {
      before = before;
      after = after;
      changed = record { there = at; workers = refl; func = refl; keys = refl; count = refl; fixed = ap fixed_of (same_tables before after c.take.ensures.rest) };
      answers = c.in-Some.ensures.answers;
      waiting = same_waiting before after c.take.ensures.rest;
      tables = same_tables before after c.take.ensures.rest;
      stopped = same_stopped before after c.take.ensures.rest;
      queues = first_is c.args.queue i.queues.items c.pop.result c.pop.new.self.items first c.pop.ensures.items;
      time = c.time_after-self-inside.ensures;
    })

pub returns-in-Some-clause-room : goal.returns-in-Some-clause-room
returns-in-Some-clause-room c = λ n room.
    let i = c.self.inside in
    let before = c.item_mut.result.now in
    let after = c.take.new.self in
    let first = subst (λ (v : Sharded). ComesFirst c.args.queue v.queues.items) (sym c.self.view_is) c.requires.first in
    let whole = subst (λ (v : Sharded). IsWhole v) (sym c.self.view_is) c.requires.whole in
    let at = there i.func i.keys i.count i.workers i.queues.items i.table c.args.queue before whole c.self.invariant first c.item_mut.ensures.value in
    let e = c.pop.ensures.room in
    more_room n i.func i.keys i.count (slice_set i.workers c.args.queue after) i.queues c.pop.new.self i.time c.time_after-self-inside.result (omega (arith, e))
    (changed_room n i.func i.keys i.count i.workers i.queues i.time c.args.queue before after at c.take.ensures.room (subst (HasRoom n) (sym c.self.view_is) room))

pub returns-in-None-clause-takes : goal.returns-in-None-clause-takes
returns-in-None-clause-takes c =
    let i = c.self.inside in
    let before = c.item_mut.result.now in
    let after = c.take.new.self in
    let first = subst (λ (v : Sharded). ComesFirst c.args.queue v.queues.items) (sym c.self.view_is) c.requires.first in
    let whole = subst (λ (v : Sharded). IsWhole v) (sym c.self.view_is) c.requires.whole in
    let at = there i.func i.keys i.count i.workers i.queues.items i.table c.args.queue before whole c.self.invariant first c.item_mut.ensures.value in
    subst (λ (v : Sharded). NoneTaken v.queues.items v.workers × SameButRooms v (sharded_of i.func i.keys i.count (slice_set i.workers c.args.queue after) i.queues i.time)) c.self.view_is (
      none_taken c.args.queue i.queues.items i.workers before first at c.in-None.ensures.none,
      same_but_rooms i.func i.keys i.count i.workers i.queues i.time c.args.queue before after at (record {
        tables = same_tables before after c.take.ensures.rest;
        waiting = same_waiting before after c.take.ensures.rest;
        answers = sym c.in-None.ensures.answers;
        stopped = same_stopped before after c.take.ensures.rest;
      }),
    )

pub returns-in-None-clause-room : goal.returns-in-None-clause-room
returns-in-None-clause-room c = λ n room.
    let i = c.self.inside in
    let before = c.item_mut.result.now in
    let after = c.take.new.self in
    let first = subst (λ (v : Sharded). ComesFirst c.args.queue v.queues.items) (sym c.self.view_is) c.requires.first in
    let whole = subst (λ (v : Sharded). IsWhole v) (sym c.self.view_is) c.requires.whole in
    let at = there i.func i.keys i.count i.workers i.queues.items i.table c.args.queue before whole c.self.invariant first c.item_mut.ensures.value in
    changed_room n i.func i.keys i.count i.workers i.queues i.time c.args.queue before after at c.take.ensures.room (subst (HasRoom n) (sym c.self.view_is) room)
