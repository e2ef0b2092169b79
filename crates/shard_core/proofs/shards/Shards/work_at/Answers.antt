use Rattle.std.proofs.Common.{◌≡◌, ◌<◌, length, Some, slice_get, slice_set, refl, sym, subst}
use Rattle.std.proofs.lemmas.Option.{slice_get_read}
use Rattle.nf_base.specs.declared.packet.Packet.{Packet}
use Rattle.nf_base.specs.Doors.{IsServed}
use Rattle.nf_base.specs.Functions.{function_of}
use Rattle.shard_core.specs.Sharded.{Sharded, sharded_of, WorkedAt, HasRoom}
use Rattle.shard_core.proofs.Changing.{worker_of, works_waiting, changed_sharded, changed_room}
use Rattle.shard_core.proofs.shards.Shards.work_at.Goals as goal

pub invariant_of-self : goal.invariant_of-self
invariant_of-self c =
    let i = c.self.inside in
    let before = c.item_mut.result.now in
    let at : slice_get i.workers c.args.w ≡ Some before = slice_get_read i.workers (length i.workers) c.args.w before refl (subst (λ (v : Sharded). c.args.w < length v.workers) (sym c.self.view_is) c.requires) c.item_mut.ensures.value in
    let is = c.self.invariant.each c.args.w before at in
    changed_sharded i.func i.keys i.count i.workers i.queues.items i.table c.args.w c.work.new.self c.self.invariant
    (worker_of i.func i.count c.args.w before c.work.new.self is c.work.ensures.fixed
    (works_waiting (λ (p : Packet). p.id.port < length i.func.handlers) (function_of i.func) c.work.result before c.work.new.self c.work.ensures.works is.ports_are)
    (works_waiting (IsServed (function_of i.func)) (function_of i.func) c.work.result before c.work.new.self c.work.ensures.works is.served_are))

pub returns-clause-works : goal.returns-clause-works
returns-clause-works c =
    let i = c.self.inside in
    let before = c.item_mut.result.now in
    let at : slice_get i.workers c.args.w ≡ Some before = slice_get_read i.workers (length i.workers) c.args.w before refl (subst (λ (v : Sharded). c.args.w < length v.workers) (sym c.self.view_is) c.requires) c.item_mut.ensures.value in
    subst (λ (v : Sharded). WorkedAt c.args.w c.work.result v (sharded_of i.func i.keys i.count (slice_set i.workers c.args.w c.work.new.self) i.queues i.time)) c.self.view_is
    (record {
      before = before;
      after = c.work.new.self;
      changed = record { there = at; workers = refl; func = refl; keys = refl; count = refl; fixed = c.work.ensures.fixed };
      works = c.work.ensures.works;
      queues = refl;
      time = refl;
    })

pub returns-clause-room : goal.returns-clause-room
returns-clause-room c = λ n room.
    let i = c.self.inside in
    let before = c.item_mut.result.now in
    let at : slice_get i.workers c.args.w ≡ Some before = slice_get_read i.workers (length i.workers) c.args.w before refl (subst (λ (v : Sharded). c.args.w < length v.workers) (sym c.self.view_is) c.requires) c.item_mut.ensures.value in
    changed_room n i.func i.keys i.count i.workers i.queues i.time c.args.w before c.work.new.self at c.work.ensures.room (subst (HasRoom n) (sym c.self.view_is) room)
