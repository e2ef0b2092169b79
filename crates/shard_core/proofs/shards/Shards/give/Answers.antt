use Rattle.std.proofs.Common.{◌≡◌, ◌<◌, ◌+◌, ◌∷◌, ◌++◌, [], ℕ, length, Some, slice_get, slice_set, ap, sym, ◌∙◌, subst}
use Rattle.std.proofs.lemmas.Option.{slice_get_read}
use Rattle.nf_base.specs.Doors.{IsServed}
use Rattle.nf_base.specs.Functions.{function_of}
use Rattle.rss_table.specs.Tables.{queue_of}
use Rattle.shard_core.specs.Held.{SameButRoom, GivenOne}
use Rattle.shard_core.specs.Sharded.{Sharded, sharded_of, IsWhole, IsSharded, GivenTo, SameButRooms, HasRoom}
use Rattle.shard_core.proofs.Giving.{on_both, on_ok, on_err, queue_below, given_sharded, same_sharded, given_to, given_room, rooms_but}
use Rattle.shard_core.proofs.shards.Shards.give.Goals as goal

pub item_mut-requires : goal.item_mut-requires
item_mut-requires c =
    let i = c.self.inside in
    let whole = subst (λ (v : Sharded). IsWhole v) (sym c.self.view_is) c.requires.whole in
    subst (λ (n : ℕ). c.queue_by-queue.result < n) (sym whole) (queue_below i.func i.keys i.count i.workers i.queues.items i.table c.queue_by-queue.result c.self.invariant c.queue_by-queue.ensures.below)

pub invariant_of-self : goal.invariant_of-self
invariant_of-self c =
    let i = c.self.inside in
    let q = c.queue_by-queue.result in
    let before = c.item_mut.result.now in
    let after = c.give_to.new.worker in
    let whole = subst (λ (v : Sharded). IsWhole v) (sym c.self.view_is) c.requires.whole in
    let lt = queue_below i.func i.keys i.count i.workers i.queues.items i.table q c.self.invariant c.queue_by-queue.ensures.below in
    let at : slice_get i.workers q ≡ Some before = slice_get_read i.workers i.count q before (sym whole) lt c.item_mut.ensures.value in
    let port = subst (λ (v : Sharded). c.args.packet.now.id.port < length v.func.handlers) (sym c.self.view_is) c.requires.port in
    let served = subst (λ (v : Sharded). IsServed (function_of v.func) c.args.packet.now) (sym c.self.view_is) c.requires.served in
    on_both c.give_to.result (GivenOne c.args.packet.now before after × (c.give_to.new.queues.items ≡ i.queues.items ++ q ∷ [])) (SameButRoom before after × (c.give_to.new.queues.items ≡ i.queues.items)) (IsSharded i.func i.keys i.count (slice_set i.workers q after) c.give_to.new.queues.items i.table)
    (on_ok c.give_to.result (GivenOne c.args.packet.now before after) (c.give_to.new.queues.items ≡ i.queues.items ++ q ∷ []) (GivenOne c.args.packet.now before after × (c.give_to.new.queues.items ≡ i.queues.items ++ q ∷ [])) c.give_to.ensures.given c.give_to.ensures.queued (λ n e. (n, e)))
    (on_err c.give_to.result (SameButRoom before after) (c.give_to.new.queues.items ≡ i.queues.items) (SameButRoom before after × (c.give_to.new.queues.items ≡ i.queues.items)) c.give_to.ensures.err c.give_to.ensures.unqueued (λ n e. (n, e)))
    (λ n. given_sharded i.func i.keys i.count i.workers i.queues.items c.give_to.new.queues.items i.table q c.args.packet.now before after c.self.invariant at lt port served n.0 n.1)
    (λ n. same_sharded i.func i.keys i.count i.workers i.queues.items c.give_to.new.queues.items i.table q before after c.self.invariant at n.0 n.1)

pub returns-clause-given : goal.returns-clause-given
returns-clause-given c =
    let i = c.self.inside in
    let q = c.queue_by-queue.result in
    let before = c.item_mut.result.now in
    let after = c.give_to.new.worker in
    let whole = subst (λ (v : Sharded). IsWhole v) (sym c.self.view_is) c.requires.whole in
    let lt = queue_below i.func i.keys i.count i.workers i.queues.items i.table q c.self.invariant c.queue_by-queue.ensures.below in
    let at : slice_get i.workers q ≡ Some before = slice_get_read i.workers i.count q before (sym whole) lt c.item_mut.ensures.value in
    let more = c.give_to.new.queues in
    let new : Sharded = sharded_of i.func i.keys i.count (slice_set i.workers q after) more i.time in
    let home = c.queue_by-queue.ensures.value ∙ ap (λ t. queue_of t i.keys c.args.packet.now) c.self.invariant.table_is in
    on_ok c.give_to.result (GivenOne c.args.packet.now before after) (more.items ≡ i.queues.items ++ q ∷ []) (GivenTo c.args.packet.now c.args.self.now new) c.give_to.ensures.given c.give_to.ensures.queued
    (λ n e. subst (λ (v : Sharded). GivenTo c.args.packet.now v new) c.self.view_is (given_to i.func i.keys i.count i.workers i.queues more i.time q c.args.packet.now before after at home n e))

pub returns-clause-err : goal.returns-clause-err
returns-clause-err c =
    let i = c.self.inside in
    let q = c.queue_by-queue.result in
    let before = c.item_mut.result.now in
    let after = c.give_to.new.worker in
    let whole = subst (λ (v : Sharded). IsWhole v) (sym c.self.view_is) c.requires.whole in
    let lt = queue_below i.func i.keys i.count i.workers i.queues.items i.table q c.self.invariant c.queue_by-queue.ensures.below in
    let at : slice_get i.workers q ≡ Some before = slice_get_read i.workers i.count q before (sym whole) lt c.item_mut.ensures.value in
    let more = c.give_to.new.queues in
    let new : Sharded = sharded_of i.func i.keys i.count (slice_set i.workers q after) more i.time in
    on_err c.give_to.result (SameButRoom before after) (more.items ≡ i.queues.items) (SameButRooms c.args.self.now new) c.give_to.ensures.err c.give_to.ensures.unqueued
    (λ n e. subst (λ (v : Sharded). SameButRooms v new) c.self.view_is (rooms_but i.func i.keys i.count i.workers i.queues more i.time q before after at n e))

pub returns-clause-room : goal.returns-clause-room
returns-clause-room c = λ n room.
    let i = c.self.inside in
    let q = c.queue_by-queue.result in
    let before = c.item_mut.result.now in
    let after = c.give_to.new.worker in
    let whole = subst (λ (v : Sharded). IsWhole v) (sym c.self.view_is) c.requires.whole in
    let lt = queue_below i.func i.keys i.count i.workers i.queues.items i.table q c.self.invariant c.queue_by-queue.ensures.below in
    let at : slice_get i.workers q ≡ Some before = slice_get_read i.workers i.count q before (sym whole) lt c.item_mut.ensures.value in
    let here = subst (HasRoom (n + 1)) (sym c.self.view_is) room in
    let got = c.give_to.ensures.room n (here.workers q before at) here.queues in
    (got.0, given_room n i.func i.keys i.count i.workers i.queues c.give_to.new.queues i.time q after got.1 got.2 here)
