use Rattle.std.proofs.Common.{List, length, refl, ap, sym, subst, arith}
use Rattle.shard_core.specs.declared.collected.Collected.{Collected}
use Rattle.shard_core.proofs.Played.{sizes_more, still_whole}
use Rattle.shard_rounds.specs.Rounds.{Collecting}
use Rattle.shard_rounds.proofs.Gathered.{none_yet, one_more, none_more}
use Rattle.shard_rounds.proofs.collecting.collect_all.Goals as goal

pub loop-collected-init : goal.loop-collected-init
loop-collected-init c = record {
  so_far = λ x m h. subst (λ (cs : List Collected). Collecting x m cs c.args.shards.now) (sym c.requires.none) (none_yet x m c.args.shards.now h);
  whole = c.requires.whole;
  size = record { func = refl; count = refl; long = refl };
  room = c.requires.room;
}

pub loop-collected-preserved : goal.loop-collected-preserved
loop-collected-preserved c = record {
  so_far = λ x m h. subst (λ (cs : List Collected). Collecting x m cs c.collect.new.self) (sym c.push_reserved.ensures.items)
      (one_more x m c.loop-collected.got.items c.in-Some.collected c.loop-collected.shards c.collect.new.self (c.loop-collected.invariant.so_far x m h) (λ n k. c.in-Some.ensures.stands x n k));
  whole = still_whole c.loop-collected.shards c.collect.new.self c.collect.ensures.size c.loop-collected.invariant.whole;
  size = sizes_more c.args.shards.now c.loop-collected.shards c.collect.new.self c.loop-collected.invariant.size c.collect.ensures.size;
  room =
      let q = ap length c.in-Some.ensures.takes.queues in
      let a = c.push_reserved.ensures.len in
      let b = c.push_reserved.ensures.capacity in
      let r = c.loop-collected.invariant.room in
      omega (arith, q, a, b, r);
}

pub returns-clause-all : goal.returns-clause-all
returns-clause-all c = λ x m h. none_more x m c.loop-collected.got.items c.loop-collected.shards c.collect.new.self (c.loop-collected.invariant.so_far x m h) (λ n k. c.in_default.ensures.stands x n k)
