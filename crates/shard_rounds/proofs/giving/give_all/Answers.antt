use Rattle.std.proofs.Common.{◌+◌, ◌-◌, List, length, refl, sym, subst, arith}
use Rattle.nf_base.specs.declared.packet.Packet.{Packet}
use Rattle.shard_machine.specs.Machine.{Machine}
use Rattle.shard_core.specs.Sharded.{StandsFor}
use Rattle.shard_core.proofs.Played.{sizes_more}
use Rattle.shard_rounds.specs.Rounds.{all_dispatched}
use Rattle.shard_rounds.proofs.Batch.{next_given, less_room, all_given}
use Rattle.shard_rounds.proofs.giving.give_all.Goals as goal

pub loop-i-init : goal.loop-i-init
loop-i-init c = record {
  stands = λ x m h. h;
  left = omega arith;
  size = record { func = refl; count = refl; long = refl };
  room = λ n e. less_room (length c.args.batch.now) n c.args.shards.now (omega (arith, e)) c.requires.room;
}

pub loop-i-preserved : goal.loop-i-preserved
loop-i-preserved c = record {
  stands = λ x m h. subst (λ (n : Machine). StandsFor x n c.give_one.new.shards) (sym (next_given x c.args.batch.now c.loop-i.i c.index-batch-i.result m (omega arith) c.index-batch-i.is)) (c.give_one.ensures.stands x _ (c.loop-i.invariant.stands x m h));
  left = let a = c.give_one.ensures.left in let b = c.loop-i.invariant.left in omega (arith, a, b);
  size = sizes_more c.args.shards.now c.loop-i.shards c.give_one.new.shards c.loop-i.invariant.size c.give_one.ensures.size;
  room = λ n e. c.give_one.ensures.room n (c.loop-i.invariant.room (n + 1) (omega (arith, e)));
}

pub give_one-requires-clause-room : goal.give_one-requires-clause-room
give_one-requires-clause-room c =
    let left = length c.args.batch.now - c.loop-i.i in
    less_room left 1 c.loop-i.shards (omega arith) (c.loop-i.invariant.room left (omega arith))

pub returns-clause-stands : goal.returns-clause-stands
returns-clause-stands c = λ x m h.
    subst (λ (ps : List Packet). StandsFor x (all_dispatched x ps m) c.loop-i.shards) (all_given c.args.batch.now c.loop-i.i (omega arith)) (c.loop-i.invariant.stands x m h)
