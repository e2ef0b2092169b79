use Rattle.std.proofs.Common.{List, [], refl, sym, subst, arith}
use Rattle.std.specs.Option.{option_to_list}
use Rattle.shard_core.specs.declared.collected.Collected.{Collected}
use Rattle.shard_core.specs.Plays.{Played}
use Rattle.shard_core.proofs.Played.{played_none, played_stays, played_next, played_all, sizes_more}
use Rattle.shard_core.proofs.shards.Shards.play_into.Goals as goal

pub loop-i-init : goal.loop-i-init
loop-i-init c = record {
  played = λ x m h. subst (λ (cs : List Collected). Played x m [] cs c.args.self.now) (sym c.requires.none) (played_none x m c.args.self.now h);
  same = record { func = refl; count = refl; long = refl };
  room = let r = c.requires.room in omega (arith, r);
}

pub returns-in-Err-clause-front : goal.returns-in-Err-clause-front
returns-in-Err-clause-front c = λ x m h. record {
  count = c.loop-i.i;
  before = omega arith;
  got = c.loop-i.got.items;
  played = played_stays x m _ c.loop-i.got.items c.loop-i.self c.play_one.new.self (c.loop-i.invariant.played x m h) (λ n k. c.in-Err.ensures.stays x n k);
}

pub loop-i-preserved : goal.loop-i-preserved
loop-i-preserved c = record {
  played = λ x m h. played_next x m c.args.events.now c.loop-i.i c.index-events-i.result c.loop-i.got.items (option_to_list c.in-Ok.one) c.keep.new.got.items c.loop-i.self c.play_one.new.self (omega arith) c.index-events-i.is c.keep.ensures.items
      (c.loop-i.invariant.played x m h) (λ n k. c.in-Ok.ensures.stands x n k);
  same = sizes_more c.args.self.now c.loop-i.self c.play_one.new.self c.loop-i.invariant.same c.play_one.ensures.same;
  room = let r = c.loop-i.invariant.room in let l = c.keep.ensures.len in let k = c.keep.ensures.capacity in omega (arith, r, l, k);
}

pub returns-clause-stands : goal.returns-clause-stands
returns-clause-stands c = λ x m h. played_all x m c.args.events.now c.loop-i.i c.loop-i.got.items c.loop-i.self (let t = c.loop-i-test.false in omega (arith, t)) (c.loop-i.invariant.played x m h)
