use Rattle.std.proofs.Common.{arith}
use Rattle.vig_tables.specs.Tagged.{IsBoundIn}
use Rattle.vig_tables.proofs.Changes.{all_changed, changed_next}
use Rattle.vig_tables.proofs.key_map.bind_all.Goals as goal

pub returns : goal.returns
returns c = all_changed (IsBoundIn c.args.labels.now c.args.i) c.args.maps.now.items c.loop-k.maps.items c.loop-k.invariant.count (λ k d lt. c.loop-k.invariant.each k d (omega arith) lt)

pub loop-k-preserved : goal.loop-k-preserved
loop-k-preserved c = changed_next (IsBoundIn c.args.labels.now c.args.i) c.args.maps.now.items c.loop-k.maps.items c.loop-k.k c.index_mut.result.now c.bind.new.self c.loop-k.invariant (omega (arith, c.loop-k-test.true, c.len-k-end.ensures, c.loop-k.invariant.count)) c.index_mut.ensures.value c.bind.ensures
