use Rattle.std.proofs.Common.{false, arith}
use Rattle.path_walk.specs.Order.{head_seen}
use Rattle.access_keys.proofs.Gathering.{marked_more}
use Rattle.access_keys.proofs.places.places_marked.Goals as goal

pub loop-k-preserved : goal.loop-k-preserved
loop-k-preserved c =
    marked_more c.loop-k.places c.add_if.new.self head_seen c.args.marks.now c.args.statements.now c.loop-k.k false c.index-statements-k.result c.requires (omega arith) c.index-statements-k.is c.loop-k.invariant c.in_ok-add_if.ensures
