use Rattle.nf_base.specs.Statements.{statements}
use Rattle.nf_base.specs.View.{block_of}
use Rattle.path_walk.proofs.Splits.{listed_more, listed_less}
use Rattle.path_walk.proofs.listing.all_statements.Goals as goal

pub loop-one-smaller : goal.loop-one-smaller
loop-one-smaller c =
    listed_less c.loop-one.left.items c.pop.new.self.items c.put_back.new.left.items c.in-Some.one c.in-Some.ensures.items c.in_ok-put_back.ensures

pub loop-one-preserved : goal.loop-one-preserved
loop-one-preserved c =
    listed_more c.loop-one.all.items c.push-in-Some.new.self.items c.loop-one.left.items c.pop.new.self.items c.put_back.new.left.items c.in-Some.one
    (statements (block_of c.args.block.now)) c.loop-one.invariant c.in-Some.ensures.items c.in_ok-push-2.ensures.items c.in_ok-put_back.ensures
