use Rattle.std.proofs.Common.{arith, List}
use Rattle.key_proof.proofs.Ends.{objects_end, objects_more}
use Rattle.key_proof.proofs.numbered.numbered_sites.Goals as goal

pub loop-k-preserved : goal.loop-k-preserved
loop-k-preserved c =
    objects_more c.args.sites.now c.args.objects.now c.args.standings.now c.loop-k.k _ c.index-standings-k.result c.loop-k.all c.put_standing.new.all _ (omega arith) (omega arith)
    c.index-standings-k.is c.in_ok-put_standing.ensures c.loop-k.invariant

pub returns : goal.returns
returns c = objects_end c.args.sites.now c.args.objects.now c.args.standings.now c.loop-k.k c.loop-k.all _ (omega arith) c.loop-k.invariant
