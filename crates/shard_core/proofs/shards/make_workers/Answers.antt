use Rattle.std.proofs.Common.{◌+◌, List, sym, subst}
use Rattle.nf_base.specs.Functions.{function_of}
use Rattle.shard_core.specs.Held.{Held}
use Rattle.shard_core.specs.Sharded.{AreNew}
use Rattle.shard_core.proofs.Starting.{made_more}
use Rattle.shard_core.proofs.shards.make_workers.Goals as goal

pub loop-w-preserved : goal.loop-w-preserved
loop-w-preserved c =
    let f = function_of c.args.func.now in
    record {
      made = subst (λ (ws : List Held). AreNew f c.args.workers (c.loop-w.w + 1) ws) (sym c.in-Ok-push.ensures.ok)
          (made_more f c.args.workers c.loop-w.w c.loop-w.made c.share.result c.in-Ok.worker c.loop-w.invariant.made c.share.ensures.queue c.share.ensures.of c.in-Ok.ensures);
    }
