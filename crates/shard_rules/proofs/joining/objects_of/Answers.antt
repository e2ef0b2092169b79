use Rattle.std.proofs.Common.{◌∙◌, sym, ap}
use Rattle.nf_sites.specs.Known.{same_object}
use Rattle.shard_rules.specs.Once.{with_one}
use Rattle.shard_rules.proofs.OneMore.{object_more}
use Rattle.shard_rules.proofs.joining.objects_of.Goals as goal

pub loop-site-preserved : goal.loop-site-preserved
loop-site-preserved c =
    let s = c.site-item.result in
    let more = object_more c.args.sites.now c.loop-site.site-index s c.loop-site-test.true c.site-item.is in
    c.in_ok-add_one.ensures ∙ ap (with_one same_object s.object) c.loop-site.invariant ∙ sym more
