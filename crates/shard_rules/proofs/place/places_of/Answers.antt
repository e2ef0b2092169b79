use Rattle.std.proofs.Common.{◌∙◌, sym, ap}
use Rattle.shard_rules.specs.Once.{with_one}
use Rattle.shard_rules.specs.Places.{place_of, same_place}
use Rattle.shard_rules.proofs.OneMore.{site_more, site_other}
use Rattle.shard_rules.proofs.place.places_of.Goals as goal
use Rattle.shard_rules.proofs.place.places_of.Goals.{then-is_on+in_ok-add_site, else-is_on}

pub loop-site-preserved : goal.loop-site-preserved
loop-site-preserved c =
    let o = c.args.object in
    let kept = c.args.kept.now in
    let sites = c.args.sites.now in
    let i = c.loop-site.site-index in
    let s = c.site-item.result in
    elim c.if-is_on.branch [
      | then-is_on+in_ok-add_site w ↦
          let more = site_more o kept sites i s c.loop-site-test.true c.site-item.is (sym c.is_on.ensures ∙ w.if-is_on.true) in
          w.places-is ∙ w.in_ok-add_site.ensures ∙ ap (with_one same_place (place_of kept s)) c.loop-site.invariant ∙ sym more
      | else-is_on w ↦
          let same = site_other o kept sites i s c.loop-site-test.true c.site-item.is (sym c.is_on.ensures ∙ w.if-is_on.false) in
          w.places-is ∙ c.loop-site.invariant ∙ sym same
    ]
