use Rattle.std.proofs.Common.{◌∙◌, map, ap, sym}
use Rattle.nf_base.specs.View.{guard_of}
use Rattle.nf_sites.specs.declared.sort.Sort.TheVariants as sort
use Rattle.nf_sites.specs.Sites.{guarded}
use Rattle.access_keys.specs.Speaking.{named_seen}
use Rattle.access_keys.proofs.Putting.{put_as}
use Rattle.access_keys.proofs.Same.{same_asked}
use Rattle.access_keys.proofs.lookup.put_find.Goals as goal

pub returns : goal.returns
returns c =
    let here = c.args.here.now in
    let named = map named_seen c.as_slice.result.now in
    put_as c.put_chain.result here c.args.sites.now.items c.put_chain.new.sites.items here.door sort.Find c.args.place c.args.chain named
    (guarded (map guard_of c.args.guards.now))
    (sym (same_asked c.args.guards.now) ∙ ap (map named_seen) (sym (c.as_slice.ensures.value ∙ c.in_ok-named.ensures)))
    c.put_chain.ensures
