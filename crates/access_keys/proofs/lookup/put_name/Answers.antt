use Rattle.std.proofs.Common.{◌∙◌, map, take, drop, ap}
use Rattle.nf_base.specs.View.{creation_of}
use Rattle.nf_sites.specs.declared.sort.Sort.TheVariants as sort
use Rattle.nf_sites.specs.Named.{numbered}
use Rattle.access_keys.specs.Speaking.{named_seen}
use Rattle.access_keys.proofs.Putting.{put_as, same_part}
use Rattle.access_keys.proofs.lookup.put_name.Goals as goal

pub returns : goal.returns
returns c =
    let here = c.args.here.now in
    let n = creation_of c.args.creation.now in
    let decl = c.args.decl.now in
    let named = map named_seen c.as_slice.result.now in
    put_as c.put_chain.result here c.args.sites.now.items c.put_chain.new.sites.items here.door (sort.Name c.args.m) n.place n.chain named
    (numbered decl.first (take decl.parts (drop decl.first n.labels)))
    (same_part decl.first decl.parts n.labels c.args.fields.now c.part-key.result.now named c.requires c.part-key.ensures
    (ap (map named_seen) c.as_slice.ensures.value ∙ c.in_ok-named.ensures))
    c.put_chain.ensures
