use Rattle.std.proofs.Common.{◌∙◌, map, ap}
use Rattle.nf_base.specs.View.{given_of}
use Rattle.nf_sites.specs.declared.sort.Sort.TheVariants as sort
use Rattle.nf_sites.specs.Named.{numbered}
use Rattle.nf_sites.specs.Sites.{first_label}
use Rattle.access_keys.specs.Speaking.{named_seen}
use Rattle.access_keys.proofs.Putting.{put_as, same_numbered}
use Rattle.access_keys.proofs.lookup.put_get.Goals as goal

pub returns : goal.returns
returns c =
    let here = c.args.here.now in
    let first = first_label here.decls.now c.args.chain c.args.m in
    let named = map named_seen c.as_slice-2.result.now in
    put_as c.put_chain.result here c.args.sites.now.items c.put_chain.new.sites.items here.door (sort.Get c.args.m) c.args.place c.args.chain named
    (numbered first (map given_of c.args.key.now))
    (same_numbered first c.first_label-first.result c.args.key.now c.as_slice.result.now named c.first_label-first.ensures (c.as_slice.ensures.value ∙ c.in_ok-fields.ensures)
    (ap (map named_seen) c.as_slice-2.ensures.value ∙ c.in_ok-named.ensures))
    c.put_chain.ensures
