use Rattle.std.proofs.Common.{arith}
use Rattle.nf_base.specs.View.{creation_of}
use Rattle.access_keys.proofs.Putting.{names_more}
use Rattle.access_keys.proofs.lookup.put_names.Goals as goal

pub loop-m-preserved : goal.loop-m-preserved
loop-m-preserved c =
    names_more c.args.here.now c.args.sites.now.items c.loop-m.sites.items c.put_name.new.sites.items c.args.here.now.door (creation_of c.args.creation.now) c.maps_of-maps.result.now c.loop-m.m c.index-maps-m.result
    (omega arith) c.index-maps-m.is c.loop-m.invariant c.in_ok-put_name.ensures
