-- those of the maps so far
use Rattle.std.proofs.Common.{take}
use Rattle.nf_base.specs.View.{creation_of}
use Rattle.nf_sites.specs.Sites.{name_sites}
use Rattle.access_keys.specs.Shown.{Puts}
use Rattle.access_keys.proofs.lookup.put_names.Given as goal

abbrev pub invariant-loop-m : goal.invariant-loop-m
invariant-loop-m l =
    Puts l.here l.fn.sites.items l.sites.items
    (name_sites l.here.door (creation_of l.creation) 0 (take l.m l.maps))
