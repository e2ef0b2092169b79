-- what is left decides
use Rattle.std.proofs.Common.{◌≡◌, drop, map}
use Rattle.nf_types.specs.Names.{is_among}
use Rattle.nf_types.proofs.name.is_among.Given as goal

abbrev pub invariant-loop-item : goal.invariant-loop-item
invariant-loop-item g l = is_among l.name (map g.T.Named.name_of (drop l.item-index l.items)) ≡ is_among l.name (map g.T.Named.name_of l.items)
