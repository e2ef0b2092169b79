-- what is left decides
use Rattle.std.proofs.Common.{◌≡◌, drop}
use Rattle.nf_types.specs.Names.{named_from}
use Rattle.nf_types.proofs.name.first_named.Given as goal

abbrev pub invariant-loop-i : goal.invariant-loop-i
invariant-loop-i g l = named_from l.i g.T.Named.name_of l.name (drop l.i l.items) ≡ named_from 0 g.T.Named.name_of l.name l.items
