-- the labels so far
use Rattle.std.proofs.Common.{◌≡◌, map}
use Rattle.access_keys.specs.Together.{new_seen}
use Rattle.access_keys.specs.Speaking.{named_seen, fields_known}
use Rattle.access_keys.proofs.known.fields_known.Given as goal

abbrev pub invariant-loop-label : goal.invariant-loop-label
invariant-loop-label l =
    l.known ≡ fields_known l.family (map new_seen l.all) l.chain (map named_seen l.named) l.label
