-- those so far can go one way alone
use Rattle.std.proofs.Common.{map}
use Rattle.path_walk.specs.Seen.{text_seen}
use Rattle.path_walk.specs.Known.{known_seen, AreTold}
use Rattle.path_walk.proofs.counting.are_told.Given as goal

abbrev pub invariant-loop-number : goal.invariant-loop-number
invariant-loop-number l = AreTold (map text_seen l.numbered.texts.items) (known_seen l.known) l.number
