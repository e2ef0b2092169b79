-- the texts so far
use Rattle.std.proofs.Common.{◌≡◌, map, take}
use Rattle.path_walk.specs.Feasible.{equals_of}
use Rattle.path_walk.specs.Seen.{text_seen}
use Rattle.path_walk.proofs.numbering.all_equals.Given as goal

abbrev pub invariant-loop-text : goal.invariant-loop-text
invariant-loop-text l = l.all.items ≡ map equals_of (map text_seen (take l.text-index l.texts))
