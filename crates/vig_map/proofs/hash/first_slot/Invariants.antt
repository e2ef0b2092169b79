use Rattle.std.proofs.Common.{◌≡◌, take}
use Rattle.std.specs.Prelude.{fold}
use Rattle.vig_map.specs.Hashes.{mixed}
use Rattle.vig_map.proofs.hash.first_slot.Given as goal

abbrev pub invariant-loop-part : goal.invariant-loop-part
invariant-loop-part l = l.hash ≡ fold mixed 0 (take l.part-index l.part-items)
