use Rattle.std.proofs.Common.{◌≡◌, take}
use Rattle.std.specs.Prelude.{fold}
use Rattle.hash_slots.specs.Hashes.{step}
use Rattle.hash_slots.proofs.hash.tag_of.Given as goal

abbrev pub invariant-loop-part : goal.invariant-loop-part
invariant-loop-part l = l.hash ≡ fold step 0xD1B54A32D192ED03 (take l.part-index l.key)
