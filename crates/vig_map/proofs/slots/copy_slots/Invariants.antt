-- the slots so far are those of the others
use Rattle.std.proofs.Common.{◌≡◌, ℕ, ◌<◌, length, get_or}
use Rattle.std.specs.Prelude.{None}
use Rattle.vig_map.proofs.slots.copy_slots.Given as goal

abbrev pub invariant-loop-i : goal.invariant-loop-i
invariant-loop-i l = record {
  count : length l.slots.items ≡ length l.others;
  same : (k : ℕ) → k < l.i → get_or l.slots.items k None ≡ get_or l.others k None;
}
