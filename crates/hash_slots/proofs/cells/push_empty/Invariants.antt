use Rattle.std.proofs.Common.{◌≡◌, ◌-◌, ◌++◌, length, replicate}
use Rattle.std.specs.Vec.{vec_capacity}
use Rattle.hash_slots.specs.Cells.{empty_slot}
use Rattle.hash_slots.proofs.cells.push_empty.Given as goal

abbrev pub invariant-loop-at : goal.invariant-loop-at
invariant-loop-at l = record {
  items : l.slots.items ≡ l.fn.slots.items ++ replicate (l._at - length l.fn.slots.items) empty_slot;
  len : length l.slots.items ≡ l._at;
  room : vec_capacity l.slots ≡ vec_capacity l.fn.slots;
}
