-- those so far are copied, and there is room for all
use Rattle.std.proofs.Common.{◌≡◌, take}
use Rattle.std.specs.Vec.{vec_capacity}
use Rattle.hash_slots.proofs.cells.Cells.copy_from.Given as goal

abbrev pub invariant-loop-slot : goal.invariant-loop-slot
invariant-loop-slot l = record {
  items : l.self-inside.slots.items ≡ take l.slot-index l.slot-items;
  room : vec_capacity l.self-inside.slots ≡ vec_capacity l.initial.self-inside.slots;
  count : l.self-inside.count ≡ l.initial.self-inside.count;
}
