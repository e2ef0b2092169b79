use Rattle.std.proofs.Common.{◌∙◌, ap, arith, ◌+◌, List, []}
use Rattle.hash_slots.specs.declared.cells.Pair.{Pair}
use Rattle.hash_slots.specs.Tags.{tags_of}
use Rattle.hash_slots.proofs.Keeping.{empty_sound, empty_pairs}
use Rattle.hash_slots.proofs.tags.Slots.new.Goals as goal

pub invariant_of-result : goal.invariant_of-result
invariant_of-result c = empty_sound c.get-most.result c.next_power_of_two-homes.result c.in_ok-cells.cells c.in_ok-cells.ensures c.get-most.ensures.above c.get-most.ensures.below c.next_power_of_two-homes.ensures.power (omega (arith, c.from.ensures, c.next_power_of_two-homes.ensures.lower_bound)) (omega (arith, c.from.ensures, c.get-most.ensures.above, c.next_power_of_two-homes.ensures.upper_bound))

pub returns : goal.returns
returns c =
    ap (λ (pairs : List Pair). tags_of pairs c.get-most.result) (empty_pairs (c.next_power_of_two-homes.result + c.get-most.result) c.in_ok-cells.cells c.in_ok-cells.ensures)
    ∙ ap (tags_of []) c.get-most.ensures.value
