use Rattle.std.proofs.Common.{◌∙◌, ap, ℕ, ◌*◌, List, []}
use Rattle.vig_map.specs.Bindings.{bindings_of}
use Rattle.vig_map.proofs.Keeping.{empty_sound, empty_pairs}
use Rattle.vig_map.proofs.map.Map.new.Goals as goal

pub invariant_of-result : goal.invariant_of-result
invariant_of-result c = empty_sound c.get-most.result c.in_ok-slots.slots.items c.in_ok-slots.ensures c.get-most.ensures.above c.get-most.ensures.below

pub returns : goal.returns
returns c =
    ap (λ (pairs : List (List ℕ × ℕ)). bindings_of pairs c.get-most.result) (empty_pairs (3 * c.get-most.result) c.in_ok-slots.slots.items c.in_ok-slots.ensures)
    ∙ ap (bindings_of []) c.get-most.ensures.value
