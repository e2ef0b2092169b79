use Rattle.std.proofs.Common.{◌≡◌, ◌∙◌, ap, arith, ℕ, ◌+◌, ◌-◌, ◌≤◌, ◌++◌, ◌∷◌, [], List, length, replicate}
use Rattle.std.proofs.lemmas.List.{append_assoc, length-append, replicate-append-replicate}
use Rattle.hash_slots.specs.declared.cells.Slot.{Slot}
use Rattle.hash_slots.specs.Cells.{empty_slot}
use Rattle.hash_slots.proofs.cells.push_empty.Goals as goal

pub push_reserved-requires : goal.push_reserved-requires
push_reserved-requires c = omega (arith, c.loop-at.slots.ok.0, c.loop-at.invariant.len, c.loop-at.invariant.room, c.requires.room, c.loop-at-test.true)

pub loop-at-preserved : goal.loop-at-preserved
loop-at-preserved c =
    let old = c.args.slots.now.items in
    let from : length old ≤ c.loop-at._at = omega (arith, c.loop-at.auto._at, c.len-at.ensures, c.args.slots.now.ok.0) in
    let count : c.loop-at._at - length old + 1 ≡ c.loop-at._at + 1 - length old = omega (arith, from) in
    record {
      items =
          c.push_reserved.ensures.items
          ∙ ap (λ (xs : List Slot). xs ++ empty_slot ∷ []) c.loop-at.invariant.items
          ∙ append_assoc old (replicate (c.loop-at._at - length old) empty_slot) (empty_slot ∷ [])
          ∙ ap (λ (xs : List Slot). old ++ xs) (replicate-append-replicate (c.loop-at._at - length old) 1 empty_slot ∙ ap (λ (n : ℕ). replicate n empty_slot) count);
      len = omega (arith, ap length c.push_reserved.ensures.items, length-append c.loop-at.slots.items (empty_slot ∷ []), c.loop-at.invariant.len);
      room = c.push_reserved.ensures.capacity ∙ c.loop-at.invariant.room;
    }

pub returns-clause-items : goal.returns-clause-items
returns-clause-items c = (c.loop-at._at - length c.args.slots.now.items, c.loop-at.invariant.items)

pub returns-clause-len : goal.returns-clause-len
returns-clause-len c = omega (arith, c.loop-at.invariant.len, c.loop-at-test.false, c.loop-at.auto._at-end (omega (arith, c.len-at.ensures, c.args.slots.now.ok.0, c.requires.within)))
