use Rattle.std.proofs.Common.{◌∙◌, ap, arith, ◌<◌, ◌≤◌, List, length, map}
use Rattle.std.specs.Prelude.{Option, slice_set}
use Rattle.std.proofs.lemmas.List.{length-map}
use Rattle.hash_slots.specs.declared.cells.Pair.{Pair}
use Rattle.hash_slots.specs.Cells.{pair_in}
use Rattle.hash_slots.proofs.CellLemmas.{length-filled, put_among, reached}
use Rattle.hash_slots.proofs.cells.Cells.set.Goals as goal

pub returns : goal.returns
returns c =
    let n = c.self.inside.count in
    let old = c.self.inside.slots.items in
    let slots = c.reach.new.slots.items in
    let lt = rw (← c.self.view_is) at c.requires.within in
    let among : c.args.i < n = omega (arith, lt, length-filled n (map pair_in old) (omega (arith, c.self.invariant.within, length-map old pair_in))) in
    let le : length slots ≤ n = omega (arith, c.reach.ensures.least, c.self.invariant.within, among) in
    rw (← c.self.view_is) (put_among n c.args.i slots c.slot_of.result c.args.pair c.slot_of.ensures c.reach.ensures.within
    ∙ ap (λ (pairs : List (Option Pair)). slice_set pairs c.args.i c.args.pair) (reached n c.reach.ensures.empty.0 old slots c.reach.ensures.empty.1 le))
