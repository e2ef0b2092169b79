use Rattle.std.proofs.Common.{◌∙◌, ap, sym, arith, ℕ, ◌+◌, ◌*◌, ◌<◌, ◌≤◌, List, length}
use Rattle.std.specs.Prelude.{slice_set}
use Rattle.std.proofs.Math.ListN.{length-set}
use Rattle.std.proofs.lemmas.Nat.{mul-le, mul-add-lt}
use Rattle.vig_tables.specs.Grid.{Grid, grid_of, filled, row_at}
use Rattle.vig_tables.proofs.RowLemmas.{cell_put, reached, length-filled, length-rows_of, not_written}
use Rattle.vig_tables.proofs.rows.Rows.set.Goals as goal

pub reach-self-inside-requires-clause-few : goal.reach-self-inside-requires-clause-few
reach-self-inside-requires-clause-few c =
    let lt = rw (← c.self.view_is, length-rows_of) at c.requires in
    omega (arith, lt, c.self.invariant.few)

pub reach-self-inside-requires-clause-room : goal.reach-self-inside-requires-clause-room
reach-self-inside-requires-clause-room c =
    let lt = rw (← c.self.view_is, length-rows_of) at c.requires in
    omega (arith, mul-le (c.args.i + 1) c.self.inside.width c.self.inside.count c.self.inside.width (omega (arith, lt)) (omega arith), c.self.invariant.room_for)

pub index_mut-requires : goal.index_mut-requires
index_mut-requires c = omega (arith, mul-add-lt c.args.i c.self.inside.width c.args.column c.reach-self-inside.result c.reach-self-inside.ensures.within c.if-column-self.true, c.reach-self-inside.ensures.each, c.reach-self-inside.new.cells.ok.0)

pub invariant_of-self : goal.invariant_of-self
invariant_of-self c =
    let lt = rw (← c.self.view_is, length-rows_of) at c.requires in
    record {
      few = c.self.invariant.few;
      narrow = c.self.invariant.narrow;
      within = omega (arith, c.reach-self-inside.ensures.least, c.self.invariant.within, lt);
      each = length-set _ _ _ ∙ c.reach-self-inside.ensures.each;
      room_for = omega (arith, c.self.invariant.room_for, c.reach-self-inside.ensures.room);
      zeros_are = c.self.invariant.zeros_are;
    }

pub returns-then-column-self : goal.returns-then-column-self
returns-then-column-self c =
    let count = c.self.inside.count in
    let width = c.self.inside.width in
    let cells = c.reach-self-inside.new.cells.items in
    let lt = rw (← c.self.view_is, length-rows_of) at c.requires in
    let within : c.args.i * width + c.args.column < length cells = omega (arith, mul-add-lt c.args.i width c.args.column c.reach-self-inside.result c.reach-self-inside.ensures.within c.if-column-self.true, c.reach-self-inside.ensures.each) in
    let most : c.reach-self-inside.result ≤ count = omega (arith, c.reach-self-inside.ensures.least, c.self.invariant.within, lt) in
    let le : length cells ≤ count * width = omega (arith, c.reach-self-inside.ensures.each, mul-le c.reach-self-inside.result width count width most (omega arith)) in
    let zeros = c.reach-self-inside.ensures.zeros in
    rw (← c.self.view_is) (ap (λ (rows : List (List ℕ)). let grid : Grid = record { width = width; rows = rows } in grid)
    (cell_put count width c.args.i c.args.column c.args.value cells lt c.if-column-self.true within le)
    ∙ ap (λ (xs : List ℕ). let grid : Grid = record { width = width; rows = slice_set (grid_of count width xs).rows c.args.i (slice_set (row_at (grid_of count width xs) c.args.i) c.args.column c.args.value) } in grid) (reached (count * width) zeros.0 c.self.inside.cells.items cells zeros.1 le))

pub returns-else-column-self : goal.returns-else-column-self
returns-else-column-self c =
    let count = c.self.inside.count in
    let width = c.self.inside.width in
    let lt = rw (← c.self.view_is, length-rows_of) at c.requires in
    let le : length c.self.inside.cells.items ≤ count * width = omega (arith, c.self.invariant.each, mul-le c.self.inside.written width count width c.self.invariant.within (omega arith)) in
    rw (← c.self.view_is) (ap (λ (rows : List (List ℕ)). let grid : Grid = record { width = width; rows = rows } in grid)
    (sym (not_written count width c.args.i c.args.column c.args.value (filled (count * width) c.self.inside.cells.items) lt c.if-column-self.false (length-filled (count * width) c.self.inside.cells.items le))))
