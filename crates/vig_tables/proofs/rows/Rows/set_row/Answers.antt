use Rattle.std.proofs.Common.{◌≡◌, ◌∙◌, ap, sym, arith, ℕ, ◌+◌, ◌*◌, ◌-◌, ◌≤◌, ◌++◌, List, length, take, drop}
use Rattle.std.specs.Prelude.{slice_set}
use Rattle.std.proofs.lemmas.List.{with_items_is}
use Rattle.std.proofs.lemmas.Nat.{mul-le}
use Rattle.vig_tables.specs.Grid.{Grid, grid_of, filled}
use Rattle.vig_tables.proofs.RowLemmas.{row_end, row_put, reached, length_written, length-rows_of}
use Rattle.vig_tables.proofs.rows.Rows.set_row.Goals as goal

pub reach-self-inside-requires-clause-few : goal.reach-self-inside-requires-clause-few
reach-self-inside-requires-clause-few c =
    let lt = rw (← c.self.view_is, length-rows_of) at c.requires.within in
    omega (arith, lt, c.self.invariant.few)

pub reach-self-inside-requires-clause-room : goal.reach-self-inside-requires-clause-room
reach-self-inside-requires-clause-room c =
    let lt = rw (← c.self.view_is, length-rows_of) at c.requires.within in
    omega (arith, mul-le (c.args.i + 1) c.self.inside.width c.self.inside.count c.self.inside.width (omega (arith, lt)) (omega arith), c.self.invariant.room_for)

pub slice_bounds-copy_from_slice-end : goal.slice_bounds-copy_from_slice-end
slice_bounds-copy_from_slice-end c = omega (arith, row_end c.reach-self-inside.result c.self.inside.width c.args.i c.reach-self-inside.ensures.within, c.reach-self-inside.ensures.each, ap length c.deref_mut.ensures.value)

pub invariant_of-self : goal.invariant_of-self
invariant_of-self c =
    let width = c.self.inside.width in
    let cells = c.reach-self-inside.new.cells.items in
    let at = c.args.i * width in
    let lt = rw (← c.self.view_is, length-rows_of) at c.requires.within in
    let wide = rw (← c.self.view_is) at c.requires.wide in
    let same : at + width - at ≡ width = omega arith in
    let end = row_end c.reach-self-inside.result width c.args.i c.reach-self-inside.ensures.within in
    let within : at + width ≤ length cells = omega (arith, end, c.reach-self-inside.ensures.each) in
    let fits = length_written width at cells c.args.row.now within wide ∙ sym (ap length c.deref_mut.ensures.value) ∙ c.deref_mut.ensures.len in
    rw (same, c.deref_mut.ensures.value, c.copy_from_slice.ensures.after) (record {
      few = c.self.invariant.few;
      narrow = c.self.invariant.narrow;
      within = omega (arith, c.reach-self-inside.ensures.least, c.self.invariant.within, lt);
      each =
          ap length (with_items_is c.reach-self-inside.new.cells (take at cells ++ (c.args.row.now ++ drop width (drop at cells))) fits)
          ∙ length_written width at cells c.args.row.now within wide
          ∙ c.reach-self-inside.ensures.each;
      room_for = omega (arith, c.self.invariant.room_for, c.reach-self-inside.ensures.room);
      zeros_are = c.self.invariant.zeros_are;
    })

pub returns : goal.returns
returns c =
    let count = c.self.inside.count in
    let width = c.self.inside.width in
    let cells = c.reach-self-inside.new.cells.items in
    let at = c.args.i * width in
    let lt = rw (← c.self.view_is, length-rows_of) at c.requires.within in
    let wide = rw (← c.self.view_is) at c.requires.wide in
    let same : at + width - at ≡ width = omega arith in
    let end = row_end c.reach-self-inside.result width c.args.i c.reach-self-inside.ensures.within in
    let within : at + width ≤ length cells = omega (arith, end, c.reach-self-inside.ensures.each) in
    let most : c.reach-self-inside.result ≤ count = omega (arith, c.reach-self-inside.ensures.least, c.self.invariant.within, lt) in
    let le : length cells ≤ count * width = omega (arith, c.reach-self-inside.ensures.each, mul-le c.reach-self-inside.result width count width most (omega arith)) in
    let fits = length_written width at cells c.args.row.now within wide ∙ sym (ap length c.deref_mut.ensures.value) ∙ c.deref_mut.ensures.len in
    let zeros = c.reach-self-inside.ensures.zeros in
    rw (← c.self.view_is, same, c.deref_mut.ensures.value, c.copy_from_slice.ensures.after)
    (ap (λ (xs : List ℕ). grid_of count width (filled (count * width) xs)) (with_items_is c.reach-self-inside.new.cells (take at cells ++ (c.args.row.now ++ drop width (drop at cells))) fits)
    ∙ ap (λ (rows : List (List ℕ)). let grid : Grid = record { width = width; rows = rows } in grid) (row_put count width c.args.i cells c.args.row.now lt within le wide)
    ∙ ap (λ (xs : List ℕ). let grid : Grid = record { width = width; rows = slice_set (grid_of count width xs).rows c.args.i c.args.row.now } in grid) (reached (count * width) zeros.0 c.self.inside.cells.items cells zeros.1 le))
