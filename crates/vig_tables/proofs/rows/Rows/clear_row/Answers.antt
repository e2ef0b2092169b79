use Rattle.std.proofs.Common.{◌≡◌, ◌∙◌, ap, sym, refl, arith, ℕ, ◌+◌, ◌*◌, ◌-◌, ◌≤◌, ◌++◌, List, [], length, take, drop, replicate, get_or}
use Rattle.std.specs.Prelude.{slice_set}
use Rattle.std.proofs.lemmas.List.{with_items_is, length-take-le, length-drop, length-replicate, set-get_or}
use Rattle.std.proofs.lemmas.Nat.{mul-le}
use Rattle.vig_tables.specs.Grid.{Grid, grid_of, filled, rows_of}
use Rattle.vig_tables.proofs.RowLemmas.{row_end, row_put, row_of, filled_none, length_written, length-rows_of}
use Rattle.vig_tables.proofs.rows.Rows.clear_row.Goals as goal

pub returns-then-i-self : goal.returns-then-i-self
returns-then-i-self c =
    let count = c.self.inside.count in
    let width = c.self.inside.width in
    let cells = c.self.inside.cells.items in
    let rows = rows_of count width (filled (count * width) cells) in
    let lt = rw (← c.self.view_is, length-rows_of) at c.requires in
    let past : length cells ≤ c.args.i * width = omega (arith, c.self.invariant.each, mul-le c.self.inside.written width c.args.i width c.if-i-self.true (omega arith)) in
    let zeros : get_or rows c.args.i [] ≡ replicate width 0 = row_of count width c.args.i (c.args.i * width) (filled (count * width) cells) lt refl ∙ filled_none (count * width) (c.args.i * width) width cells past (row_end count width c.args.i lt) in
    rw (← c.self.view_is) (ap (λ (rows' : List (List ℕ)). let grid : Grid = record { width = width; rows = rows' } in grid) (sym (ap (slice_set rows c.args.i) (sym zeros) ∙ set-get_or rows c.args.i [])))

pub slice_bounds-fill-end : goal.slice_bounds-fill-end
slice_bounds-fill-end c = omega (arith, row_end c.self.inside.written c.self.inside.width c.args.i c.if-i-self.false, c.self.invariant.each, ap length c.deref_mut.ensures.value)

pub returns : goal.returns
returns c =
    let count = c.self.inside.count in
    let width = c.self.inside.width in
    let cells = c.self.inside.cells.items in
    let at = c.args.i * width in
    let lt = rw (← c.self.view_is, length-rows_of) at c.requires in
    let end = row_end c.self.inside.written width c.args.i c.if-i-self.false in
    let within : at + width ≤ length cells = omega (arith, end, c.self.invariant.each) in
    let le : length cells ≤ count * width = omega (arith, c.self.invariant.each, mul-le c.self.inside.written width count width c.self.invariant.within (omega arith)) in
    let same : at + width - at ≡ width = omega arith in
    let part : length (take (at + width - at) (drop at c.deref_mut.result.now)) ≡ width =
    rw (same, c.deref_mut.ensures.value) (length-take-le width (drop at cells) (omega (arith, length-drop at cells))) in
    let cleared = c.fill.ensures.after (λ y e. e) ∙ ap (λ (n : ℕ). replicate n 0) part in
    let wide = length-replicate width 0 in
    let fits = length_written width at cells (replicate width 0) within wide ∙ sym (ap length c.deref_mut.ensures.value) ∙ c.deref_mut.ensures.len in
    rw (← c.self.view_is, same, c.deref_mut.ensures.value, cleared)
    (ap (λ (xs : List ℕ). grid_of count width (filled (count * width) xs)) (with_items_is c.self.inside.cells (take at cells ++ (replicate width 0 ++ drop width (drop at cells))) fits)
    ∙ ap (λ (rows : List (List ℕ)). let grid : Grid = record { width = width; rows = rows } in grid) (row_put count width c.args.i cells (replicate width 0) lt within le wide))
