use Rattle.std.proofs.Common.{◌≡◌, ◌∙◌, ap, sym, refl, arith, ◌+◌, ◌*◌, ◌-◌, ◌≤◌, length, drop}
use Rattle.std.proofs.lemmas.List.{length-take-le, length-drop}
use Rattle.std.proofs.lemmas.Nat.{mul-le}
use Rattle.vig_tables.specs.Grid.{filled}
use Rattle.vig_tables.proofs.RowLemmas.{row_end, row_of, length-rows_of, filled_row, filled_none}
use Rattle.vig_tables.proofs.rows.Rows.row.Goals as goal

pub returns-then-i-self-clause-value : goal.returns-then-i-self-clause-value
returns-then-i-self-clause-value c =
    let count = c.self.inside.count in
    let width = c.self.inside.width in
    let cells = c.self.inside.cells.items in
    let lt = rw (← c.self.view_is, length-rows_of) at c.requires in
    let past : length cells ≤ c.args.i * width = omega (arith, c.self.invariant.each, mul-le c.self.inside.written width c.args.i width c.if-i-self.true (omega arith)) in
    rw (← c.self.view_is) (c.as_slice.ensures.value
    ∙ c.self.invariant.zeros_are
    ∙ sym (row_of count width c.args.i (c.args.i * width) (filled (count * width) cells) lt refl ∙ filled_none (count * width) (c.args.i * width) width cells past (row_end count width c.args.i lt)))

pub returns-then-i-self-clause-few : goal.returns-then-i-self-clause-few
returns-then-i-self-clause-few c =
    let lt = rw (← c.self.view_is, length-rows_of) at c.requires in
    omega (arith, lt, c.self.invariant.few)

pub slice_bounds-result-end : goal.slice_bounds-result-end
slice_bounds-result-end c = omega (arith, row_end c.self.inside.written c.self.inside.width c.args.i c.if-i-self.false, c.self.invariant.each, ap length c.deref.ensures.value)

pub returns-clause-value : goal.returns-clause-value
returns-clause-value c =
    let count = c.self.inside.count in
    let width = c.self.inside.width in
    let cells = c.self.inside.cells.items in
    let lt = rw (← c.self.view_is, length-rows_of) at c.requires in
    let same : c.args.i * width + width - c.args.i * width ≡ width = omega arith in
    let end : c.args.i * width + width ≤ length cells = omega (arith, row_end c.self.inside.written width c.args.i c.if-i-self.false, c.self.invariant.each) in
    rw (same, c.deref.ensures.value, ← c.self.view_is) (sym (row_of count width c.args.i (c.args.i * width) (filled (count * width) cells) lt refl ∙ filled_row (count * width) (c.args.i * width) width cells end))

pub returns-clause-wide : goal.returns-clause-wide
returns-clause-wide c =
    let width = c.self.inside.width in
    let cells = c.self.inside.cells.items in
    let same : c.args.i * width + width - c.args.i * width ≡ width = omega arith in
    let end : c.args.i * width + width ≤ length cells = omega (arith, row_end c.self.inside.written width c.args.i c.if-i-self.false, c.self.invariant.each) in
    rw (same, c.deref.ensures.value, ← c.self.view_is) (length-take-le width (drop (c.args.i * width) cells) (omega (arith, end, length-drop (c.args.i * width) cells)))

pub returns-clause-few : goal.returns-clause-few
returns-clause-few c =
    let lt = rw (← c.self.view_is, length-rows_of) at c.requires in
    omega (arith, lt, c.self.invariant.few)
