use Rattle.std.proofs.Common.{◌∙◌, sym}
use Rattle.vig_tables.proofs.Reading.{stamped, unstamped, rows_within}
use Rattle.vig_tables.proofs.Changing.{written_joined, columns_written, no_columns_written}
use Rattle.vig_tables.proofs.chain_tables.ChainTables.set_columns.Goals as goal

pub set_row-requires-clause-within : goal.set_row-requires-clause-within
set_row-requires-clause-within c =
    let at = stamped c.self.inside.chain c.args.i c.stamp.result c.is_some.result c.stamp.ensures.value c.is_some.ensures c.if-is_some.true in
    (rows_within _ _ _ _ _ c.args.i at.0 c.self.invariant.joined at.1).1

pub set_row-requires-clause-wide : goal.set_row-requires-clause-wide
set_row-requires-clause-wide c = rw (← c.self.view_is) at c.requires ∙ sym c.self.invariant.joined.column_width

pub invariant_of-self : goal.invariant_of-self
invariant_of-self c =
    let at = stamped c.self.inside.chain c.args.i c.stamp.result c.is_some.result c.stamp.ensures.value c.is_some.ensures c.if-is_some.true in
    rw c.set_row.ensures (record { joined = written_joined _ _ _ _ _ c.args.i at.0 _ c.self.invariant.joined at.1; tagged = c.self.invariant.tagged })

pub returns-then-is_some : goal.returns-then-is_some
returns-then-is_some c =
    let at = stamped c.self.inside.chain c.args.i c.stamp.result c.is_some.result c.stamp.ensures.value c.is_some.ensures c.if-is_some.true in
    rw (← c.self.view_is, c.set_row.ensures) (columns_written _ _ _ _ _ c.args.i at.0 c.args.columns.now c.self.invariant.joined at.1)

pub returns-else-is_some : goal.returns-else-is_some
returns-else-is_some c =
    let none = unstamped c.self.inside.chain c.args.i c.stamp.result c.is_some.result c.stamp.ensures.value c.is_some.ensures c.if-is_some.false in
    rw (← c.self.view_is) (no_columns_written _ _ _ _ _ c.args.i c.args.columns.now c.self.invariant.joined none)
