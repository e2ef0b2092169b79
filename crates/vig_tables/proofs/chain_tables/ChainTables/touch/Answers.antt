use Rattle.vig_tables.proofs.Reading.{stamped, unstamped}
use Rattle.vig_tables.proofs.Changing.{touched_joined, touched_is, not_touched}
use Rattle.vig_tables.proofs.chain_tables.ChainTables.touch.Goals as goal

pub invariant_of-self : goal.invariant_of-self
invariant_of-self c =
    let at = stamped c.self.inside.chain c.args.i c.stamp.result c.is_some.result c.stamp.ensures.value c.is_some.ensures c.if-is_some.true in
    rw c.touch.ensures (record { joined = touched_joined _ _ _ _ _ _ c.args.i at.0 c.self.invariant.joined at.1; tagged = c.self.invariant.tagged })

pub returns-then-is_some : goal.returns-then-is_some
returns-then-is_some c =
    let at = stamped c.self.inside.chain c.args.i c.stamp.result c.is_some.result c.stamp.ensures.value c.is_some.ensures c.if-is_some.true in
    rw (← c.self.view_is, c.touch.ensures) (touched_is _ _ _ _ _ c.args.time c.args.i at.0 c.self.invariant.joined at.1)

pub returns-else-is_some : goal.returns-else-is_some
returns-else-is_some c =
    let none = unstamped c.self.inside.chain c.args.i c.stamp.result c.is_some.result c.stamp.ensures.value c.is_some.ensures c.if-is_some.false in
    rw (← c.self.view_is) (not_touched _ _ _ _ _ c.args.time c.args.i c.self.invariant.joined none)
