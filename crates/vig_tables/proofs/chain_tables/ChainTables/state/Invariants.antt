-- the front was copied
use Rattle.std.proofs.Common.{◌≡◌, take}
use Rattle.vig_tables.proofs.chain_tables.ChainTables.state.Given as goal

abbrev pub invariant-loop-i : goal.invariant-loop-i
invariant-loop-i l = l.slots.items ≡ take l.i l.self.chain.slots
