-- what is left to expire was to expire before, and each time there are fewer entries
use Rattle.std.proofs.Common.{◌≡◌}
use Rattle.vig_tables.specs.Slots.{live}
use Rattle.vig_tables.specs.Table.{without_past}
use Rattle.vig_tables.proofs.chain_tables.ChainTables.expire_past.Given as goal

abbrev pub invariant-past : goal.invariant-past
invariant-past l = without_past l.time l.self ≡ without_past l.time l.initial.self

abbrev pub decreases-past : goal.decreases-past
decreases-past l = live l.self.chain.slots
