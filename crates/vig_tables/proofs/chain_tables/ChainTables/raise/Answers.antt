use Rattle.vig_tables.proofs.Changing.{raised_joined}
use Rattle.vig_tables.proofs.chain_tables.ChainTables.raise.Goals as goal

pub invariant_of-self : goal.invariant_of-self
invariant_of-self c = rw c.raise.ensures (record { joined = raised_joined _ _ _ _ _ c.args.stamp c.self.invariant.joined; tagged = c.self.invariant.tagged })
