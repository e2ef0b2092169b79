-- those so far are copied
use Rattle.std.proofs.Common.{◌≡◌, take, map}
use Rattle.vig_tables.specs.Table.{Table}
use Rattle.vig_tables.proofs.tables.states.Given as goal

abbrev pub invariant-loop-chain : goal.invariant-loop-chain
invariant-loop-chain l = l.states ≡ map (λ (t : Table). t.chain) (take l.chain-index l.chains)
