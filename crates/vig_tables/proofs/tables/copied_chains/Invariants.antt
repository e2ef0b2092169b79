-- what was copied is the front
use Rattle.std.proofs.Common.{◌≡◌, take}
use Rattle.vig_tables.proofs.tables.copied_chains.Given as goal

abbrev pub invariant-loop-chain : goal.invariant-loop-chain
invariant-loop-chain l = l.copy ≡ take l.chain-index l.chains
