-- what is left decides
use Rattle.std.proofs.Common.{◌≡◌, drop}
use Rattle.vig_tables.specs.TablesState.{index_over, decls_of, chains_of}
use Rattle.vig_tables.proofs.tables.lookup.Given as goal

abbrev pub invariant-loop-chain : goal.invariant-loop-chain
invariant-loop-chain l =
    index_over (decls_of (drop l.chain-index l.chains)) (chains_of (drop l.chain-index l.chains)) l.left l.key
    ≡ index_over (decls_of l.chains) (chains_of l.chains) l.map l.key
