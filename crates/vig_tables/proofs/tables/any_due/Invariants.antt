-- what is left decides
use Rattle.std.proofs.Common.{◌≡◌, drop, map}
use Rattle.nf_base.specs.Chains.{all_none_due, lifetime_of}
use Rattle.vig_tables.specs.Table.{Table}
use Rattle.vig_tables.proofs.tables.any_due.Given as goal

abbrev pub invariant-loop-chain : goal.invariant-loop-chain
invariant-loop-chain l =
    all_none_due l.time (lifetime_of (map (λ (t : Table). t.decl) (drop l.chain-index l.chains))) (map (λ (t : Table). t.chain) (drop l.chain-index l.chains))
    ≡ all_none_due l.time (lifetime_of (map (λ (t : Table). t.decl) l.chains)) (map (λ (t : Table). t.chain) l.chains)
