-- those so far are made
use Rattle.std.proofs.Common.{◌≡◌, take, map}
use Rattle.nf_base.specs.declared.decl.ChainDecl.{ChainDecl}
use Rattle.vig_tables.specs.Table.{opened}
use Rattle.vig_tables.proofs.tables.new_chains.Given as goal

abbrev pub invariant-loop-decl : goal.invariant-loop-decl
invariant-loop-decl l = l.chains ≡ map (λ (decl : ChainDecl). opened decl l.share) (take l.decl-index l.decls)
