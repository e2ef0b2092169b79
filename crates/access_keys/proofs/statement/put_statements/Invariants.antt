-- those of the statements so far
use Rattle.std.proofs.Common.{take}
use Rattle.std.specs.List.{flat_map}
use Rattle.nf_base.specs.declared.block.Block as block
use Rattle.nf_sites.specs.Sites.{statement_sites}
use Rattle.path_walk.specs.Order.{head_seen}
use Rattle.access_keys.specs.Shown.{Puts}
use denote.Ref.{Bor}
use Rattle.access_keys.proofs.statement.put_statements.Given as goal

abbrev pub invariant-loop-one : goal.invariant-loop-one
invariant-loop-one l =
    Puts l.here l.fn.sites.items l.sites.items
    (flat_map (λ (b : Bor block.Block). statement_sites l.here.decls.now l.here.door (head_seen b)) (take l.one-index l.statements))
