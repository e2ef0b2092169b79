-- those of the values so far
use Rattle.std.proofs.Common.{take}
use Rattle.std.specs.List.{flat_map}
use Rattle.nf_base.specs.declared.expr.Guard as guard
use Rattle.nf_base.specs.View.{expression_of}
use Rattle.nf_sites.specs.Sites.{expression_sites}
use Rattle.access_keys.specs.Shown.{Puts}
use Rattle.access_keys.proofs.access.put_guards.Given as goal

abbrev pub invariant-loop-one : goal.invariant-loop-one
invariant-loop-one l =
    Puts l.here l.fn.sites.items l.sites.items (flat_map (λ (g : guard.Guard). expression_sites l.here.door (expression_of g.given.value)) (take l.one-index l.guards))
