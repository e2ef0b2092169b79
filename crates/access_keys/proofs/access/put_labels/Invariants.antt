-- those of the values so far
use Rattle.std.proofs.Common.{take}
use Rattle.std.specs.List.{flat_map}
use denote.Ref.{Bor}
use Rattle.nf_base.specs.declared.expr.Given as given
use Rattle.nf_base.specs.View.{expression_of}
use Rattle.nf_sites.specs.Sites.{expression_sites}
use Rattle.access_keys.specs.Shown.{Puts}
use Rattle.access_keys.proofs.access.put_labels.Given as goal

abbrev pub invariant-loop-one : goal.invariant-loop-one
invariant-loop-one l =
    Puts l.here l.fn.sites.items l.sites.items (flat_map (λ (g : Bor given.Given). expression_sites l.here.door (expression_of g.now.value)) (take l.one-index l.one-items))
