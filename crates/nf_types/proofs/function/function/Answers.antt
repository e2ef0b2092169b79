-- A text in which nothing is wrong stands for a function whose keys are short and whose handlers fit its chains.
use Rattle.std.proofs.Common.{subst, sym}
use Rattle.std.specs.Prelude.{List, All}
use Rattle.std.specs.List.{flat_map}
use Rattle.nf_base.specs.Text.{PortBlocks}
use Rattle.nf_base.specs.Doors.{port_blocks}
use Rattle.nf_base.specs.FitsOnce.{AllFit}
use Rattle.nf_base.specs.Limits.{HaveAllShortKeys}
use Rattle.nf_types.specs.declared.objects.Objects.{Objects}
use Rattle.nf_types.proofs.First.{front_none}
use Rattle.nf_types.proofs.Sized.{IsSized, all_sized, all_short}
use Rattle.nf_types.proofs.Fitting.{all_fit}
use Rattle.nf_types.proofs.function.function.Goals as goal

pub invariant_of-result-clause-keys : goal.invariant_of-result-clause-keys
invariant_of-result-clause-keys c =
    let found = c.in_ok-objects.ensures.found in
    subst (λ (o : Objects). HaveAllShortKeys o.chains) (sym found.1) (all_short c.as_slice.result.now found.0)

pub invariant_of-result-clause-fits : goal.invariant_of-result-clause-fits
invariant_of-result-clause-fits c =
    let found = c.in_ok-objects.ensures.found in
    let all = subst (λ (o : Objects). All IsSized o.chains) (sym found.1) (all_sized c.as_slice.result.now found.0) in
    let none = front_none _ _ c.in_ok-handlers.ensures.fault in
    subst (λ (hs : List PortBlocks). AllFit c.in_ok-objects.objects.chains (flat_map port_blocks hs)) (sym c.in_ok-handlers-2.ensures.found) (all_fit _ _ _ _ all none)
