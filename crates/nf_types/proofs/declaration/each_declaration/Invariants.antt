-- what comes of the rest of the declarations is what comes of all
use Rattle.std.proofs.Common.{◌≡◌, ◌≤◌, drop, fold}
use Rattle.nf_base.specs.Limits.{maps_in}
use Rattle.nf_types.specs.Declarations.{with_declaration, no_objects, objects_of}
use Rattle.nf_types.specs.DeclarationFaults.{declarations_faults}
use Rattle.nf_types.specs.Faults.{first}
use Rattle.nf_types.specs.Roomy.{AreRoomy}
use Rattle.nf_types.proofs.declaration.each_declaration.Given as goal

abbrev pub invariant-loop-one : goal.invariant-loop-one
invariant-loop-one l = record {
  so_far : fold with_declaration l.objects (drop l.one-index l.declarations) ≡ objects_of l.declarations;
  good : first (declarations_faults l.objects (drop l.one-index l.declarations)) ≡ first (declarations_faults no_objects l.declarations);
  maps : maps_in l.objects.chains ≤ 16;
  roomy : AreRoomy l.objects;
}
