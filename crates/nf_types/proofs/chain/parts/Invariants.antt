-- what comes of the rest of the parts is what comes of all
use Rattle.std.proofs.Common.{◌≡◌, ◌+◌, ◌≤◌, drop, length, fold}
use Rattle.nf_types.specs.Declarations.{with_part}
use Rattle.nf_types.specs.DeclarationFaults.{parts_faults}
use Rattle.nf_types.specs.Faults.{first}
use Rattle.nf_types.specs.Roomy.{IsRoomy}
use Rattle.nf_types.proofs.chain.parts.Given as goal

abbrev pub invariant-loop-one : goal.invariant-loop-one
invariant-loop-one l = record {
  so_far : fold with_part l.chain (drop l.one-index l.parts) ≡ fold with_part l.fn.chain l.parts;
  good : first (parts_faults l.maps l.fixed l.chain (drop l.one-index l.parts)) ≡ first (parts_faults l.maps 0 l.fn.chain l.parts);
  maps : l.maps + length l.chain.maps ≤ 16;
  fixed : l.fixed ≤ 8;
  roomy : IsRoomy l.fixed l.chain;
}
