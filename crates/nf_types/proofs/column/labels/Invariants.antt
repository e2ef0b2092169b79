-- what comes of the rest of the labels is what comes of all
use Rattle.std.proofs.Common.{◌≡◌, ◌+◌, ◌≤◌, drop, length, fold}
use Rattle.nf_types.specs.Declarations.{with_label_of}
use Rattle.nf_types.specs.DeclarationFaults.{labels_faults}
use Rattle.nf_types.specs.Faults.{first}
use Rattle.nf_types.proofs.column.labels.Given as goal

abbrev pub invariant-loop-i : goal.invariant-loop-i
invariant-loop-i l = record {
  so_far : fold with_label_of l.chain (drop l.i l.labels) ≡ fold with_label_of l.fn.chain l.labels;
  good : first (labels_faults l.chain l.i (drop l.i l.labels)) ≡ first (labels_faults l.fn.chain 0 l.labels);
  few : l.i ≤ 8;
  labels : length l.chain.labels ≡ length l.fn.chain.labels + l.i;
  order : length l.chain.order ≡ length l.fn.chain.order + l.i;
  columns : l.chain.columns ≡ l.fn.chain.columns;
  maps : l.chain.maps ≡ l.fn.chain.maps;
}
