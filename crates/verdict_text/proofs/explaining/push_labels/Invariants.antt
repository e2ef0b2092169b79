-- what is there, and what is still to come, are the whole
use Rattle.std.proofs.Common.{◌≡◌, ◌++◌, drop}
use Rattle.nf_base.specs.Functions.{function_of}
use Rattle.verdict_text.specs.Objects.{labels_text}
use Rattle.verdict_text.proofs.explaining.push_labels.Given as goal

abbrev pub invariant-loop-label : goal.invariant-loop-label
invariant-loop-label l = l.out.items ++ labels_text (function_of l.func) l.object (drop l.label-index l.labels) ≡ l.initial.out.items ++ labels_text (function_of l.func) l.object l.labels
