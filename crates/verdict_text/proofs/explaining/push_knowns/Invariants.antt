-- what is there, and what is still to come, are the whole
use Rattle.std.proofs.Common.{◌≡◌, ◌++◌, ◌-◌}
use Rattle.std.specs.List.{range_with_len}
use Rattle.nf_base.specs.Functions.{function_of}
use Rattle.verdict_text.specs.Objects.{knowns_text}
use Rattle.verdict_text.proofs.explaining.push_knowns.Given as goal

abbrev pub invariant-loop-label : goal.invariant-loop-label
invariant-loop-label l = l.out.items ++ knowns_text (function_of l.func) l.site (range_with_len l.label (l.count - l.label)) ≡ l.initial.out.items ++ knowns_text (function_of l.func) l.site (range_with_len 0 l.count)
