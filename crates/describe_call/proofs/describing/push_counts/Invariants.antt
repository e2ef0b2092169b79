-- what is there, and what is still to come, are the whole
use Rattle.std.proofs.Common.{◌≡◌, ◌++◌, drop}
use Rattle.describe_call.specs.Describing.{counts_text}
use Rattle.describe_call.proofs.describing.push_counts.Given as goal

abbrev pub invariant-loop-count : goal.invariant-loop-count
invariant-loop-count l = l.text.items ++ counts_text (drop l.count-index l.counts) ≡ l.initial.text.items ++ counts_text l.counts
