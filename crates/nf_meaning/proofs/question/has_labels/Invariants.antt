-- what is left decides
use Rattle.std.proofs.Common.{◌≡◌, [], drop, map}
use Rattle.nf_base.specs.Context.{has_labels}
use Rattle.nf_base.specs.View.{guard_of}
use Rattle.nf_meaning.specs.View.{context_of, input_of}
use Rattle.nf_meaning.proofs.question.has_labels.Given as goal

abbrev pub invariant-loop-g : goal.invariant-loop-g
invariant-loop-g l = has_labels (input_of l.p) (context_of [] l.context) (map guard_of (drop l.g-index l.guards)) l.entry ≡ has_labels (input_of l.p) (context_of [] l.context) (map guard_of l.guards) l.entry
