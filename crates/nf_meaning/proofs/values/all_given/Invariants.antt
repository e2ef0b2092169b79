-- the values of what was gone through
use Rattle.std.proofs.Common.{◌≡◌, [], take, map}
use Rattle.nf_base.specs.Context.{given}
use Rattle.nf_base.specs.View.{given_of}
use Rattle.nf_meaning.specs.View.{context_of, input_of}
use Rattle.nf_meaning.proofs.values.all_given.Given as goal

abbrev pub invariant-loop-g : goal.invariant-loop-g
invariant-loop-g l = l.values.items ≡ map (given (input_of l.p) (context_of [] l.context)) (map given_of (take l.g-index l.gs))
