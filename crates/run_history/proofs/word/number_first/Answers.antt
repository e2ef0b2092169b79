use Rattle.std.proofs.Common.{arith}
use Rattle.std.specs.Prelude.{decimal}
use Rattle.run_history.proofs.Words.{number_free}
use Rattle.run_history.proofs.Cutting.{no_front, other_front}
use Rattle.run_history.proofs.word.number_first.Goals as goal

pub returns-in_default : goal.returns-in_default
returns-in_default c = λ a rest h e. no_front 32 c.args.bytes.now (decimal a) rest c.in_default.ensures e

pub returns-in-None : goal.returns-in-None
returns-in-None c =
    λ a rest h e. other_front 32 c.args.bytes.now (decimal a) rest c.in-Some.word.now c.in-Some.rest.now
    (number_free 32 a (omega arith) h) c.in-Some.ensures.0 c.in-Some.ensures.1 (c.in-None.ensures a h) e
