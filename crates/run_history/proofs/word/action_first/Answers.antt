use Rattle.run_history.specs.Line.{action_word}
use Rattle.run_history.proofs.Words.{action_free}
use Rattle.run_history.proofs.Cutting.{no_front, other_front}
use Rattle.run_history.proofs.word.action_first.Goals as goal

pub returns-in_default : goal.returns-in_default
returns-in_default c = λ a rest h e. no_front 32 c.args.bytes.now (action_word a) rest c.in_default.ensures e

pub returns-in-None : goal.returns-in-None
returns-in-None c =
    λ a rest h e. other_front 32 c.args.bytes.now (action_word a) rest c.in-Some.word.now c.in-Some.rest.now
    (action_free a h) c.in-Some.ensures.0 c.in-Some.ensures.1 (c.in-None.ensures a h) e
