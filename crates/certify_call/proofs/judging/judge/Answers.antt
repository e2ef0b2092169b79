use Rattle.nf_base.specs.Functions.{function_of}
use Rattle.command_words.specs.View as view
use Rattle.call_base.specs.Outside.{Outside, seen}
use Rattle.certify_call.proofs.Outcomes.{unjudged}
use Rattle.certify_call.proofs.judging.judge.Goals as goal

pub returns-in-Ok : goal.returns-in-Ok
returns-in-Ok g c =
    let a : Outside = seen (g.F.Files.told c.args.files.now) (g.F.Files.counted c.args.files.now) in
    let b : Outside = seen (g.F.Files.told c.read_function.new.files) (g.F.Files.counted c.read_function.new.files) in
    let d : Outside = seen (g.F.Files.told c.judge_under.new.files) (g.F.Files.counted c.judge_under.new.files) in
    unjudged (view.certify c.args.command.now) a b d (function_of c.in-Ok.found.source.func) c.in-Err-judge_under.stop
    c.in-Ok.ensures.finds.is_function c.read_function.ensures.untouched c.in-Ok.ensures.next c.in-Ok.ensures.cause c.in-Err-judge_under.ensures
