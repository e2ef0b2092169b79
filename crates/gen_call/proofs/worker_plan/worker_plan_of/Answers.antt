use Rattle.nf_base.specs.Functions.{function_of}
use Rattle.command_words.specs.View as view
use Rattle.gen_call.proofs.worker_plan.worker_plan_of.Goals as goal

pub returns-then-several-2 : goal.returns-then-several-2
returns-then-several-2 c = record { serves = c.or_halt.ensures.serves (view.gen c.args.command.now) (function_of c.args.func.now) c.several_by.ensures.serves }

pub returns-else-several-2 : goal.returns-else-several-2
returns-else-several-2 c =
    record { serves = c.or_halt-else-several-2.ensures.serves (view.gen c.args.command.now) (function_of c.args.func.now) c.one_by.ensures.serves }
