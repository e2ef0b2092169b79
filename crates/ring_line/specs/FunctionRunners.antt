-- With what a worker handles, and what a packet comes to.
use Rattle.std.specs.Prelude.{◌≡◌, ℕ, Result, Ok, Err, IfSome}
use Rattle.nf_base.specs.declared.func.Func.{Func}
use Rattle.nf_base.specs.declared.done.Action.{Action}
use Rattle.nf_base.specs.declared.done.Action.TheVariants as action
use Rattle.nf_base.specs.Functions.{function_of}
use Rattle.nf_engine.specs.declared.context.Context.{Context}
use Rattle.nf_engine.specs.Handlings.{done_of}
use Rattle.nf_engine.specs.declared.context.Outcome.{Outcome}
use Rattle.nf_engine.specs.declared.context.Outcome.TheVariants as outcome
use Rattle.nf_engine.specs.declared.handling.Handled.{Handled}
use Rattle.nf_engine.specs.declared.handling.Handled.TheVariants as handled
use Rattle.ring_line.specs.declared.runner.FunctionRunner.{FunctionRunner}

-- it handles by this function, of a text of its own
abbrev pub IsFunctionRunnerOf : FunctionRunner → Func → Type 0
IsFunctionRunnerOf runner func =
    IfSome runner.ready (λ (f : Func). function_of f ≡ function_of func)

-- an action, or the chain whose share has no index left
abbrev pub told : Outcome → Result Action ℕ
told outcome.Drop = Ok action.Drop
told outcome.Flood = Ok action.Flood
told (outcome.To port) = Ok (action.To port)
told (outcome.ShareFull chain) = Err chain

-- the same with what a context has
abbrev pub come_to : Context → Result Action ℕ → Handled
come_to c (Ok a) = handled.Done (done_of a c)
come_to c (Err chain) = handled.ShareFull chain
