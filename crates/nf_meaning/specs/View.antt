-- What the interpreter's own values stand for.
use Rattle.std.specs.Prelude.{ℕ, List}
use Rattle.nf_base.specs.Context as context
use Rattle.nf_base.specs.Course.{Completion, Normal, Ended}
use Rattle.nf_base.specs.declared.done.Action.{Action}
use Rattle.nf_base.specs.declared.done.Action.TheVariants.{Drop}
use Rattle.nf_meaning.specs.declared.context.Context.{Context}
use Rattle.nf_meaning.specs.declared.context.Input.{Input}
use Rattle.nf_meaning.specs.declared.context.Flow.{Flow}
use Rattle.nf_meaning.specs.declared.context.Flow.TheVariants.{Falls, Ends}

-- a handler in its context, where these choices are left
abbrev pub context_of : List ℕ → Context → context.Context
context_of left c = record { state = c.state; vars = c.vars; edits = c.edits; left = left }

-- what a packet is to its handler
abbrev pub input_of : Input → context.Input
input_of p = record { decls = p.decls.now; ports = p.ports; time = p.time; fields = p.fields }

-- how a block completes that went so, in the context that it left
abbrev pub completion_of : Flow → context.Context → Completion
completion_of Falls c = Normal c
completion_of (Ends a) c = Ended a c

-- a handler that falls off its end drops its packet
abbrev pub action_of : Flow → Action
action_of Falls = Drop
action_of (Ends a) = a
