-- What the interpreter's own values stand for, beside the tables.
use Rattle.std.specs.Prelude.{ℕ, List, [], map}
use Rattle.nf_base.specs.declared.decl.ChainDecl.{ChainDecl}
use Rattle.nf_base.specs.declared.share.Share.{Share}
use Rattle.nf_base.specs.declared.done.Action.{Action}
use Rattle.nf_base.specs.declared.done.Action.TheVariants as action
use Rattle.nf_base.specs.Context as context
use Rattle.nf_base.specs.Course.{Completion, Normal, Ended}
use Rattle.nf_base.specs.Text.{Given}
use Rattle.vig_tables.specs.TablesState.{TablesState}
use Rattle.nf_engine.specs.declared.context.Context.{Context}
use Rattle.nf_engine.specs.Input.{Input}
use Rattle.nf_engine.specs.declared.context.Flow.{Flow}
use Rattle.nf_engine.specs.declared.context.Flow.TheVariants.{Falls, Drop, Flood, To}
use Rattle.nf_engine.specs.declared.context.BlockResult.{BlockResult}
use Rattle.nf_engine.specs.declared.context.BlockResult.TheVariants as went

-- a handler in its context, where these choices are left
abbrev pub context_of : TablesState → List ℕ → Context → context.Context
context_of t left c = record { state = t.state; vars = c.vars; edits = c.edits; left = left }

-- what a packet is to its handler
abbrev pub input_of : Input → context.Input
input_of p = record { decls = p.decls; ports = p.ports; time = p.time; fields = p.fields }

-- the values that a handler gives
abbrev pub all_given : Input → TablesState → Context → List Given → List ℕ
all_given p t c gs = map (context.given (input_of p) (context_of t [] c)) gs

-- what no call changes of tables: the declarations of their chains, and their share
pub record Fixed : Type 0 where
  pub decls : List ChainDecl
  pub share : Share

-- the same of some tables
abbrev pub fixed_of : TablesState → Fixed
fixed_of t = record { decls = t.decls; share = t.share }

-- the same, as a handler is told it
abbrev pub fixed_in : Input → Fixed
fixed_in p = record { decls = p.decls; share = p.share }

-- how a block completes that went so, in the context that it left
abbrev pub completion_of : Flow → context.Context → Completion
completion_of Falls c = Normal c
completion_of Drop c = Ended action.Drop c
completion_of Flood c = Ended action.Flood c
completion_of (To port) c = Ended (action.To port) c

-- a handler that falls off its end drops its packet
abbrev pub action_of : Flow → Action
action_of Falls = action.Drop
action_of Drop = action.Drop
action_of Flood = action.Flood
action_of (To port) = action.To port

-- a block that came to its end, as one of all
abbrev pub went_of : Flow → BlockResult
went_of Falls = went.Falls
went_of Drop = went.Drop
went_of Flood = went.Flood
went_of (To port) = went.To port
