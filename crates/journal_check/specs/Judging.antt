-- Which lines of a journal are right: each tells a packet's step.
use Rattle.std.specs.Prelude.{◌≡◌, ℕ, ◌%◌, Option, Some, None}
use Rattle.nf_base.specs.declared.packet.Packet.{Packet}
use Rattle.nf_base.specs.declared.state.State.{State}
use Rattle.nf_base.specs.declared.done.Done.{Done}
use Rattle.nf_base.specs.Text.{Function}
use Rattle.nf_base.specs.Runs.{Handling}
use Rattle.nf_base.specs.Step.{StepResult, step}
use Rattle.run_history.specs.declared.line.Mode.{Mode}
use Rattle.run_history.specs.declared.line.Mode.TheVariants.{One, Shard, Lock}
use Rattle.run_history.specs.declared.line.JournalLine.{JournalLine}
use Rattle.run_history.specs.declared.line.JournalLine.TheVariants as line
use Rattle.run_history.specs.Headings.{Heading}
use Rattle.shard_laws.specs.Rule.{KeepsToQueue}
use Rattle.vig_tables.specs.TablesState.{TablesState}

-- who handles a packet: in mode `shard` the worker of its queue, in mode `lock` that of its port
abbrev pub worker_by : Mode → ℕ → ℕ → ℕ → ℕ
worker_by One workers queue port = 0
worker_by Shard workers queue port = queue
worker_by Lock workers queue port = port % workers

abbrev pub worker_of : Heading → ℕ → ℕ → ℕ
worker_of heading queue port = worker_by heading.mode heading.workers queue port

-- the port that a packet's line tells
abbrev pub port_in : JournalLine → Option ℕ
port_in (line.Header heading) = None
port_in (line.Packet id worker action picks) = Some id.port

-- a packet that was handled, and what it came to
pub record Answered : Type 0 where
  pub packet : Packet
  pub done : Done

-- its line: which it was, who handled it, where it went, and its choices
abbrev pub line_of : Heading → ℕ → Answered → JournalLine
line_of heading queue a =
    line.Packet a.packet.id (worker_of heading queue a.packet.id.port) a.done.action a.done.picks

-- what is asked beside that the choices are legal: in mode `shard` the rule of shares
abbrev pub IsRuled : Mode → ℕ → ℕ → Function → State → Handling → Type 0
IsRuled One workers queue f s h = Unit {0}
IsRuled Shard workers queue f s h = KeepsToQueue workers queue f s h
IsRuled Lock workers queue f s h = Unit {0}

-- a packet of a queue has its step at a state, and what the mode asks for holds
pub record Steps (f : Function) (heading : Heading) (queue : ℕ) (s : State) (p : Packet) (next : StepResult) : Type 0 where
  pub ruled : IsRuled heading.mode heading.workers queue f s (record { packet = p; choices = next.done.picks })
  pub steps : step f s p next.done.picks ≡ Some next

-- a judge: the tables that the packets so far were handled on, and the first line
pub record Judging : Type 0 where
  pub tables : TablesState
  pub heading : Heading
