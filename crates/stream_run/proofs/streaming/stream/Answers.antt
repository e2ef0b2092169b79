use Rattle.std.proofs.Common.{ℕ, [], length, refl, sym, subst}
use Rattle.nf_base.specs.Functions.{function_of}
use Rattle.nf_base.specs.declared.func.Func.{Func}
use Rattle.nf_base.specs.declared.state.State.{State}
use Rattle.run_history.specs.declared.line.Mode.TheVariants.{One}
use Rattle.stream_run.specs.Lawful.{Finishes}
use Rattle.stream_run.specs.Streaming.{Halts}
use Rattle.stream_run.specs.Writing.{files_of, AreHeld}
use Rattle.stream_run.specs.declared.fault.RunFault.TheVariants.{Memory}
use Rattle.stream_run.proofs.Held.{but_none}
use Rattle.stream_run.proofs.Went.{went_ok, went_err, went_memory}
use Rattle.stream_run.proofs.Complete.{halts_begun, halts_whole}
use Rattle.stream_run.proofs.streaming.stream.Goals as goal

pub returns-in-Err-clause-streams : goal.returns-in-Err-clause-streams
returns-in-Err-clause-streams g c = λ card format heads.
    halts_begun (function_of c.args.func.now) card format (length c.args.func.now.handlers) c.args.feed.now (g.F.Files.told c.args.files.now) c.args.sinks.now heads

pub returns-in-Err-of-clause-streams : goal.returns-in-Err-of-clause-streams
returns-in-Err-of-clause-streams g c = λ card format heads.
    halts_begun (function_of c.args.func.now) card format (length c.args.func.now.handlers) c.args.feed.now (g.F.Files.told c.args.files.now) c.args.sinks.now heads

pub returns-in-Err-flow-clause-streams : goal.returns-in-Err-flow-clause-streams
returns-in-Err-flow-clause-streams g c = λ card format heads.
    let told = g.F.Files.told in
    subst (λ (f : Func). AreHeld One 1 card format (length f.handlers) [] (told c.args.files.now) c.args.sinks.now
    → Halts (function_of f) card format (length f.handlers) c.args.feed.now (told c.args.files.now) (told c.flow.new.files) (files_of c.args.sinks.now))
    c.in-Ok-of.ensures (c.in-Err-flow.ensures.flows card format) heads

pub returns-in-Ok-state-clause-streams : goal.returns-in-Ok-state-clause-streams
returns-in-Ok-state-clause-streams g c = λ card format heads.
    let told = g.F.Files.told in
    let whole = subst (λ (f : Func). AreHeld One 1 card format (length f.handlers) [] (told c.args.files.now) c.args.sinks.now
    → Finishes (function_of f) card format (length f.handlers) c.args.feed.now (told c.args.files.now) c.flow.new.feed (told c.flow.new.files) (files_of c.args.sinks.now) c.in-Ok-flow.ending c.flow.new.feed.given c.flow.new.tables.state)
    c.in-Ok-of.ensures (c.in-Ok-flow.ensures.flows card format) heads in
    subst (λ (n : ℕ). Finishes (function_of c.args.func.now) card format (length c.args.func.now.handlers) c.args.feed.now (told c.args.files.now) c.flow.new.feed (told c.flow.new.files) (files_of c.args.sinks.now) c.in-Ok-flow.ending n c.in-Ok-state.state)
    (sym c.given.ensures)
    (subst (λ (left : State). Finishes (function_of c.args.func.now) card format (length c.args.func.now.handlers) c.args.feed.now (told c.args.files.now) c.flow.new.feed (told c.flow.new.files) (files_of c.args.sinks.now) c.in-Ok-flow.ending c.flow.new.feed.given left)
    (sym c.in-Ok-state.ensures) whole)

pub returns-in-Err-clause-went : goal.returns-in-Err-clause-went
returns-in-Err-clause-went g c = record { kept = but_none (files_of c.args.sinks.now) (g.F.Files.told c.args.files.now); cause = refl; among = tt }

-- the state could not be told
pub returns-clause-streams : goal.returns-clause-streams
returns-clause-streams g c = λ card format heads.
    let told = g.F.Files.told in
    halts_whole (function_of c.args.func.now) card format (length c.args.func.now.handlers) c.args.feed.now (told c.args.files.now) c.flow.new.feed (told c.flow.new.files) (files_of c.args.sinks.now)
    c.in-Ok-flow.ending c.flow.new.feed.given c.flow.new.tables.state
    (subst (λ (f : Func). AreHeld One 1 card format (length f.handlers) [] (told c.args.files.now) c.args.sinks.now
    → Finishes (function_of f) card format (length f.handlers) c.args.feed.now (told c.args.files.now) c.flow.new.feed (told c.flow.new.files) (files_of c.args.sinks.now) c.in-Ok-flow.ending c.flow.new.feed.given c.flow.new.tables.state)
    c.in-Ok-of.ensures (c.in-Ok-flow.ensures.flows card format) heads)

pub returns-in-Err-of-clause-went : goal.returns-in-Err-of-clause-went
returns-in-Err-of-clause-went g c = record { kept = but_none (files_of c.args.sinks.now) (g.F.Files.told c.args.files.now); cause = refl; among = tt }

pub returns-in-Err-flow-clause-went : goal.returns-in-Err-flow-clause-went
returns-in-Err-flow-clause-went g c = went_err c.args.captures.now _ _ _ _ _ c.in-Err-flow.stop c.in-Err-flow.ensures.went

pub returns-in-Ok-state-clause-went : goal.returns-in-Ok-state-clause-went
returns-in-Ok-state-clause-went g c = went_ok c.args.captures.now _ _ _ _ _ c.in-Ok-flow.ending _ c.in-Ok-flow.ensures.went

pub returns-clause-went : goal.returns-clause-went
returns-clause-went g c = went_memory c.args.captures.now _ _ _ _ _ c.in-Ok-flow.ending Memory refl c.in-Ok-flow.ensures.went
