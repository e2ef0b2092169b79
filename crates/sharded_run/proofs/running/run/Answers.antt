use Rattle.std.proofs.Common.{◌∙◌, ℕ, List, length, ap, subst}
use Rattle.nf_base.specs.Functions.{function_of}
use Rattle.run_history.specs.declared.line.Mode.TheVariants.{Shard}
use Rattle.stream_run.specs.Texts.{head}
use Rattle.stream_run.proofs.Complete.{heads_held}
use Rattle.sharded_run.specs.Lawful.{Runs}
use Rattle.sharded_run.proofs.Begun.{halts_none}
use Rattle.sharded_run.proofs.Complete.{counted, cut_short_at}
use Rattle.sharded_run.proofs.running.run.Goals as goal

pub returns-in-Err-clause-runs : goal.returns-in-Err-clause-runs
returns-in-Err-clause-runs g c =
    let told = g.F.Files.told in
    let n = length c.args.func.now.handlers in
    cut_short_at (function_of c.args.func.now) n c.args.keys.now c.args.workers c.args.card c.args.format c.args.feed.now (told c.args.files.now) (told c.args.files.now) c.args.targets.now (counted c.args.func.now)
    (halts_none (function_of c.args.func.now) c.args.keys.now c.args.workers c.args.card c.args.format n c.args.feed.now (told c.args.files.now) c.args.targets.now c.requires.targets.empty)

pub stream-requires-clause-heads : goal.stream-requires-clause-heads
stream-requires-clause-heads g c = λ κs lives.
    let told = g.F.Files.told in
    let n = length c.args.func.now.handlers in (
      c.args.card,
      c.args.format,
      heads_held Shard c.args.workers c.args.card c.args.format n (told c.args.files.now) c.in-Ok.sinks c.args.targets.now c.in-Ok.ensures.files
          (λ k s e. let first = c.in-Ok.ensures.heads k s e in (first.0, first.1 ∙ ap (λ (m : ℕ). head Shard c.args.workers c.args.card c.args.format m k) c.len-ports.ensures.value)) c.requires.targets.empty,
    )

pub returns-clause-runs : goal.returns-clause-runs
returns-clause-runs g c =
    let told = g.F.Files.told in
    let n = length c.args.func.now.handlers in
    let heads = heads_held Shard c.args.workers c.args.card c.args.format n (told c.args.files.now) c.in-Ok.sinks c.args.targets.now c.in-Ok.ensures.files
    (λ k s e. let first = c.in-Ok.ensures.heads k s e in (first.0, first.1 ∙ ap (λ (m : ℕ). head Shard c.args.workers c.args.card c.args.format m k) c.len-ports.ensures.value)) c.requires.targets.empty in
    subst (λ (fs : List ℕ). Runs (function_of c.args.func.now) c.args.keys.now c.args.workers c.args.card c.args.format c.args.feed.now (told c.args.files.now) c.stream.new.feed (told c.stream.new.files) fs c.stream.result)
    c.in-Ok.ensures.files (c.stream.ensures.runs c.args.card c.args.format heads)
