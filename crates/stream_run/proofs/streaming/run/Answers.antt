use Rattle.std.proofs.Common.{◌≡◌, ◌∙◌, ℕ, List, length, refl, sym, ap, ap₂, subst}
use Rattle.std.proofs.lemmas.List.{length-map}
use Rattle.nf_base.specs.declared.func.Func.{Func}
use Rattle.nf_base.specs.Handlers.{blocks_of}
use Rattle.nf_base.specs.Functions.{function_of}
use Rattle.run_history.specs.declared.line.Mode.TheVariants.{One}
use Rattle.stream_run.specs.Texts.{head}
use Rattle.stream_run.specs.Writing.{WentOn}
use Rattle.stream_run.proofs.Held.{but_none}
use Rattle.stream_run.specs.Lawful.{Streams}
use Rattle.stream_run.proofs.Complete.{is_run_at, cut_short_at, halts_none, heads_held}
use Rattle.stream_run.proofs.streaming.run.Goals as goal

-- the ports of a function are counted by its handlers
counted : (func : Func) → length func.handlers ≡ length (function_of func).handlers
counted func = sym (length-map func.handlers blocks_of)

pub returns-in-Err-clause-runs : goal.returns-in-Err-clause-runs
returns-in-Err-clause-runs g c =
    let told = g.F.Files.told in
    let f = function_of c.args.func.now in
    let ports = ap (λ (t : List ℕ). length t) c.requires.captures.reads.files ∙ c.requires.captures.ports in
    cut_short_at f c.args.card c.args.format (length c.args.func.now.handlers) c.args.feed.now (told c.args.files.now) (told c.args.files.now) c.args.targets.now (counted c.args.func.now) ports c.requires.captures.six
    (halts_none f c.args.card c.args.format (length c.args.func.now.handlers) c.args.feed.now (told c.args.files.now) c.args.targets.now c.requires.targets.empty)

pub returns-clause-runs : goal.returns-clause-runs
returns-clause-runs g c =
    let told = g.F.Files.told in
    let f = function_of c.args.func.now in
    let ports = ap (λ (t : List ℕ). length t) c.requires.captures.reads.files ∙ c.requires.captures.ports in
    let heads = heads_held One 1 c.args.card c.args.format (length c.args.func.now.handlers) (told c.args.files.now) c.in-Ok.sinks c.args.targets.now c.in-Ok.ensures.files
    (λ k s e. let begun = c.in-Ok.ensures.heads k s e in (begun.0, begun.1 ∙ ap₂ (λ (w m : ℕ). head One w c.args.card c.args.format m k) c.new-workers.ensures c.len-ports.ensures.value)) c.requires.targets.empty in
    is_run_at f c.args.card c.args.format (length c.args.func.now.handlers) c.args.feed.now (told c.args.files.now) c.stream.new.feed (told c.stream.new.files) c.args.targets.now c.stream.result (counted c.args.func.now) ports c.requires.captures.six
    (subst (λ (fs : List ℕ). Streams f c.args.card c.args.format (length c.args.func.now.handlers) c.args.feed.now (told c.args.files.now) c.stream.new.feed (told c.stream.new.files) fs c.stream.result) c.in-Ok.ensures.files (c.stream.ensures.streams c.args.card c.args.format heads))

pub returns-in-Err-clause-went : goal.returns-in-Err-clause-went
returns-in-Err-clause-went g c = record { kept = but_none c.args.targets.now (g.F.Files.told c.args.files.now); cause = refl; among = tt }

pub returns-clause-went : goal.returns-clause-went
returns-clause-went g c =
    let told = g.F.Files.told in
    let counted = g.F.Files.counted in
    subst (λ (fs : List ℕ). WentOn c.args.captures.now fs (told c.args.files.now) (told c.stream.new.files) (counted c.args.files.now) (counted c.stream.new.files) c.stream.result) c.in-Ok.ensures.files c.stream.ensures.went
