use Rattle.std.proofs.Common.{◌≡◌, ◌∙◌, ℕ, List, Ok, Err, slice_get, Some, ap, sym, subst, arith}
use Rattle.nf_base.specs.Doors.{six_ports}
use Rattle.nf_base.specs.Functions.{function_of}
use Rattle.call_base.specs.declared.status.Halt.{Halt}
use Rattle.call_base.specs.Outside.{seen}
use Rattle.call_base.specs.Reading.{HasOpened, ReadsTo}
use Rattle.call_base.proofs.Reading.{has_fed, is_unfed}
use Rattle.call_base.proofs.inputs.start_feed.Goals as goal

pub start-requires-clause-apart : goal.start-requires-clause-apart
start-requires-clause-apart g c =
    let there = λ (k f : ℕ) (e : slice_get c.as_slice.result.now k ≡ Some f). c.requires.from k f (ap (λ (fs : List ℕ). slice_get fs k) (sym c.as_slice.ensures.value) ∙ e) in
    λ i j f f' e e' apart is. apart (omega (arith, (there i f e).0, (there j f' e').0, is))

pub returns-in-Ok-clause-fresh : goal.returns-in-Ok-clause-fresh
returns-in-Ok-clause-fresh g c =
    let starts = c.in-Ok.ensures.starts in
    record { files = starts.1 ∙ c.as_slice.ensures.value; six = starts.3; most = starts.2; new = sym starts.0.count }

pub returns-in-Ok-clause-reads : goal.returns-in-Ok-clause-reads
returns-in-Ok-clause-reads g c = λ reads before most two opened.
    let starts = c.in-Ok.ensures.starts in
    let a = seen (g.F.Files.told c.args.files.now) (g.F.Files.counted c.args.files.now) in
    let b = seen (g.F.Files.told c.start.new.files) (g.F.Files.counted c.start.new.files) in
    has_fed reads (function_of c.args.func.now) before a b c.as_slice.result.now c.args.captures.items c.args.most c.in-Ok.feed c.as_slice.ensures.value most opened starts.0 c.in-Ok.ensures.by_port c.start.ensures.kept c.in-Ok.ensures.cause
    (record { files = starts.1 ∙ c.as_slice.ensures.value; six = starts.3; most = starts.2; new = sym starts.0.count })

pub returns-in-Err-clause-reads : goal.returns-in-Err-clause-reads
returns-in-Err-clause-reads g c = λ reads before most two opened.
    let f = function_of c.args.func.now in
    let a = seen (g.F.Files.told c.args.files.now) (g.F.Files.counted c.args.files.now) in
    let b = seen (g.F.Files.told c.start.new.files) (g.F.Files.counted c.start.new.files) in
    subst (λ (h : Halt). ReadsTo reads f before b (Err h)) (sym c.unfed.ensures)
    (is_unfed reads f before a b c.as_slice.result.now (six_ports f) c.args.most c.in-Err.fault two (subst (λ (fs : List ℕ). HasOpened reads before a fs) (sym c.as_slice.ensures.value) opened) c.in-Err.ensures.starts c.start.ensures.kept c.in-Err.ensures.cause)
