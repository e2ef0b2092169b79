use Rattle.std.proofs.Common.{◌∙◌, ℕ, List, length, ap}
use Rattle.std.specs.List.{slice_get}
use Rattle.nf_base.specs.Functions.{function_of}
use Rattle.run_history.specs.declared.line.Mode.TheVariants.{One}
use Rattle.stream_run.specs.Writing.{files_of}
use Rattle.stream_run.proofs.Went.{went_both, went_written, unwritten, still_writable}
use Rattle.stream_run.proofs.Complete.{empty_told, finishes}
use Rattle.stream_run.proofs.streaming.flow.Goals as goal

pub returns-in-Ok-flush_all-clause-flows : goal.returns-in-Ok-flush_all-clause-flows
returns-in-Ok-flush_all-clause-flows g c = λ card format heads.
    let told = g.F.Files.told in
    let f = function_of c.args.func.now in
    let ports = length c.args.func.now.handlers in
    let h = c.in-Ok.ensures.comes card format heads in
    let held = c.in-Ok-flush_all.ensures.goes_on One 1 card format ports h.reached.hs h.reached.held in
    let same = c.flush_all.ensures.same_files ∙ c.handle_all.ensures.same_files in
    finishes f card format ports c.args.feed.now (told c.args.files.now) c.handle_all.new.feed (told c.handle_all.new.files) c.handle_all.new.sinks c.handle_all.new.tables.state c.in-Ok.ending (told c.flush_all.new.files) (files_of c.args.sinks.now) h
    (λ k file e. empty_told One 1 card format ports (told c.flush_all.new.files) c.flush_all.new.sinks h.reached.hs held c.in-Ok-flush_all.ensures.empty k file (ap (λ (fs : List ℕ). slice_get fs k) same ∙ e))

pub returns-in-Ok-flush_all-clause-went : goal.returns-in-Ok-flush_all-clause-went
returns-in-Ok-flush_all-clause-went g c =
    let captures = c.args.captures.now in
    let files = files_of c.args.sinks.now in
    went_both captures files _ _ _ _ _ _ c.in-Ok.ending _ c.in-Ok.ensures.went
    (went_written captures files _ _ _ _ _ c.in-Ok.ending c.handle_all.ensures.same_files c.flush_all.ensures.kept c.in-Ok-flush_all.ensures.cause)

pub returns-in-Err-flush_all-clause-went : goal.returns-in-Err-flush_all-clause-went
returns-in-Err-flush_all-clause-went g c =
    let captures = c.args.captures.now in
    let files = files_of c.args.sinks.now in
    let stopped = unwritten (Unit {0}) captures files _ _ _ _ _ c.in-Err-flush_all.stop c.handle_all.ensures.same_files c.flush_all.ensures.kept c.in-Err-flush_all.ensures.cause c.in-Err-flush_all.ensures.among in
    went_both captures files _ _ _ _ _ _ c.in-Ok.ending _ c.in-Ok.ensures.went stopped

pub flush_all-requires : goal.flush_all-requires
flush_all-requires g c =
    let told = g.F.Files.told in
    record { writable = still_writable (files_of c.args.sinks.now) (files_of c.handle_all.new.sinks) (told c.args.files.now) (told c.handle_all.new.files) c.handle_all.ensures.went.kept c.handle_all.ensures.same_files c.requires.writable }
