use Rattle.std.proofs.Common.{◌∙◌, ℕ, List, length, refl, ap, subst}
use Rattle.std.specs.List.{slice_get}
use Rattle.run_history.specs.declared.line.Mode.TheVariants.{Shard}
use Rattle.stream_run.specs.declared.fault.RunFault.{RunFault}
use Rattle.stream_run.specs.Writing.{files_of, AreHeld, AreFronts}
use Rattle.stream_run.proofs.Complete.{empty_told}
use Rattle.sharded_run.specs.Going.{AreWhole}
use Rattle.stream_run.proofs.Went.{went_then, went_written, unwritten}
use Rattle.sharded_run.proofs.Flowed.{flows_ok, flows_err}
use Rattle.sharded_run.proofs.streaming.flow.Goals as goal

pub returns-in-Ok-flush_all-clause-flows : goal.returns-in-Ok-flush_all-clause-flows
returns-in-Ok-flush_all-clause-flows g c = λ x card format begun start all suits ports st h.
    let told = g.F.Files.told in
    let n = length c.args.captures.now in
    let mid = told c.pass_all.new.files in
    let now = told c.flush_all.new.files in
    let files = files_of c.args.sinks.now in
    let many = c.args.crew.now.ports in
    let same = c.flush_all.ensures.same_files ∙ c.pass_all.ensures.same_files in
    flows_ok RunFault x n begun c.pass_all.new.feed start mid now c.pass_all.new.crew (λ hs. AreHeld Shard x.workers card format many hs mid c.pass_all.new.sinks) (AreWhole x.workers card format many now files) (λ hs. AreFronts Shard x.workers card format many hs mid files) (λ hs. AreFronts Shard x.workers card format many hs now files) c.in-Ok.ended c.flush_all.ensures.kept.rests
    (λ hs held k file e. empty_told Shard x.workers card format many now c.flush_all.new.sinks hs (c.in-Ok-flush_all.ensures.goes_on Shard x.workers card format many hs held) c.in-Ok-flush_all.ensures.empty k file (ap (λ (fs : List ℕ). slice_get fs k) same ∙ e))
    (c.in-Ok.ensures.flows x card format begun start all suits ports st h)

pub returns-in-Ok-flush_all-clause-went : goal.returns-in-Ok-flush_all-clause-went
returns-in-Ok-flush_all-clause-went g c =
    let captures = c.args.captures.now in
    let files = files_of c.args.sinks.now in
    let written = went_written captures files _ _ _ _ _ c.in-Ok.ended c.pass_all.ensures.same_files c.flush_all.ensures.kept c.in-Ok-flush_all.ensures.cause in
    went_then captures files files _ _ _ _ _ _ c.in-Ok.ended _ refl c.in-Ok.ensures.went written

pub returns-in-Err-flush_all-clause-flows : goal.returns-in-Err-flush_all-clause-flows
returns-in-Err-flush_all-clause-flows g c = λ x card format begun start all suits ports st h.
    let told = g.F.Files.told in
    let n = length c.args.captures.now in
    let mid = told c.pass_all.new.files in
    let now = told c.flush_all.new.files in
    let files = files_of c.args.sinks.now in
    let many = c.args.crew.now.ports in
    let same = c.flush_all.ensures.same_files ∙ c.pass_all.ensures.same_files in
    flows_err x n begun c.pass_all.new.feed start mid now c.pass_all.new.crew (λ hs. AreHeld Shard x.workers card format many hs mid c.pass_all.new.sinks) (AreWhole x.workers card format many now files) (λ hs. AreFronts Shard x.workers card format many hs mid files) (λ hs. AreFronts Shard x.workers card format many hs now files) c.in-Ok.ended c.in-Err-flush_all.stop
    (λ hs held. subst (λ (fs : List ℕ). AreFronts Shard x.workers card format many hs now fs) same (c.in-Err-flush_all.ensures.goes_on Shard x.workers card format many hs held))
    (c.in-Ok.ensures.flows x card format begun start all suits ports st h)

pub returns-in-Err-flush_all-clause-went : goal.returns-in-Err-flush_all-clause-went
returns-in-Err-flush_all-clause-went g c =
    let captures = c.args.captures.now in
    let files = files_of c.args.sinks.now in
    let stopped = unwritten (Unit {0}) captures files _ _ _ _ _ c.in-Err-flush_all.stop c.pass_all.ensures.same_files c.flush_all.ensures.kept c.in-Err-flush_all.ensures.cause c.in-Err-flush_all.ensures.among in
    went_then captures files files _ _ _ _ _ _ c.in-Ok.ended _ refl c.in-Ok.ensures.went stopped
