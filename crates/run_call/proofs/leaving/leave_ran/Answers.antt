use Rattle.std.proofs.Common.{◌≡◌, ◌+◌, ◌∙◌, ℕ, Option, Some, None, sym, subst, refl}
use Rattle.lock_mode.specs.Gates.{Rose}
use Rattle.stream_run.specs.declared.ending.Ending.{Ending}
use Rattle.stream_run.specs.declared.ending.Ending.TheVariants as ending
use Rattle.call_base.specs.declared.status.End.{End}
use Rattle.call_base.specs.Outside.{seen}
use Rattle.run_call.specs.Runs.{left_by}
use Rattle.run_call.specs.Progress.{HasRun, asked, ports_of, end_of}
use Rattle.run_call.proofs.Beginning.{halted}
use Rattle.run_call.proofs.Finishing.{run_finished, run_unfinished}
use Rattle.run_call.proofs.leaving.leave_ran.Goals as goal

-- a run that is over leaves a state
over_leaves : (n most : ℕ) (e : Ending) (tear : Option (ℕ × ℕ)) → left_by n (end_of most e tear) ≡ n + 2
over_leaves n most ending.TooMany tear = refl
over_leaves n most ending.All None = refl
over_leaves n most ending.All (Some t) = refl

pub returns-in-Ok : goal.returns-in-Ok
returns-in-Ok g c =
    let a = seen (g.F.Files.told c.args.files.now) (g.F.Files.counted c.args.files.now) in
    let b = seen (g.F.Files.told c.finish.new.files) (g.F.Files.counted c.finish.new.files) in
    let job = c.args.job.now in
    let ran = c.args.ran.now in
    let same = sym c.end_of-end.ensures in
    let leaves = subst (λ (e : End). left_by (ports_of job) e ≡ ports_of job + 2) same (over_leaves (ports_of job) (asked job).most ran.ending c.args.tear) in
    let line = c.as_slice.ensures.value ∙ c.ran_line-line.ensures in
    record {
      runs = λ old new h. run_finished g.before a b job c.args.mode ran.packets ran.state c.end_of-end.result c.as_slice.result.now c.requires.1.0
          (subst (λ (e : End). HasRun (Rose old new) g.before a job c.args.mode ran.packets ran.state e) same h) leaves line c.in-Ok.ensures.0 c.in-Ok.ensures.1 c.in-Ok.ensures.2;
    }

pub returns-in-Err : goal.returns-in-Err
returns-in-Err g c =
    let a = seen (g.F.Files.told c.args.files.now) (g.F.Files.counted c.args.files.now) in
    let b = seen (g.F.Files.told c.finish.new.files) (g.F.Files.counted c.finish.new.files) in
    let job = c.args.job.now in
    let ran = c.args.ran.now in
    let same = sym c.end_of-end.ensures in
    let leaves = subst (λ (e : End). left_by (ports_of job) e ≡ ports_of job + 2) same (over_leaves (ports_of job) (asked job).most ran.ending c.args.tear) in
    let line = c.as_slice.ensures.value ∙ c.ran_line-line.ensures in
    record {
      runs = λ old new h. halted g.before b job c.in-Err.stop c.halt.result c.requires.1.0 c.halt.ensures
          (run_unfinished g.before a b job c.args.mode ran.packets ran.state c.end_of-end.result c.as_slice.result.now c.in-Err.stop c.requires.1.0
          (subst (λ (e : End). HasRun (Rose old new) g.before a job c.args.mode ran.packets ran.state e) same h) leaves line c.in-Err.ensures);
    }
