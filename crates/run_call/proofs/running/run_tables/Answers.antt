use Rattle.std.proofs.Common.{ℕ, Option, sym, subst}
use Rattle.lock_mode.specs.Gates.{Rose}
use Rattle.call_base.specs.Outside.{seen}
use Rattle.run_call.specs.Progress.{HasRun, asked, end_of}
use Rattle.call_base.proofs.Ending.{last_is}
use Rattle.run_call.proofs.Beginning.{halted}
use Rattle.run_call.proofs.Workers.{tables_finished, tables_halted, has_captures, has_targets}
use Rattle.run_call.proofs.running.run_tables.Goals as goal

pub leave_ran-requires : goal.leave_ran-requires
leave_ran-requires g c κs within =
    let requires = c.requires.1.1.1.1.1.1.1 in
    let ready = requires.1.1.1.1 in
    (within, (requires.0, last_is c.args.job.now.layout.ports ready.created c.run.ensures.went.kept.next_same requires.0.ports))

pub returns-in-Ok : goal.returns-in-Ok
returns-in-Ok g c =
    let told = g.F.Files.told in
    let counted = g.F.Files.counted in
    let requires = c.requires.1.1.1.1.1.1.1 in
    let job = c.args.job.now in
    let b = seen (told c.run.new.files) (counted c.run.new.files) in
    let came = c.in-Ok.came in
    let Old = g.L.Gate.refused c.args.gate.now in
    let New = g.L.Gate.refused c.run.new.gate in
    record {
      runs = c.leave_ran.ensures.runs Old New
          (subst (λ (t : Option (ℕ × ℕ)). HasRun (Rose Old New) g.before b job came.mode came.ran.packets came.ran.state (end_of (asked job).most came.ran.ending t)) (sym c.torn.ensures)
          (tables_finished (Rose Old New) g.before (seen (told c.args.files.now) (counted c.args.files.now)) b job c.args.captures.now c.args.targets.now c.args.feed.now c.run.new.feed came requires.0 requires.1.0 requires.1.1.1.1 c.in-Ok.ensures.runs c.run.ensures.went.kept c.in-Ok.ensures.went.cause));
    }

pub returns-in-Err : goal.returns-in-Err
returns-in-Err g c =
    let told = g.F.Files.told in
    let counted = g.F.Files.counted in
    let requires = c.requires.1.1.1.1.1.1.1 in
    let job = c.args.job.now in
    let b = seen (told c.run.new.files) (counted c.run.new.files) in
    record {
      runs = halted g.before b job c.in-Err.stop c.halt.result requires.0 c.halt.ensures
          (tables_halted (Rose (g.L.Gate.refused c.args.gate.now) (g.L.Gate.refused c.run.new.gate)) g.before (seen (told c.args.files.now) (counted c.args.files.now)) b job c.args.captures.now c.args.targets.now c.args.feed.now c.in-Err.stop requires.0 requires.1.0 requires.1.1.1.1 c.in-Err.ensures.runs c.run.ensures.went.kept c.in-Err.ensures.went.cause c.in-Err.ensures.went.among);
    }

pub run-requires-clause-captures : goal.run-requires-clause-captures
run-requires-clause-captures g c κs lives =
    let now = seen (g.F.Files.told c.args.files.now) (g.F.Files.counted c.args.files.now) in
    has_captures g.before now c.args.job.now c.args.captures.now c.args.targets.now c.args.feed.now c.requires.1.1.1.1.1.1.1.0 c.requires.1.1.1.1.1.1.1.1.1.1.1 c.requires.1.1.1.1.1.1.1.1.1.0

pub run-requires-clause-targets : goal.run-requires-clause-targets
run-requires-clause-targets g c κs lives =
    let now = seen (g.F.Files.told c.args.files.now) (g.F.Files.counted c.args.files.now) in
    has_targets g.before now c.args.job.now c.args.captures.now c.args.targets.now c.args.feed.now c.requires.1.1.1.1.1.1.1.0 c.requires.1.1.1.1.1.1.1.1.1.1.1 c.requires.1.1.1.1.1.1.1.1.1.1.0
