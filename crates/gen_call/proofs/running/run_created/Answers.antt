use Rattle.std.proofs.Common.{refl}
use Rattle.call_base.specs.Outside.{seen}
use Rattle.call_base.proofs.Ending.{last_is, targets_empty}
use Rattle.gen_call.specs.Progress.{Since}
use Rattle.gen_call.proofs.Finishing.{halted, finished, unfinished}
use Rattle.gen_call.proofs.Workers.{first_is, numbers_are, done, share_full, cut}
use Rattle.gen_call.proofs.running.run_created.Goals as goal

pub run-requires-clause-numbers : goal.run-requires-clause-numbers
run-requires-clause-numbers g c κs lives k file e =
    let now = seen (g.F.Files.told c.args.files.now) (g.F.Files.counted c.args.files.now) in
    numbers_are g.before now c.args.job.now c.args.targets.now c.requires.1.1.1.1.1.1.1.1.1.1.1.1.1.1.1.1 k file e

pub run-requires-clause-empty : goal.run-requires-clause-empty
run-requires-clause-empty g c κs lives k file e =
    targets_empty c.requires.1.1.1.1.1.1.1.1.1.1.1.1.1.1.1.1 k file e

pub leave_run-requires-clause-last : goal.leave_run-requires-clause-last
leave_run-requires-clause-last g c =
    let requires = c.requires.1.1.1.1.1.1.1.1.1.1.1 in
    last_is c.args.job.now.layout.ports requires.1.1.1.1.1 c.in-Ok-Whole.ensures.went.kept.next_same refl

pub returns-in-Ok : goal.returns-in-Ok
returns-in-Ok g c =
    let told = g.F.Files.told in
    let counted = g.F.Files.counted in
    let requires = c.requires.1.1.1.1.1.1.1.1.1.1.1 in
    let job = c.args.job.now in
    let since : Since = record { before = g.before; was = g.G.Gate.refused c.args.gate.now; is = g.G.Gate.refused c.run.new.gate } in
    let a = seen (told c.args.files.now) (counted c.args.files.now) in
    let b = seen (told c.run.new.files) (counted c.run.new.files) in
    let now = seen (told c.leave_run.new.files) (counted c.leave_run.new.files) in
    let whole = c.in-Ok-Whole in
    let came = rw whole.field-0-is at whole.ensures.runs in
    let behind = done since a b job c.args.targets.now c.args.worker_plan.now _ _ whole.mode whole.state whole.sent requires.0 requires.1.1.1.1.1 requires.1.1.0 refl (first_is g.before a job c.args.targets.now requires.1.1.1.1.1) came whole.ensures.went.kept whole.ensures.went.cause in
    record { gens = finished since b now job whole.mode whole.state whole.sent requires.0 behind c.in-Ok.ensures.0 c.in-Ok.ensures.1 c.in-Ok.ensures.2 }

pub returns-in-Ok-Whole : goal.returns-in-Ok-Whole
returns-in-Ok-Whole g c =
    let told = g.F.Files.told in
    let counted = g.F.Files.counted in
    let requires = c.requires.1.1.1.1.1.1.1.1.1.1.1 in
    let job = c.args.job.now in
    let since : Since = record { before = g.before; was = g.G.Gate.refused c.args.gate.now; is = g.G.Gate.refused c.run.new.gate } in
    let a = seen (told c.args.files.now) (counted c.args.files.now) in
    let b = seen (told c.run.new.files) (counted c.run.new.files) in
    let now = seen (told c.leave_run.new.files) (counted c.leave_run.new.files) in
    let whole = c.in-Ok-Whole in
    let came = rw whole.field-0-is at whole.ensures.runs in
    let behind = done since a b job c.args.targets.now c.args.worker_plan.now _ _ whole.mode whole.state whole.sent requires.0 requires.1.1.1.1.1 requires.1.1.0 refl (first_is g.before a job c.args.targets.now requires.1.1.1.1.1) came whole.ensures.went.kept whole.ensures.went.cause in
    let stopped = unfinished since b now job whole.mode whole.state whole.sent c.in-Err-leave_run.stop requires.0 behind c.in-Err-leave_run.ensures in
    record { gens = halted since now job c.in-Err-leave_run.stop c.halt.result requires.0 c.halt.ensures stopped }

pub returns-in-Ok-Full : goal.returns-in-Ok-Full
returns-in-Ok-Full g c =
    let told = g.F.Files.told in
    let counted = g.F.Files.counted in
    let requires = c.requires.1.1.1.1.1.1.1.1.1.1.1 in
    let job = c.args.job.now in
    let since : Since = record { before = g.before; was = g.G.Gate.refused c.args.gate.now; is = g.G.Gate.refused c.run.new.gate } in
    let a = seen (told c.args.files.now) (counted c.args.files.now) in
    let b = seen (told c.run.new.files) (counted c.run.new.files) in
    let came = rw c.in-Ok-Full.field-0-is at c.in-Ok-Full.ensures.runs in
    record { gens = share_full since a b job c.args.targets.now c.args.worker_plan.now _ c.in-Ok-Full.full c.full_share.result c.full_share.ensures requires.0 requires.1.1.1.1.1 requires.1.1.0 refl came c.in-Ok-Full.ensures.went.kept c.in-Ok-Full.ensures.went.cause }

pub returns : goal.returns
returns g c =
    let told = g.F.Files.told in
    let counted = g.F.Files.counted in
    let requires = c.requires.1.1.1.1.1.1.1.1.1.1.1 in
    let job = c.args.job.now in
    let since : Since = record { before = g.before; was = g.G.Gate.refused c.args.gate.now; is = g.G.Gate.refused c.run.new.gate } in
    let a = seen (told c.args.files.now) (counted c.args.files.now) in
    let b = seen (told c.run.new.files) (counted c.run.new.files) in
    let came = c.in-Err.ensures.runs in
    let stopped = cut since a b job c.args.targets.now c.args.worker_plan.now _ c.in-Err.stop requires.0 requires.1.1.1.1.1 requires.1.1.0 refl came c.in-Err.ensures.went.kept c.in-Err.ensures.went.cause c.in-Err.ensures.went.among in
    record { gens = halted since b job c.in-Err.stop c.halt-in-Err.result requires.0 c.halt-in-Err.ensures stopped }
