use Rattle.std.proofs.Common.{length}
use Rattle.nf_base.specs.Functions.{function_of}
use Rattle.nf_base.specs.Doors.{six_ports}
use Rattle.traffic_run.specs.TrafficSpecs.{asked_for}
use Rattle.traffic_run.proofs.Over.{has_captures, whole_shards, full_shards, cut_shards}
use Rattle.traffic_run.proofs.handling.run_shards.Goals as goal

pub returns-in-Ok-Ran-clause-leaves : goal.returns-in-Ok-Ran-clause-leaves
returns-in-Ok-Ran-clause-leaves g c =
    let told = g.F.Files.told in
    let all = asked_for c.args.asked.now (length c.args.func.now.handlers) in
    let came = rw c.in-Ok-Ran.field-0-is at c.in-Ok-Ran.ensures.runs in
    whole_shards c.args.asked.now.card c.args.asked.now.format ⊥ (function_of c.args.func.now) c.args.keys.now c.args.workers (six_ports (function_of c.args.func.now)) c.args.captures.now c.args.feed.now (told c.args.files.now) all c.run.new.feed (told c.run.new.files) c.args.targets.now c.in-Ok-Ran.ran c.requires.started came

pub returns-in-Ok-Full-clause-leaves : goal.returns-in-Ok-Full-clause-leaves
returns-in-Ok-Full-clause-leaves g c =
    let told = g.F.Files.told in
    let all = asked_for c.args.asked.now (length c.args.func.now.handlers) in
    let came = rw c.in-Ok-Full.field-0-is at c.in-Ok-Full.ensures.runs in
    full_shards (function_of c.args.func.now) c.args.keys.now c.args.workers c.args.asked.now.card c.args.asked.now.format (six_ports (function_of c.args.func.now)) c.args.captures.now c.args.feed.now (told c.args.files.now) all (told c.run.new.files) c.args.targets.now c.in-Ok-Full.full c.requires.started came

pub returns-in-Err-clause-leaves : goal.returns-in-Err-clause-leaves
returns-in-Err-clause-leaves g c =
    let told = g.F.Files.told in
    let all = asked_for c.args.asked.now (length c.args.func.now.handlers) in
    cut_shards c.args.asked.now.card c.args.asked.now.format ⊥ (function_of c.args.func.now) c.args.keys.now c.args.workers (six_ports (function_of c.args.func.now)) c.args.captures.now c.args.feed.now (told c.args.files.now) all (told c.run.new.files) c.args.targets.now c.requires.started c.in-Err.ensures.runs

pub run-requires-clause-captures : goal.run-requires-clause-captures
run-requires-clause-captures g c = λ κs lives. has_captures c.args.func.now c.args.captures.now c.args.feed.now (g.F.Files.told c.args.files.now) _ c.requires.started c.requires.ports c.requires.opened

pub run-requires-clause-new : goal.run-requires-clause-new
run-requires-clause-new g c = λ κs lives. c.requires.started.given
