use Rattle.std.proofs.Common.{length}
use Rattle.nf_base.specs.Functions.{function_of}
use Rattle.nf_base.specs.Doors.{six_ports}
use Rattle.traffic_run.specs.TrafficSpecs.{asked_for}
use Rattle.traffic_run.proofs.Over.{has_captures, whole_one, cut_one}
use Rattle.traffic_run.proofs.handling.run_one.Goals as goal

pub returns-in-Ok-clause-leaves : goal.returns-in-Ok-clause-leaves
returns-in-Ok-clause-leaves g c =
    let told = g.F.Files.told in
    let all = asked_for c.args.asked.now (length c.args.func.now.handlers) in
    whole_one c.args.asked.now.card c.args.asked.now.format ⊥ (function_of c.args.func.now) (six_ports (function_of c.args.func.now)) c.args.captures.now c.args.feed.now (told c.args.files.now) all c.run.new.feed (told c.run.new.files) c.args.targets.now c.in-Ok.ran c.requires.started c.in-Ok.ensures.runs

pub returns-in-Err-clause-leaves : goal.returns-in-Err-clause-leaves
returns-in-Err-clause-leaves g c =
    let told = g.F.Files.told in
    let all = asked_for c.args.asked.now (length c.args.func.now.handlers) in
    cut_one c.args.asked.now.card c.args.asked.now.format ⊥ (function_of c.args.func.now) (six_ports (function_of c.args.func.now)) c.args.captures.now c.args.feed.now (told c.args.files.now) all (told c.run.new.files) c.args.targets.now c.requires.started c.in-Err.ensures.runs

pub run-requires-clause-captures : goal.run-requires-clause-captures
run-requires-clause-captures g c = has_captures c.args.func.now c.args.captures.now c.args.feed.now (g.F.Files.told c.args.files.now) _ c.requires.started c.requires.ports c.requires.opened

pub run-requires-clause-new : goal.run-requires-clause-new
run-requires-clause-new g c = c.requires.started.given
