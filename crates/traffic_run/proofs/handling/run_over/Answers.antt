use Rattle.std.proofs.Common.{length, refl, sym, ◌∙◌}
use Rattle.nf_base.specs.Functions.{function_of}
use Rattle.nf_base.specs.Doors.{six_ports}
use Rattle.lock_mode.specs.Gates.{Rose}
use Rattle.packet_feed.specs.Feeding.{Feeding}
use Rattle.stream_run.proofs.Went.{went_both, went_read, unread}
use Rattle.traffic_run.specs.TrafficSpecs.{recipe_of, asked_for}
use Rattle.traffic_run.proofs.Headers.{read_fault}
use Rattle.traffic_run.proofs.Over.{arrivals_long, none_by, still_empty, still_targets}
use Rattle.traffic_run.proofs.handling.run_over.Goals as goal

pub run_by-requires-clause-started : goal.run_by-requires-clause-started
run_by-requires-clause-started g c = λ κs lives.
    let told = g.F.Files.told in
    let n = length c.args.func.now.handlers in
    let begun = c.in-Ok.ensures.starts in
    record {
      before = told c.args.files.now;
      stands = begun.0;
      files = begun.1;
      six_is = begun.3;
      packets = c.requires.made;
      most = begun.2 ∙ sym (arrivals_long (recipe_of c.args.asked.now n));
      given = sym begun.0.count;
    }

pub run_by-requires-clause-targets : goal.run_by-requires-clause-targets
run_by-requires-clause-targets g c = λ κs lives.
    let told = g.F.Files.told in
    still_targets c.args.func.now c.args.captures.now c.args.targets.now (told c.args.files.now) (told c.start.new.files) c.start.ensures.kept c.requires.targets

pub returns-in-Ok-clause-went : goal.returns-in-Ok-clause-went
returns-in-Ok-clause-went g c =
    let captures = c.args.captures.now in
    let targets = c.args.targets.now in
    went_both captures targets _ _ _ _ _ _ (tt {0}) c.run_by.result (went_read captures targets captures _ _ _ _ (tt {0}) c.start.ensures.kept c.in-Ok.ensures.cause) c.run_by.ensures.went

pub returns-in-Err-clause-leaves : goal.returns-in-Err-clause-leaves
returns-in-Err-clause-leaves g c =
    let told = g.F.Files.told in
    let Refused = Rose (g.G.Gate.refused c.args.gate.now) (g.G.Gate.refused c.args.gate.now) in
    none_by c.args.worker_plan.now c.args.asked.now.card c.args.asked.now.format Refused (function_of c.args.func.now) (asked_for c.args.asked.now (length c.args.func.now.handlers)) (told c.start.new.files) c.args.targets.now
    (still_empty c.args.targets.now (told c.args.files.now) (told c.start.new.files) c.start.ensures.kept.givens c.requires.targets.empty)

pub stop_in-requires : goal.stop_in-requires
stop_in-requires g c =
    let told = g.F.Files.told in
    record {
      read = read_fault (six_ports (function_of c.args.func.now)) c.args.captures.now (told c.args.files.now) (told c.start.new.files) c.args.asked.now.count (asked_for c.args.asked.now (length c.args.func.now.handlers)) c.in-Err.fault c.requires.made c.in-Err.ensures.starts;
      one = c.in-Err.ensures.one;
    }

pub returns-in-Err-clause-went : goal.returns-in-Err-clause-went
returns-in-Err-clause-went g c = unread Feeding c.args.captures.now c.args.targets.now c.args.captures.now _ _ _ _ c.in-Err.fault c.stop_in.result refl c.stop_in.ensures c.start.ensures.kept c.in-Err.ensures.cause
