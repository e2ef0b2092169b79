use Rattle.std.proofs.Common.{[], length, map, refl, arith, ◌∙◌}
use Rattle.nf_base.specs.Functions.{function_of}
use Rattle.stream_run.proofs.Held.{but_both}
use Rattle.stream_run.specs.declared.ending.Ending.{Ending}
use Rattle.stream_run.proofs.Went.{went_both, went_err, went_wider, still_writable}
use Rattle.packet_feed.specs.Arrivals.{packet_of}
use Rattle.packet_feed.specs.Sources.{sixes_in}
use Rattle.sharded_run.proofs.Complete.{counted}
use Rattle.sharded_run.proofs.Fitting.{are_served}
use Rattle.lock_mode.specs.Gates.{Rose}
use Rattle.locked_run.specs.declared.result.Settled.{Settled}
use Rattle.locked_run.proofs.Finishing.{cut_none, cut_short_of, finished_of, still_empty}
use Rattle.locked_run.proofs.running.run.Goals as goal

pub returns-in-Err-clause-runs : goal.returns-in-Err-clause-runs
returns-in-Err-clause-runs g c =
    let told = g.F.Files.told in
    let Refused = Rose (g.G.Gate.refused c.args.gate.now) (g.G.Gate.refused c.args.gate.now) in
    cut_none (function_of c.args.func.now) c.args.workers c.args.card c.args.format Refused (length c.args.func.now.handlers) c.args.feed.now (told c.args.files.now) (told c.read_all.new.files) c.args.targets.now (counted c.args.func.now)
    (still_empty (told c.args.files.now) (told c.read_all.new.files) c.args.targets.now (c.read_all.ensures.kept []) c.requires.targets.empty)

pub returns-in-Err-clause-went : goal.returns-in-Err-clause-went
returns-in-Err-clause-went g c = went_err {T = Ending} c.args.captures.now c.args.targets.now _ _ _ _ c.in-Err.stop (record { kept = c.read_all.ensures.kept c.args.targets.now; cause = c.in-Err.ensures.cause; among = c.in-Err.ensures.among c.args.targets.now })

pub settle-requires-clause-fresh : goal.settle-requires-clause-fresh
settle-requires-clause-fresh g c κs within =
    let told = g.F.Files.told in
    let given = c.requires.targets in
    record {
      writable = still_writable c.args.targets.now c.args.targets.now (told c.args.files.now) (told c.read_all.new.files) (c.read_all.ensures.kept c.args.targets.now) refl given.writable;
      few = given.few;
      empty = still_empty (told c.args.files.now) (told c.read_all.new.files) c.args.targets.now (c.read_all.ensures.kept []) given.empty;
    }

pub settle-requires-clause-few_packets : goal.settle-requires-clause-few_packets
settle-requires-clause-few_packets g c κs within =
    let count = c.in-Ok.ensures.reads_all.0.count in
    let given = c.given-packets.ensures in
    let few = c.given-packets.type_inv in
    let none = c.requires.new in
    omega (arith, count, given, few, none)

pub settle-requires-clause-served : goal.settle-requires-clause-served
settle-requires-clause-served g c κs within =
    let read = c.in-Ok.ensures.reads_all.0 in
    are_served c.args.func.now (length c.args.captures.now) (sixes_in c.read_all.new.feed.sources) (map packet_of c.read_all.new.batch) c.requires.captures.ports (read.same_six ∙ c.requires.captures.six) read.fit

pub returns-in-Ok-settle-clause-runs : goal.returns-in-Ok-settle-clause-runs
returns-in-Ok-settle-clause-runs g c =
    let told = g.F.Files.told in
    let Refused = Rose (g.G.Gate.refused c.args.gate.now) (g.G.Gate.refused c.settle.new.gate) in
    let read = c.in-Ok.ensures.reads_all in
    finished_of (function_of c.args.func.now) c.args.workers c.args.card c.args.format Refused (length c.args.func.now.handlers) (length c.args.captures.now) c.args.feed.now c.read_all.new.feed (told c.args.files.now) (told c.read_all.new.files) (told c.settle.new.files) c.args.targets.now c.read_all.new.batch c.in-Ok.ending c.in-Ok-settle.settled c.given-packets.result
    (counted c.args.func.now) c.requires.new read.0 read.1 c.in-Ok-settle.ensures.settles c.given-packets.ensures

pub returns-in-Ok-settle-clause-went : goal.returns-in-Ok-settle-clause-went
returns-in-Ok-settle-clause-went g c =
    let told = g.F.Files.told in
    record {
      kept = but_both c.args.targets.now (told c.args.files.now) (told c.read_all.new.files) (told c.settle.new.files) (c.read_all.ensures.kept c.args.targets.now) c.settle.ensures.kept;
      cause = c.in-Ok-settle.ensures.cause ∙ c.in-Ok.ensures.cause;
      among = tt;
    }

pub returns-clause-runs : goal.returns-clause-runs
returns-clause-runs g c =
    let told = g.F.Files.told in
    let Refused = Rose (g.G.Gate.refused c.args.gate.now) (g.G.Gate.refused c.settle.new.gate) in
    let read = c.in-Ok.ensures.reads_all in
    cut_short_of (function_of c.args.func.now) c.args.workers c.args.card c.args.format Refused (length c.args.func.now.handlers) (length c.args.captures.now) c.args.feed.now c.read_all.new.feed (told c.args.files.now) (told c.read_all.new.files) (told c.settle.new.files) c.args.targets.now c.read_all.new.batch
    (counted c.args.func.now) c.requires.new read.0 c.in-Err-settle.ensures.settles

pub returns-clause-went : goal.returns-clause-went
returns-clause-went g c =
    let captures = c.args.captures.now in
    let targets = c.args.targets.now in
    let settled = went_wider {T = Settled} captures targets _ _ _ _ c.in-Err-settle.stop (record { kept = c.settle.ensures.kept; cause = c.in-Err-settle.ensures.cause; among = c.in-Err-settle.ensures.among }) in
    went_both captures targets _ _ _ _ _ _ c.in-Ok.ending _ (record { kept = c.read_all.ensures.kept targets; cause = c.in-Ok.ensures.cause; among = tt }) settled
