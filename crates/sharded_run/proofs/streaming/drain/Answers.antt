use Rattle.std.proofs.Common.{◌∙◌, [], refl, arith}
use Rattle.stream_run.specs.Writing.{files_of}
use Rattle.stream_run.proofs.Went.{went_none, went_ok, went_err, went_then, still_writable}
use Rattle.sharded_run.proofs.Passed.{gathers_rest, same_both}
use Rattle.sharded_run.proofs.Flowed.{none_in_flight, all_over, met_behind, some_met, cut_short}
use Rattle.sharded_run.proofs.streaming.drain.Goals as goal

pub loop-init : goal.loop-init
loop-init g c =
    let told = g.F.Files.told in
    record {
      passing = λ x card format all st. st;
      same = record { router = refl; ports = refl; fewer = omega arith };
      same_files = refl;
      went = λ captures. went_none captures (files_of c.args.sinks.now) (told c.args.files.now) (g.F.Files.counted c.args.files.now) (tt {0});
      rests = λ n. refl;
    }

pub returns-then-left-eq0-clause-flows : goal.returns-then-left-eq0-clause-flows
returns-then-left-eq0-clause-flows g c = λ x card format ports begun start all st h over.
    let told = g.F.Files.told in
    let inv = c.loop.invariant in
    let now = told c.loop.files in
    let passing = inv.passing x card format all st in
    let none = none_in_flight x card format now c.loop.crew c.loop.sinks all passing c.loop.crew.as_many (omega (arith, c.loop.crew.as_many)) in
    all_over x card format ports begun c.args.feed.now start now c.loop.crew c.loop.sinks all c.args.ending passing none (gathers_rest ports begun c.args.feed.now start (told c.args.files.now) now all inv.rests h) over

pub returns-then-left-eq0-clause-went : goal.returns-then-left-eq0-clause-went
returns-then-left-eq0-clause-went g c = λ captures. went_ok captures _ _ _ _ _ (tt {0}) _ (c.loop.invariant.went captures)

pub returns-in-Ok-Some-clause-flows : goal.returns-in-Ok-Some-clause-flows
returns-in-Ok-Some-clause-flows g c = λ x card format ports begun start all st h over.
    let told = g.F.Files.told in
    let inv = c.loop.invariant in
    let now = told c.write_next.new.files in
    let wrote = (rw c.in-Ok-Some.field-0-is at c.in-Ok-Some.ensures.wrote) x card format all (inv.passing x card format all st) in
    let met = met_behind x card format ports begun c.args.feed.now start (told c.args.files.now) now c.write_next.new.crew c.write_next.new.sinks all _ wrote.0 h wrote.1 (omega (arith, c.write_next.new.crew.as_many)) in
    some_met x card format ports begun start now c.write_next.new.crew c.write_next.new.sinks all _ met

pub returns-in-Ok-Some-clause-same : goal.returns-in-Ok-Some-clause-same
returns-in-Ok-Some-clause-same g c = same_both _ _ _ c.loop.invariant.same c.write_next.ensures.same

pub returns-in-Ok-Some-clause-went : goal.returns-in-Ok-Some-clause-went
returns-in-Ok-Some-clause-went g c = λ captures.
    went_then captures _ _ _ _ _ _ _ _ (tt {0}) _ c.loop.invariant.same_files (c.loop.invariant.went captures) (went_ok captures _ _ _ _ _ _ _ (c.in-Ok-Some.ensures.went captures))

pub returns-in-Err-clause-flows : goal.returns-in-Err-clause-flows
returns-in-Err-clause-flows g c = λ x card format ports begun start all st h over.
    let told = g.F.Files.told in
    let inv = c.loop.invariant in
    let now = told c.write_next.new.files in
    let cut = c.in-Err.ensures.wrote x card format all (inv.passing x card format all st) in
    cut_short x card format ports begun c.args.feed.now start now c.write_next.new.crew (files_of c.write_next.new.sinks) all c.in-Err.stop cut (record { feed = c.args.feed.now; now = told c.args.files.now; gathers = h })

pub returns-in-Err-clause-same : goal.returns-in-Err-clause-same
returns-in-Err-clause-same g c = same_both _ _ _ c.loop.invariant.same c.write_next.ensures.same

pub returns-in-Err-clause-went : goal.returns-in-Err-clause-went
returns-in-Err-clause-went g c = λ captures.
    went_then captures _ _ _ _ _ _ _ _ (tt {0}) _ c.loop.invariant.same_files (c.loop.invariant.went captures) (went_err captures _ _ _ _ _ c.in-Err.stop (c.in-Err.ensures.went captures))

pub loop-preserved : goal.loop-preserved
loop-preserved g c =
    let inv = c.loop.invariant in
    record {
      passing = λ x card format all st. (rw c.in-Ok-None.field-0-is at c.in-Ok-None.ensures.wrote) x card format all (inv.passing x card format all st);
      same = same_both _ _ _ inv.same c.write_next.ensures.same;
      same_files = c.write_next.ensures.same_files ∙ inv.same_files;
      went = λ captures. went_then captures _ _ _ _ _ _ _ _ (tt {0}) _ inv.same_files (inv.went captures) (went_ok captures _ _ _ _ _ _ (tt {0}) (c.in-Ok-None.ensures.went captures));
      rests = λ n. c.write_next.ensures.rests n ∙ inv.rests n;
    }

pub write_next-requires-clause-writable : goal.write_next-requires-clause-writable
write_next-requires-clause-writable g c =
    let told = g.F.Files.told in
    let inv = c.loop.invariant in
    still_writable (files_of c.args.sinks.now) (files_of c.loop.sinks) (told c.args.files.now) (told c.loop.files) (inv.went []).kept inv.same_files c.requires.writable
