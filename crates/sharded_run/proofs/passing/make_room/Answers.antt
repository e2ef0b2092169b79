use Rattle.std.proofs.Common.{◌∙◌, [], None, refl, arith}
use Rattle.stream_run.specs.Writing.{files_of}
use Rattle.stream_run.proofs.Went.{went_none, went_ok, went_then, still_writable}
use Rattle.sharded_run.proofs.Passed.{same_both}
use Rattle.sharded_run.proofs.passing.make_room.Goals as goal

pub loop-init : goal.loop-init
loop-init g c =
    let told = g.F.Files.told in
    record {
      passing = λ x card format all st. st;
      same = record { router = refl; ports = refl; fewer = omega arith };
      same_files = refl;
      went = λ captures. went_none captures (files_of c.args.sinks.now) (told c.args.files.now) (g.F.Files.counted c.args.files.now) (tt {0});
      rests = λ n. refl;
    }

pub returns-then-has_room-clause-went : goal.returns-then-has_room-clause-went
returns-then-has_room-clause-went g c = λ captures. went_ok captures _ _ _ _ _ (tt {0}) None (c.loop.invariant.went captures)

pub returns-in-Ok-Some-clause-wrote : goal.returns-in-Ok-Some-clause-wrote
returns-in-Ok-Some-clause-wrote g c = λ x card format all st. (rw c.in-Ok-Some.field-0-is at c.in-Ok-Some.ensures.wrote) x card format all (c.loop.invariant.passing x card format all st)

pub returns-in-Ok-Some-clause-same : goal.returns-in-Ok-Some-clause-same
returns-in-Ok-Some-clause-same g c = same_both _ _ _ c.loop.invariant.same c.write_next.ensures.same

pub returns-in-Ok-Some-clause-went : goal.returns-in-Ok-Some-clause-went
returns-in-Ok-Some-clause-went g c = λ captures.
    went_then captures _ _ _ _ _ _ _ _ (tt {0}) _ c.loop.invariant.same_files (c.loop.invariant.went captures) (went_ok captures _ _ _ _ _ _ _ (c.in-Ok-Some.ensures.went captures))

pub returns-in-Err-clause-wrote : goal.returns-in-Err-clause-wrote
returns-in-Err-clause-wrote g c = λ x card format all st. c.in-Err.ensures.wrote x card format all (c.loop.invariant.passing x card format all st)

pub returns-in-Err-clause-same : goal.returns-in-Err-clause-same
returns-in-Err-clause-same g c = same_both _ _ _ c.loop.invariant.same c.write_next.ensures.same

pub returns-in-Err-clause-went : goal.returns-in-Err-clause-went
returns-in-Err-clause-went g c = λ captures.
    went_then captures _ _ _ _ _ _ _ _ (tt {0}) _ c.loop.invariant.same_files (c.loop.invariant.went captures) (c.in-Err.ensures.went captures)

pub loop-preserved : goal.loop-preserved
loop-preserved g c =
    let inv = c.loop.invariant in
    record {
      passing = λ x card format all st. (rw c.in-Ok-None.field-0-is at c.in-Ok-None.ensures.wrote) x card format all (inv.passing x card format all st);
      same = same_both _ _ _ inv.same c.write_next.ensures.same;
      same_files = c.write_next.ensures.same_files ∙ inv.same_files;
      went = λ captures. went_then captures _ _ _ _ _ _ _ _ (tt {0}) _ inv.same_files (inv.went captures) (went_ok captures _ _ _ _ _ _ (tt {0}) (c.in-Ok-None.ensures.went captures));
      rests = λ n. c.write_next.ensures.rests n ∙ inv.rests n;
    }

pub write_next-requires-clause-writable : goal.write_next-requires-clause-writable
write_next-requires-clause-writable g c =
    let told = g.F.Files.told in
    let inv = c.loop.invariant in
    still_writable (files_of c.args.sinks.now) (files_of c.loop.sinks) (told c.args.files.now) (told c.loop.files) (inv.went []).kept inv.same_files c.requires.writable
