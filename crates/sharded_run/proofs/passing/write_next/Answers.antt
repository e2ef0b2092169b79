use Rattle.std.proofs.Common.{None, map, refl}
use Rattle.packet_feed.specs.Arrivals.{packet_of}
use Rattle.stream_run.specs.Writing.{files_of}
use Rattle.stream_run.proofs.Went.{went_none, went_ok, went_err}
use Rattle.sharded_run.proofs.Passed.{passing_still}
use Rattle.sharded_run.proofs.passing.write_next.Goals as goal

pub returns-in-Ok-clause-wrote : goal.returns-in-Ok-clause-wrote
returns-in-Ok-clause-wrote g c = λ x card format all st.
    let told = g.F.Files.told in
    let stands = c.await_first.ensures.stands x (map packet_of all) st.got st.stands in
    c.in-Ok.ensures.wrote x card format all (passing_still x card format all (told c.args.files.now) c.args.crew.now _ c.args.sinks.now st refl refl stands)

pub returns-in-Err-clause-wrote : goal.returns-in-Err-clause-wrote
returns-in-Err-clause-wrote g c = λ x card format all st.
    let told = g.F.Files.told in
    let stands = c.await_first.ensures.stands x (map packet_of all) st.got st.stands in
    c.in-Err.ensures.wrote x card format all (passing_still x card format all (told c.args.files.now) c.args.crew.now _ c.args.sinks.now st refl refl stands)

pub returns-in-Stop-clause-wrote : goal.returns-in-Stop-clause-wrote
returns-in-Stop-clause-wrote g c = λ x card format all st.
    let told = g.F.Files.told in
    let stands = c.await_first.ensures.stands x (map packet_of all) st.got st.stands in
    (passing_still x card format all (told c.args.files.now) c.args.crew.now _ c.args.sinks.now st refl refl stands, rw c.in-Stop.is at c.await_first.ensures.first)

pub returns-in-Ok-clause-went : goal.returns-in-Ok-clause-went
returns-in-Ok-clause-went g c = λ captures. went_ok captures _ _ _ _ _ (tt {0}) None (c.in-Ok.ensures.went captures)

pub returns-in-Err-clause-went : goal.returns-in-Err-clause-went
returns-in-Err-clause-went g c = λ captures. went_err captures _ _ _ _ _ c.in-Err.stop (c.in-Err.ensures.went captures)

pub returns-in-Stop-clause-went : goal.returns-in-Stop-clause-went
returns-in-Stop-clause-went g c = λ captures. went_none captures (files_of c.args.sinks.now) (g.F.Files.told c.args.files.now) (g.F.Files.counted c.args.files.now) _
