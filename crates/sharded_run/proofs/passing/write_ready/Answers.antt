use Rattle.std.proofs.Common.{◌∙◌, ◌∷◌, List, map, refl, sym, ap}
use Rattle.packet_feed.specs.Arrivals.{Arrival, packet_of}
use Rattle.run_history.specs.declared.line.Mode.TheVariants.{Shard}
use Rattle.shard_core.specs.declared.collected.Collected.{Collected}
use Rattle.short_answers.specs.Answers.{done_told}
use Rattle.stream_run.specs.Writing.{files_of}
use Rattle.sharded_run.specs.Answered.{answered}
use Rattle.stream_run.proofs.Went.{went_written, unwritten}
use Rattle.sharded_run.proofs.Passed.{wrote_on, wrote_cut}
use Rattle.sharded_run.proofs.passing.write_ready.Goals as goal

pub returns-in-Ok-clause-wrote : goal.returns-in-Ok-clause-wrote
returns-in-Ok-clause-wrote g c = λ x card format all st.
    let told = g.F.Files.told in
    let r = c.answer-answer.result in
    let one : Collected = record { packet = r.packet.now; queue = r.queue; done = done_told r.told } in
    let a : Arrival = c.first-kept.result.now in
    let stands = c.pass.ensures.stands x (map packet_of all) one st.got st.stands c.answer-answer.ensures in
    wrote_on x card format all (told c.args.files.now) (told c.write_told-written.new.files) c.args.crew.now _ c.args.sinks.now c.write_told-written.new.sinks a one st (c.first-kept.ensures ∙ ap (λ (t : List Arrival). a ∷ t) (sym c.drop_first.ensures.rest)) refl stands
    ((rw c.in-Ok.is at c.write_told-written.ensures.goes_on) Shard x.workers card format (answered all st.got) st.held)

pub returns-in-Err-clause-wrote : goal.returns-in-Err-clause-wrote
returns-in-Err-clause-wrote g c = λ x card format all st.
    let told = g.F.Files.told in
    let r = c.answer-answer.result in
    let one : Collected = record { packet = r.packet.now; queue = r.queue; done = done_told r.told } in
    let a : Arrival = c.first-kept.result.now in
    let stands = c.pass.ensures.stands x (map packet_of all) one st.got st.stands c.answer-answer.ensures in
    wrote_cut x card format all (told c.args.files.now) (told c.write_told-written.new.files) c.args.crew.now _ c.args.sinks.now (files_of c.write_told-written.new.sinks) a one st (c.first-kept.ensures ∙ ap (λ (t : List Arrival). a ∷ t) (sym c.drop_first.ensures.rest)) refl stands
    ((rw c.in-Err.is at c.write_told-written.ensures.goes_on) Shard x.workers card format (answered all st.got) st.held)

pub returns-in-Ok-clause-went : goal.returns-in-Ok-clause-went
returns-in-Ok-clause-went g c = λ captures.
    let files = files_of c.args.sinks.now in
    went_written captures files files _ _ _ _ (tt {0}) refl c.write_told-written.ensures.kept (rw c.in-Ok.is at c.write_told-written.ensures.cause)

pub returns-in-Err-clause-went : goal.returns-in-Err-clause-went
returns-in-Err-clause-went g c = λ captures.
    let files = files_of c.args.sinks.now in
    unwritten (Unit {0}) captures files files _ _ _ _ c.in-Err.stop refl c.write_told-written.ensures.kept (rw c.in-Err.is at c.write_told-written.ensures.cause) (rw c.in-Err.is at c.write_told-written.ensures.among)
