use Rattle.std.proofs.Common.{◌∙◌, refl, sym, arith}
use Rattle.stream_run.proofs.Went.{went_ok, went_err, went_memory}
use Rattle.sharded_run.proofs.Passed.{passing_cut, passing_still}
use Rattle.sharded_run.proofs.passing.hand_out.Goals as goal

pub returns-in-Ok-clause-handed : goal.returns-in-Ok-clause-handed
returns-in-Ok-clause-handed g c = λ x card format all st can home.
    let told = g.F.Files.told in
    let passing = (rw c.in-Ok-None.field-0-is at c.in-Ok-None.ensures.wrote) x card format all st in
    (rw c.in-Ok.is at c.send.ensures.sent) x card format (told c.make_room.new.files) c.make_room.new.sinks all passing can (home ∙ sym c.queue-queue.ensures.value)

pub returns-in-Err-send-clause-handed : goal.returns-in-Err-send-clause-handed
returns-in-Err-send-clause-handed g c = λ x card format all st can home.
    let told = g.F.Files.told in
    let now = told c.make_room.new.files in
    let passing = (rw c.in-Ok-None.field-0-is at c.in-Ok-None.ensures.wrote) x card format all st in
    let sent = (rw c.in-Err-send.is at c.send.ensures.sent) x card format now c.make_room.new.sinks all passing can (home ∙ sym c.queue-queue.ensures.value) in
    passing_cut x card format all now now c.send.new.crew c.send.new.crew c.make_room.new.sinks (λ k. refl) sent refl refl

pub returns-in-Ok-Some-clause-handed : goal.returns-in-Ok-Some-clause-handed
returns-in-Ok-Some-clause-handed g c = λ x card format all st can home.
    let told = g.F.Files.told in
    let h = (rw c.in-Ok-Some.field-0-is at c.in-Ok-Some.ensures.wrote) x card format all st in
    let here = passing_still x card format all (told c.make_room.new.files) c.make_room.new.crew _ c.make_room.new.sinks h.0 refl refl h.0.stands in
    (here, record { stop = c.in-Ok-Some.stop; is = refl; stands = h.1 }, omega (arith, c.given.ensures, c.left.ensures, c.requires.fewer, c.make_room.ensures.same.fewer, c.make_room.new.crew.as_many))

pub returns-in-Err-clause-handed : goal.returns-in-Err-clause-handed
returns-in-Err-clause-handed g c = λ x card format all st can home. c.in-Err.ensures.wrote x card format all st

pub returns-in-Ok-clause-went : goal.returns-in-Ok-clause-went
returns-in-Ok-clause-went g c = λ captures. went_ok captures _ _ _ _ _ _ _ (c.in-Ok-None.ensures.went captures)

pub returns-in-Err-send-clause-went : goal.returns-in-Err-send-clause-went
returns-in-Err-send-clause-went g c = λ captures. went_memory captures _ _ _ _ _ _ c.in-Err-send.stop c.in-Err-send.ensures.memory (c.in-Ok-None.ensures.went captures)

pub returns-in-Ok-Some-clause-went : goal.returns-in-Ok-Some-clause-went
returns-in-Ok-Some-clause-went g c = λ captures. went_ok captures _ _ _ _ _ _ _ (c.in-Ok-Some.ensures.went captures)

pub returns-in-Err-clause-went : goal.returns-in-Err-clause-went
returns-in-Err-clause-went g c = λ captures. went_err captures _ _ _ _ _ c.in-Err.stop (c.in-Err.ensures.went captures)
