use Rattle.std.proofs.Common.{◌≡◌, ◌∙◌, ◌∷◌, ◌++◌, [], map, refl, ap}
use Rattle.packet_feed.specs.Arrivals.{Arrival, packet_of}
use Rattle.packet_feed.specs.Feeding.{shown}
use Rattle.sharded_run.proofs.Passed.{passing_still, passing_sent}
use Rattle.sharded_run.proofs.passing.send.Goals as goal

pub returns-in-Err-clause-sent : goal.returns-in-Err-clause-sent
returns-in-Err-clause-sent g c = λ x card format now sinks all st can home. passing_still x card format all now c.args.crew.now _ sinks st c.in-Err.ensures.err refl st.stands

pub returns-clause-sent : goal.returns-clause-sent
returns-clause-sent g c = λ x card format now sinks all st can home.
    let old = c.args.crew.now in
    let one : Arrival = shown c.args.packet.now c.args.feed.now in
    let kept : Arrival = record { packet = c.args.packet.now; original = c.original.result; frame = c.frame.result.now } in
    let same : kept ≡ one = rw (c.original.ensures, c.frame.ensures) refl in
    passing_sent x card format all now old _ sinks one st (c.in-Ok.ensures.ok ∙ ap (λ (a : Arrival). old.frames ++ a ∷ []) same) refl (c.send.ensures.stands x (map packet_of all) st.got st.stands can home)
