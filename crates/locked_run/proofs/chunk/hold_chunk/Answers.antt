use Rattle.std.proofs.Common.{◌≡◌, ◌+◌, ◌∙◌, List, map, subst, arith}
use Rattle.packet_feed.specs.Arrivals.{packet_of}
use Rattle.short_answers.specs.Answers.{done_told}
use Rattle.stream_run.specs.Runs.{Handled}
use Rattle.locked_run.specs.Handled.{joined}
use Rattle.locked_run.specs.Chunks.{HoldPieces}
use Rattle.locked_run.proofs.Joining.{places_long, joined_long, place_within, pair_at, handled_as, handled_so}
use Rattle.locked_run.proofs.Chunked.{chunk_ends, filled_more}
use Rattle.locked_run.proofs.chunk.hold_chunk.Goals as goal

pub loop-j-preserved : goal.loop-j-preserved
loop-j-preserved c =
    let batch = c.args.batch.now in
    let order = c.args.order.now in
    let places = c.args.places.now in
    let from = c.args.from in
    let j = c.loop-j.j in
    let all = joined batch order places in
    let long = places_long (map packet_of batch) order places c.requires.at in
    let p = pair_at batch order places (from + j) c.requires.at (omega (arith, long)) in
    let came : Handled = record { arrival = p.a; worker = c.seat.result; done = done_told c.told.result } in
    let same : came ≡ handled_as p.a p.x = handled_so p.a p.x c.seat.result (done_told c.told.result) (c.seat.ensures p.x p.is) (c.told.ensures p.x p.is) in
    record {
      holds = λ format bare.
          filled_more format c.args.ports all from j came (handled_as p.a p.x) c.loop-j.sinks c.hold_one.new.sinks p.here same (c.loop-j.invariant.holds format bare) (c.in-Ok.ensures.ok p.a p.at);
      same_files = c.hold_one.ensures.same_files ∙ c.loop-j.invariant.same_files;
    }

pub seat-requires : goal.seat-requires
seat-requires c = let long = places_long (map packet_of c.args.batch.now) c.args.order.now c.args.places.now c.requires.at in omega (arith, long)

pub told-requires : goal.told-requires
told-requires c = let long = places_long (map packet_of c.args.batch.now) c.args.order.now c.args.places.now c.requires.at in omega (arith, long)

pub hold_one-requires-clause-place : goal.hold_one-requires-clause-place
hold_one-requires-clause-place c =
    let long = places_long (map packet_of c.args.batch.now) c.args.order.now c.args.places.now c.requires.at in
    place_within c.args.batch.now c.args.order.now c.args.places.now (c.args.from + c.loop-j.j) 0 c.requires.at (omega (arith, long))

pub returns-clause-ok : goal.returns-clause-ok
returns-clause-ok c = λ format bare.
    let batch = c.args.batch.now in
    let order = c.args.order.now in
    let places = c.args.places.now in
    let all = joined batch order places in
    let from = c.args.from in
    let j = c.loop-j.j in
    let long = joined_long batch order places c.requires.at in
    let as_many = places_long (map packet_of batch) order places c.requires.at in
    subst (λ (hs : List Handled). HoldPieces format c.args.ports hs c.loop-j.sinks) (chunk_ends all from c.args.size j (omega (arith, long, as_many, c.min-count.ensures, c.saturating_sub.ensures, c.loop-j-test.false, c.loop-j.auto.j-end))) (c.loop-j.invariant.holds format bare)
