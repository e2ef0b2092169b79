use Rattle.std.proofs.Common.{◌<◌, ◌∙◌, ℕ, length, ap, refl, slice_set}
use Rattle.std.proofs.lemmas.Option.{slice_get_read, slice_get-map}
use Rattle.std.specs.Option.{option_map}
use Rattle.packet_feed.specs.Streams.{Stream}
use Rattle.packet_feed.specs.Sources.{counts_in}
use Rattle.packet_feed.proofs.Standing.{at_file}
use Rattle.packet_feed.proofs.Nexts.{passed}
use Rattle.packet_feed.proofs.sources.pass.Goals as goal

pub pass-requires-clause-room : goal.pass-requires-clause-room
pass-requires-clause-room c =
    let all = c.args.sources.now in
    let port = c.args.first.port in
    let s = c.item_mut.result.now in
    let at = slice_get_read all (length all) port s refl c.requires.first.0 c.item_mut.ensures.value in
    at_file (λ (count : ℕ). count < 4294967295) (counts_in all) port s.seq (slice_get-map (λ (x : Stream). x.seq) all port ∙ ap (option_map (λ (x : Stream). x.seq)) at) c.requires.room

pub returns : goal.returns
returns c =
    let all = c.args.sources.now in
    let port = c.args.first.port in
    let s = c.item_mut.result.now in
    let at = slice_get_read all (length all) port s refl c.requires.first.0 c.item_mut.ensures.value in
    passed port s all (slice_set all port c.pass.new.self) at (ap (slice_set all port) c.pass.ensures.given) c.pass.ensures.time c.pass.ensures.captured
