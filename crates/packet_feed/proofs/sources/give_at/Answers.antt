use Rattle.std.proofs.Common.{◌<◌, ◌∙◌, ℕ, true, false, length, ap, refl, sym, slice_set}
use Rattle.std.proofs.lemmas.Option.{slice_get_read, slice_get-map}
use Rattle.std.specs.Option.{option_map}
use Rattle.packet_feed.specs.Streams.{Stream}
use Rattle.packet_feed.specs.Sources.{counts_in}
use Rattle.packet_feed.proofs.Standing.{at_file}
use Rattle.packet_feed.proofs.ByPort.{held_there}
use Rattle.packet_feed.proofs.sources.give_at.Goals as goal

pub give-requires-clause-room : goal.give-requires-clause-room
give-requires-clause-room c =
    let all = c.args.sources.now in
    let port = c.args.port in
    let s = c.item_mut.result.now in
    let at = slice_get_read all (length all) port s refl c.requires.inside c.item_mut.ensures.value in
    at_file (λ (count : ℕ). count < 4294967295) (counts_in all) port s.seq (slice_get-map (λ (x : Stream). x.seq) all port ∙ ap (option_map (λ (x : Stream). x.seq)) at) c.requires.room

pub returns-then-is_held : goal.returns-then-is_held
returns-then-is_held c =
    let all = c.args.sources.now in
    let port = c.args.port in
    let s = c.item_mut.result.now in
    let t = c.item.result.now in
    let at = slice_get_read all (length all) port s refl c.requires.inside c.item_mut.ensures.value in
    let read = slice_get_read all (length all) port t refl c.requires.inside c.item.ensures in (
      record {
        source = s;
        at = at;
        packet_is = c.give.ensures.packet;
        new_is = ap (slice_set all port) c.give.ensures.given;
        time = c.give.ensures.time;
        captured = c.give.ensures.captured;
      },
      held_there all port t true read (sym c.is_held.ensures ∙ c.if-is_held.true),
    )

pub returns-else-is_held : goal.returns-else-is_held
returns-else-is_held c =
    let all = c.args.sources.now in
    let port = c.args.port in
    let t = c.item.result.now in
    let read = slice_get_read all (length all) port t refl c.requires.inside c.item.ensures in
    (refl, held_there all port t false read (sym c.is_held.ensures ∙ c.if-is_held.false))
