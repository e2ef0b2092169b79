use Rattle.std.proofs.Common.{◌≡◌, ◌∙◌, ◌-◌, List, length, Option, Some, None, ltb-true, ltb-false, refl, sym, ap, subst}
use Rattle.std.specs.List.{slice_get}
use Rattle.std.specs.Option.{option_map, IfSome}
use Rattle.std.proofs.lemmas.Option.{slice_get_read, slice_get_past}
use Rattle.nf_base.specs.Doors.{served_fields}
use Rattle.frame_ip.specs.Frame.{Seen}
use Rattle.packet_feed.specs.Arrivals.{fields_captured, fields_seen}
use Rattle.packet_feed.specs.Streams.{Stream}
use Rattle.packet_feed.specs.Feeding.{Feeding, frame_in, original_in, frame_of, original_of, last_at, last_packet}
use Rattle.packet_feed.proofs.Nexts.{came_from}
use Rattle.packet_feed.proofs.feed.Feed.view.Goals as goal

seen_there : (v : Feeding) (s : Stream) (seen : Option Seen) → slice_get v.sources v.shown ≡ Some s → IfSome seen (λ (x : Seen). x ≡ record { frame = s.frame; original = s.original }) → IfSome seen (λ (x : Seen). x ≡ record { frame = frame_of v; original = original_of v })
seen_there v s seen at h =
    let P : Option Stream → Type 0 = λ o. IfSome seen (λ (x : Seen). x ≡ record { frame = frame_in o; original = original_in o }) in
    subst P (sym at) h

fields_there : (v : Feeding) (s : Stream) (seen : Option Seen) → slice_get v.sources v.shown ≡ Some s → option_map fields_seen seen ≡ served_fields s.six (fields_captured s.is_ethernet s.frame s.original) → option_map fields_seen seen ≡ (last_packet v).fields
fields_there v s seen at h =
    h ∙ sym (came_from s.six v.shown (s.seq - 1) s.latest s.is_ethernet s.original s.frame) ∙ ap (λ (o : Option Stream). (last_at v.shown o).fields) (sym at)

read_there : (v w : Feeding) (xs : List Stream) (o : Option Stream) → w ≡ v → xs ≡ w.sources → slice_get xs w.shown ≡ o → slice_get v.sources v.shown ≡ o
read_there v w xs o is same read = rw (← is, ← same) read

pub returns-in-Some-clause-seen : goal.returns-in-Some-clause-seen
returns-in-Some-clause-seen c =
    let xs = c.as_slice.result.now in
    let s = c.in-Some.source.now in
    let read = slice_get_read xs (length xs) c.self.inside.shown s refl (ltb-true _ _ (sym c.in-Some.ensures.lookup.0)) c.in-Some.ensures.lookup.1 in
    seen_there c.args.self.now s c.view.result (read_there c.args.self.now _ xs (Some s) c.self.view_is c.as_slice.ensures read) c.view.ensures.seen

pub returns-in-Some-clause-fields : goal.returns-in-Some-clause-fields
returns-in-Some-clause-fields c =
    let xs = c.as_slice.result.now in
    let s = c.in-Some.source.now in
    let read = slice_get_read xs (length xs) c.self.inside.shown s refl (ltb-true _ _ (sym c.in-Some.ensures.lookup.0)) c.in-Some.ensures.lookup.1 in
    fields_there c.args.self.now s c.view.result (read_there c.args.self.now _ xs (Some s) c.self.view_is c.as_slice.ensures read) c.view.ensures.fields

pub returns-in-None-clause-fields : goal.returns-in-None-clause-fields
returns-in-None-clause-fields c =
    let xs = c.as_slice.result.now in
    let v = c.args.self.now in
    let past = slice_get_past xs c.self.inside.shown (ltb-false _ _ (sym c.in-None.ensures.lookup.0)) in
    ap (λ (o : Option Stream). (last_at v.shown o).fields) (sym (read_there v _ xs None c.self.view_is c.as_slice.ensures past))
