use Rattle.std.proofs.Common.{◌≡◌, ◌≤◌, ℕ, List, Option, slice_get, length, ap, sym, subst, refl, ◌∙◌, arith}
use Rattle.std.proofs.lemmas.Option.{slice_get_read, same_Some}
use Rattle.nf_base.specs.declared.packet.Fields.{Fields}
use Rattle.packet_feed.specs.Arrivals.{Arrival}
use Rattle.stream_run.specs.Writing.{came_to}
use Rattle.locked_run.specs.Batches.{arrival_of}
use Rattle.locked_run.proofs.Batching.{as_long, arrival_at, kept_at, lies_at}
use Rattle.locked_run.proofs.kept.Batch.handled.Goals as goal

pub index-packet-requires : goal.index-packet-requires
index-packet-requires c =
    let b = c.self.inside in
    let long = as_long b.pieces b.packets.items b.frames.items c.self.invariant.as_many in
    let same = ap (λ (as_list : List Arrival). length as_list) c.self.view_is in
    omega (arith, c.requires, long, same, b.packets.ok.0)

pub index-frame-requires : goal.index-frame-requires
index-frame-requires c =
    let b = c.self.inside in
    let long = as_long b.pieces b.packets.items b.frames.items c.self.invariant.as_many in
    let same = ap (λ (as_list : List Arrival). length as_list) c.self.view_is in
    omega (arith, c.requires, long, same, c.self.invariant.as_many, b.frames.ok.0)

pub at-bytes-requires : goal.at-bytes-requires
at-bytes-requires c =
    let b = c.self.inside in
    let ps = b.packets.items in
    let fs = b.frames.items in
    let k = c.args.place in
    let f = c.index-frame.result.now in
    let long = as_long b.pieces ps fs c.self.invariant.as_many in
    let same = ap (λ (as_list : List Arrival). length as_list) c.self.view_is in
    let many = c.self.invariant.as_many in
    let q = slice_get_read fs (length fs) k f refl (omega (arith, c.requires, long, same, many)) c.index-frame.ensures in
    lies_at b.pieces ps fs k f c.self.invariant q

pub invariant_of-result : goal.invariant_of-result
invariant_of-result c =
    let b = c.self.inside in
    let ps = b.packets.items in
    let fs = b.frames.items in
    let k = c.args.place in
    let p = c.index-packet.result.now in
    let f = c.index-frame.result.now in
    let long = as_long b.pieces ps fs c.self.invariant.as_many in
    let same = ap (λ (as_list : List Arrival). length as_list) c.self.view_is in
    let many = c.self.invariant.as_many in
    let e = slice_get_read ps (length ps) k p refl (omega (arith, c.requires, long, same)) c.index-packet.ensures in
    let q = slice_get_read fs (length fs) k f refl (omega (arith, c.requires, long, same, many)) c.index-frame.ensures in
    let kept = kept_at b.pieces ps fs k p f c.self.invariant e q in
    (kept.time_is, subst (λ (bs : List ℕ). length bs ≤ 262144) (sym c.at-bytes.ensures) kept.captured)

pub returns : goal.returns
returns c = λ a at.
    let b = c.self.inside in
    let ps = b.packets.items in
    let fs = b.frames.items in
    let k = c.args.place in
    let p = c.index-packet.result.now in
    let f = c.index-frame.result.now in
    let long = as_long b.pieces ps fs c.self.invariant.as_many in
    let same = ap (λ (as_list : List Arrival). length as_list) c.self.view_is in
    let many = c.self.invariant.as_many in
    let e = slice_get_read ps (length ps) k p refl (omega (arith, c.requires, long, same)) c.index-packet.ensures in
    let q = slice_get_read fs (length fs) k f refl (omega (arith, c.requires, long, same, many)) c.index-frame.ensures in
    let here : arrival_of b.pieces p f ≡ a = same_Some _ _ (sym (arrival_at b.pieces ps fs k p f e q) ∙ (ap (λ (as_list : List Arrival). slice_get as_list k) c.self.view_is ∙ at)) in
    ap (λ (fields : Option Fields). came_to c.args.worker (record { id = p.id; time = p.time; fields = fields }) f.original c.at-bytes.result.now (record { action = c.args.action; edits = c.args.edits.now; picks = c.args.picks.now })) c.of_packet.ensures
    ∙ ap (λ (bs : List ℕ). came_to c.args.worker p f.original bs (record { action = c.args.action; edits = c.args.edits.now; picks = c.args.picks.now })) c.at-bytes.ensures
    ∙ ap (λ (z : Arrival). record { arrival = z; worker = c.args.worker; done = record { action = c.args.action; edits = c.args.edits.now; picks = c.args.picks.now } }) here
