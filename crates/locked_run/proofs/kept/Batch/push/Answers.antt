use Rattle.std.proofs.Common.{◌≡◌, ◌≤◌, ◌++◌, ◌∷◌, [], ℕ, List, length, ap, sym, subst, ◌∙◌}
use Rattle.nf_base.specs.declared.packet.Packet.{Packet}
use Rattle.packet_feed.specs.Arrivals.{Arrival}
use Rattle.sharded_run.specs.Reading.{IsKept}
use Rattle.locked_run.specs.declared.kept.Frame.{Frame}
use Rattle.locked_run.specs.Batches.{arrival_of, arrivals, AreKept}
use Rattle.locked_run.proofs.Batching.{arrivals_pushed, kept_pushed, arrivals_stay, kept_stay, on_err}
use Rattle.locked_run.proofs.kept.Batch.push.Goals as goal

pub invariant_of-self-in_err-spot : goal.invariant_of-self-in_err-spot
invariant_of-self-in_err-spot c =
    let b = c.self.inside in
    let new = c.put.new.self in
    subst (λ (ps : List Packet). AreKept new ps c.reserve.new.self.items) (sym c.reserve-2.ensures.items)
    (subst (AreKept new b.packets.items) (sym c.reserve.ensures.items) (kept_stay b.pieces new c.put.ensures.stay b.packets.items b.frames.items c.self.invariant))

pub returns-in_err-spot-clause-err : goal.returns-in_err-spot-clause-err
returns-in_err-spot-clause-err c =
    let b = c.self.inside in
    let new = c.put.new.self in
    on_err c.from_residual-in_err-spot.result (arrivals new c.reserve-2.new.self.items c.reserve.new.self.items ≡ c.args.self.now)
    (ap (λ (ps : List Packet). arrivals new ps c.reserve.new.self.items) c.reserve-2.ensures.items
    ∙ ap (arrivals new b.packets.items) c.reserve.ensures.items
    ∙ arrivals_stay b.pieces new c.put.ensures.stay b.packets.items b.frames.items c.self.invariant.there
    ∙ c.self.view_is)

pub invariant_of-self-2 : goal.invariant_of-self-2
invariant_of-self-2 c =
    let b = c.self.inside in
    let new = c.put.new.self in
    let ps = b.packets.items in
    let fs = b.frames.items in
    let p : Packet = c.args.packet.now in
    let f : Frame = record { original = c.args.original; spot = c.in_ok-spot.spot } in
    let packets : c.push_reserved.new.self.items ≡ ps ++ p ∷ [] = c.push_reserved.ensures.items ∙ ap (λ (xs : List Packet). xs ++ p ∷ []) c.reserve-2.ensures.items in
    let frames : c.push_reserved-2.new.self.items ≡ fs ++ f ∷ [] = c.push_reserved-2.ensures.items ∙ ap (λ (xs : List Frame). xs ++ f ∷ []) c.reserve.ensures.items in
    let one : IsKept p.time (arrival_of new p f).frame = record {
      time_is = c.requires.time;
      captured = subst (λ (bs : List ℕ). length bs ≤ 262144) (sym c.in_ok-spot.ensures.bytes) c.requires.captured;
    } in
    subst (λ (xs : List Packet). AreKept new xs c.push_reserved-2.new.self.items) (sym packets)
    (subst (AreKept new (ps ++ p ∷ [])) (sym frames) (kept_pushed new ps fs p f (kept_stay b.pieces new c.put.ensures.stay ps fs c.self.invariant) c.in_ok-spot.ensures.lies one))

pub returns-clause-ok : goal.returns-clause-ok
returns-clause-ok c =
    let b = c.self.inside in
    let new = c.put.new.self in
    let ps = b.packets.items in
    let fs = b.frames.items in
    let p : Packet = c.args.packet.now in
    let f : Frame = record { original = c.args.original; spot = c.in_ok-spot.spot } in
    let packets : c.push_reserved.new.self.items ≡ ps ++ p ∷ [] = c.push_reserved.ensures.items ∙ ap (λ (xs : List Packet). xs ++ p ∷ []) c.reserve-2.ensures.items in
    let frames : c.push_reserved-2.new.self.items ≡ fs ++ f ∷ [] = c.push_reserved-2.ensures.items ∙ ap (λ (xs : List Frame). xs ++ f ∷ []) c.reserve.ensures.items in
    let one : Arrival = record { packet = p; original = c.args.original; frame = c.args.frame.now } in
    let is : arrival_of new p f ≡ one = ap (λ (bs : List ℕ). record { packet = p; original = c.args.original; frame = bs }) c.in_ok-spot.ensures.bytes in
    ap (λ (xs : List Packet). arrivals new xs c.push_reserved-2.new.self.items) packets
    ∙ ap (arrivals new (ps ++ p ∷ [])) frames
    ∙ arrivals_pushed new ps fs p f c.self.invariant.as_many
    ∙ ap (λ (as_list : List Arrival). as_list ++ arrival_of new p f ∷ []) (arrivals_stay b.pieces new c.put.ensures.stay ps fs c.self.invariant.there)
    ∙ ap (λ (a : Arrival). arrivals b.pieces ps fs ++ a ∷ []) is
    ∙ ap (λ (xs : List Arrival). xs ++ one ∷ []) c.self.view_is
