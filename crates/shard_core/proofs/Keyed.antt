-- Packets that meet have one queue.
use Rattle.std.proofs.Common.{◌≡◌, List, ◌∷◌, Contains, ap, sym, ◌∙◌, subst}
use Rattle.std.proofs.lemmas.List.Elements.{Contains-append_right}
use Rattle.nf_base.specs.declared.packet.Packet.{Packet}
use Rattle.nf_base.specs.Text.{Function}
use Rattle.nf_base.specs.Locations.{no_numbers}
use Rattle.nf_base.specs.Runs.{Handling, Report, reports}
use Rattle.nf_base.specs.Step.{opening}
use Rattle.nf_laws.proofs.Listed.{here}
use Rattle.nf_laws.proofs.Reported.{reports_are}
use Rattle.rss_table.specs.Tables.{even_table, queue_at}
use Rattle.shard_core.specs.Keyed.{KeysGiveOneQueue}

-- the packet of a report is one of the run's
reported_sent : (f : Function) (hs : List Handling) (sent : List Packet) (a : Report) → ((h : Handling) → Contains hs h → Contains sent h.packet) → Contains (reports f (opening f) no_numbers hs) a → Contains sent a.packet
reported_sent f hs sent a within there =
    let r = (reports_are f (opening f) no_numbers hs a).0 there in
    let is : r.handling.packet ≡ a.packet = ap (λ (b : Report). b.packet) (sym r.is) in
    subst (Contains sent) is (within r.handling (subst (λ (xs : List Handling). Contains xs r.handling) (sym r.whole) (Contains-append_right r.earlier (r.handling ∷ r.later) r.handling (here r.handling r.later))))

pub keys_give : KeysGiveOneQueue
keys_give x keys count sent alike queue input hs within a b meet =
    queue a.packet
    ∙ ap (queue_at (even_table keys.table count)) (alike hs a b (input a.packet (reported_sent x.function hs sent a within meet.first)) (input b.packet (reported_sent x.function hs sent b within meet.second)) meet)
    ∙ sym (queue b.packet)
