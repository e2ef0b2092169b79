-- What a round handed out, of its batch.
use Rattle.std.proofs.Common.{◌≡◌, List, [], ◌∷◌, ◌++◌, map, Option, refl, ap, sym, ◌∙◌, subst}
use Rattle.nf_base.specs.declared.packet.Packet.{Packet}
use Rattle.shard_machine.specs.declared.event.Answer.{Answer}
use Rattle.shard_machine.specs.Machine.{Setup, Machine, packets_of}
use Rattle.shard_machine.proofs.Sent.{append_twice, map_append, same_behind}
use Rattle.shard_core.specs.declared.collected.Collected.{Collected}
use Rattle.shard_core.specs.declared.collected.Stop.{Stop}
use Rattle.shard_core.specs.Sharded.{Sharded, IsStopOf, answer_of}
use Rattle.shard_rounds.specs.declared.round.Round.{Round}
use Rattle.shard_rounds.specs.Rounds.{RanRound}
use Rattle.shard_rounds.specs.Laws.{handled_packets, HandsOutItsBatch, HandsOutUpToTheStop}

answered : (cs : List Collected) → packets_of (map answer_of cs) ≡ map (λ (c : Collected). c.packet) cs
answered [] = refl
answered (c ∷ cs) = ap (λ (ps : List Packet). c.packet ∷ ps) (answered cs)

-- all that is collected now
now : (x : Setup) (m : Machine) (batch : List Packet) (round : Round) (new : Sharded) (r : RanRound x m batch round new) → packets_of r.machine.collected ≡ packets_of m.collected ++ handled_packets round
now x m batch round new r = ap packets_of r.collected ∙ map_append (λ (a : Answer). a.packet) m.collected (map answer_of round.handled) ∙ ap (λ (ps : List Packet). packets_of m.collected ++ ps) (answered round.handled)

pub hands_out : HandsOutItsBatch
hands_out x m batch round new r all none =
    same_behind (packets_of m.collected) (handled_packets round) batch (sym (now x m batch round new r) ∙ r.all none ∙ r.dispatched ∙ ap (λ (ps : List Packet). ps ++ batch) (sym all))

pub hands_up_to : HandsOutUpToTheStop
hands_up_to x m batch round new stop r all is =
    let at = (subst (λ (s : Option Stop). IsStopOf x r.machine s) is r.stop).0 in (
      at.later,
      same_behind (packets_of m.collected) batch (handled_packets round ++ stop.packet ∷ at.later)
          (ap (λ (ps : List Packet). ps ++ batch) all ∙ sym r.dispatched ∙ at.next ∙ ap (λ (ps : List Packet). ps ++ stop.packet ∷ at.later) (now x m batch round new r) ∙ append_twice (packets_of m.collected) (handled_packets round) (stop.packet ∷ at.later)),
    )
