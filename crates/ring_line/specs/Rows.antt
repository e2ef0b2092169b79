-- Packs and workers of a few packets.
use Rattle.std.specs.Prelude.{◌≡◌, ℕ, ◌==◌, [], ◌∷◌, Some, None, if◌then◌else◌}
use Rattle.nf_base.specs.declared.share.Share.{Share}
use Rattle.shard_laws.specs.Rows.{first, second, third}
use Rattle.shard_machine.specs.declared.event.Event.TheVariants.{Dispatch, Work, Collect}
use Rattle.shard_machine.specs.declared.event.Answer.{Answer}
use Rattle.shard_machine.specs.Rows.{two, answer}
use Rattle.shard_core.specs.declared.collected.Collected.{Collected}
use Rattle.ring_line.specs.declared.halt.Halt.{Halt}
use Rattle.ring_line.specs.Packs.{Packed, answered, answers_in, packets_in, TellsAtLast}
use Rattle.ring_line.specs.ThreadWorkers.{IsLast}
use Rattle.ring_line.specs.Plays.{collected_at, line_events}

-- the second of these packets is one at which a share ends
abbrev pub ended : Halt
ended = record { chain = 0; packet = second.packet }

-- both packets, of which the first is answered
abbrev pub half_answered : Packed
half_answered = record {
  packets = first.packet ∷ second.packet ∷ [];
  answers = (answer first).done ∷ [];
  halt = Some ended;
}

-- a pack of the third one, which is answered
abbrev pub all_answered : Packed
all_answered = record {
  packets = third.packet ∷ [];
  answers = (answer third).done ∷ [];
  halt = None;
}

-- Answers stand with their packets, in the order of the packs, and packets that have none with none.
-- An end may be told by the last pack, and by no other; where none is told, there is none.
pub record PacksAreTold : Type 0 where
  pub answers :
      answers_in (all_answered ∷ half_answered ∷ []) ≡ answer third ∷ answer first ∷ []
  pub packets :
      packets_in (all_answered ∷ half_answered ∷ [])
      ≡ third.packet ∷ first.packet ∷ second.packet ∷ []
  pub no_packet : answered [] ((answer first).done ∷ []) ≡ []
  pub told_last : TellsAtLast (Some ended) (all_answered ∷ half_answered ∷ [])
  pub told_first : TellsAtLast (Some ended) (half_answered ∷ all_answered ∷ []) → ⊥
  pub told_wrongly : TellsAtLast None (all_answered ∷ half_answered ∷ []) → ⊥
  pub not_told : TellsAtLast (Some ended) (all_answered ∷ []) → ⊥
  pub last : IsLast (half_answered ∷ all_answered ∷ []) all_answered
  pub not_last : IsLast (all_answered ∷ half_answered ∷ []) all_answered → ⊥
  pub none_ended : IsLast [] half_answered → ⊥

-- an answer that was collected of a queue
abbrev pub of_queue : ℕ → Answer → Collected
of_queue queue a = record { packet = a.packet; queue = queue; done = a.done }

-- Two packets of queue 0 and one of queue 1 are sent, worked, and the first two answers collected.
pub record LinesAreTold (share : ℕ → Share) : Type 0 where
  pub events :
      line_events (two share) (first.packet ∷ second.packet ∷ third.packet ∷ [])
      (λ w. if w == 0 then 2 else 1) 2
      ≡ Dispatch first.packet ∷ Dispatch second.packet ∷ Dispatch third.packet ∷ Work 0 ∷ Work 0
      ∷ Work 1 ∷ Collect ∷ Collect ∷ []
  pub zero :
      collected_at 0
      (of_queue 0 (answer first) ∷ of_queue 1 (answer second) ∷ of_queue 0 (answer third) ∷ [])
      ≡ answer first ∷ answer third ∷ []
  pub one :
      collected_at 1 (of_queue 0 (answer first) ∷ of_queue 1 (answer second) ∷ [])
      ≡ answer second ∷ []

-- whatever the shares
abbrev pub LinesAreToldOf : Type 0
LinesAreToldOf = (share : ℕ → Share) → LinesAreTold share
