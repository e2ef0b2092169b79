-- The events of a round of two queues.
use Rattle.std.specs.Prelude.{◌≡◌, ℕ, [], ◌∷◌}
use Rattle.nf_base.specs.declared.share.Share.{Share}
use Rattle.shard_laws.specs.Rows.{counted, first, second, third}
use Rattle.shard_machine.specs.declared.event.Event.TheVariants.{Dispatch, Work, Collect}
use Rattle.shard_machine.specs.Machine.{new_machine}
use Rattle.shard_machine.specs.Events.{dispatched}
use Rattle.shard_machine.specs.Rows.{two}
use Rattle.shard_rounds.specs.Rounds.{waits_at, round_events}

-- Two packets of queue 0 and one of queue 1: new workers are called twice and once, and those that
-- a packet waits for once more. An answer is collected for each that is handed out.
pub record EventsOfARound (share : ℕ → Share) : Type 0 where
  pub new :
      round_events (two share) (new_machine counted)
      (first.packet ∷ second.packet ∷ third.packet ∷ []) 3
      ≡ Dispatch first.packet ∷ Dispatch second.packet ∷ Dispatch third.packet ∷ Work 0 ∷ Work 0
      ∷ Work 1 ∷ Collect ∷ Collect ∷ Collect ∷ []
  pub waiting :
      round_events (two share) (dispatched (two share) first.packet (new_machine counted))
      (second.packet ∷ third.packet ∷ []) 1
      ≡ Dispatch second.packet ∷ Dispatch third.packet ∷ Work 0 ∷ Work 0 ∷ Work 1 ∷ Collect ∷ []
  pub none : round_events (two share) (new_machine counted) [] 0 ≡ []
  pub beyond :
      waits_at (two share) (new_machine counted) (first.packet ∷ second.packet ∷ []) 2 ≡ 0

-- whatever the shares
abbrev pub EventsOfRounds : Type 0
EventsOfRounds = (share : ℕ → Share) → EventsOfARound share
