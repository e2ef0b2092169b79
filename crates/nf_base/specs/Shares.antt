-- Which indices a queue owns, where its share stops, and what one owner sees of a list by index.
use Rattle.std.specs.Prelude.{◌≡◌, ℕ, suc, ◌%◌, ◌==◌, ◌&&◌, nat_lt, Bool, true, false, IsTrue, List, [], ◌∷◌, All, Option, Some, None, if◌then◌else◌}
use Rattle.nf_base.specs.declared.packet.Packet.{Packet}
use Rattle.nf_base.specs.declared.packet.Fields.{Fields}
use Rattle.nf_base.specs.declared.share.Share.{Share}
use Rattle.nf_base.specs.declared.state.Entry.{Entry}
use Rattle.nf_base.specs.declared.state.State.{State}
use Rattle.nf_base.specs.Text.{Function}
use Rattle.nf_base.specs.Operations.{Stops}
use Rattle.nf_base.specs.Course.{StoppedAt}
use Rattle.nf_base.specs.Families.{door_of}
use Rattle.nf_base.specs.Doors.{handler_at}
use Rattle.nf_base.specs.Step.{completes}

-- of every chain, the indices that are the queue mod the number of queues
abbrev pub owns : Share → ℕ → Bool
owns share i = i % share.of == share.queue

-- whether no own index is vacant
abbrev pub none_vacant : (ℕ → Bool) → List (Option Entry) → Bool
none_vacant own [] = true
none_vacant own (None ∷ slots) = if own 0 then false else none_vacant (λ i. own (suc i)) slots
none_vacant own (Some entry ∷ slots) = none_vacant (λ i. own (suc i)) slots

-- a share stops at a `new` where no index of it is vacant; the whole share answers `full` there
abbrev pub share_stops : Share → Stops
share_stops share chain state = nat_lt 1 share.of && none_vacant (owns share) state.slots

-- some choices are a share's own
abbrev pub AreOwn : Share → List ℕ → Type 0
AreOwn share choices = All (λ i. IsTrue (owns share i)) choices

-- The share stop of a packet: with these choices, each of them own and all used, it comes to a `new`
-- of a chain with no key taken and no own index vacant.
pub record IsShareStop (share : Share) (f : Function) (s : State) (packet : Packet) (fields : Fields)
    (choices : List ℕ) (chain : ℕ) : Type 0 where
  pub handled : packet.fields ≡ Some fields
  pub own : AreOwn share choices
  pub stops :
      completes (share_stops share) f s packet.time fields choices (handler_at f (door_of packet.id.port fields))
      ≡ StoppedAt chain []

-- a list that is the first one where the index is own, and else the opening value
abbrev pub mix : {A : Type 0} → (ℕ → Bool) → (ℕ → A) → List A → List A
mix own opened [] = []
mix own opened (x ∷ xs) =
    (if own 0 then x else opened 0) ∷ mix (λ i. own (suc i)) (λ i. opened (suc i)) xs
