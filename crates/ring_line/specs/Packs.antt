-- Packets that go to a worker together, and what comes back of them.
use Rattle.std.specs.Prelude.{◌≡◌, ℕ, List, [], ◌∷◌, ◌++◌, Option, Some, None, slice_get}
use Rattle.nf_base.specs.declared.packet.Packet.{Packet}
use Rattle.nf_base.specs.declared.done.Done.{Done}
use Rattle.shard_machine.specs.declared.event.Answer.{Answer}
use Rattle.ring_line.specs.declared.halt.Halt.{Halt}

-- packets, the answers to the first of them, and the packet behind those at which the share ended
pub record Packed : Type 0 where
  pub packets : List Packet
  pub answers : List Done
  pub halt : Option Halt

-- a pack of no packets
abbrev pub empty_pack : Packed
empty_pack = record { packets = []; answers = []; halt = None }

-- the first packets, each with its answer
abbrev pub answered : List Packet → List Done → List Answer
answered [] dones = []
answered (p ∷ ps) [] = []
answered (p ∷ ps) (d ∷ ds) = record { packet = p; done = d } ∷ answered ps ds

-- what is answered in a pack
abbrev pub answers_of : Packed → List Answer
answers_of pack = answered pack.packets pack.answers

-- the packet of this number in a pack, with its answer
pub record IsAnswerAt (pack : Packed) (i : ℕ) (answer : Answer) : Type 0 where
  pub packet : slice_get pack.packets i ≡ Some answer.packet
  pub done : slice_get pack.answers i ≡ Some answer.done

-- the packets of packs, one pack behind another
abbrev pub packets_in : List Packed → List Packet
packets_in [] = []
packets_in (pack ∷ packs) = pack.packets ++ packets_in packs

-- what is answered in them
abbrev pub answers_in : List Packed → List Answer
answers_in [] = []
answers_in (pack ∷ packs) = answers_of pack ++ answers_in packs

-- at most the last pack tells that the share ended, and it tells where
abbrev pub TellsAtLast : Option Halt → List Packed → Type 0
TellsAtLast halt [] = halt ≡ None
TellsAtLast halt (pack ∷ []) = pack.halt ≡ halt
TellsAtLast halt (pack ∷ next ∷ packs) = (pack.halt ≡ None) × TellsAtLast halt (next ∷ packs)
