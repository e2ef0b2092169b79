-- Packets that were read, beside their frames.
use Rattle.std.specs.Prelude.{◌≡◌, ℕ, List, [], ◌∷◌, length, All}
use Rattle.std.specs.List.{AllByRecursion}
use Rattle.nf_base.specs.declared.packet.Packet.{Packet}
use Rattle.packet_feed.specs.Arrivals.{Arrival}
use Rattle.sharded_run.specs.Reading.{IsKept}
use Rattle.locked_run.specs.declared.kept.Frame.{Frame}
use Rattle.locked_run.specs.Pieces.{bytes_at, LiesIn}

-- a packet with its frame, which lies among pieces of memory
abbrev pub arrival_of : List (List ℕ) → Packet → Frame → Arrival
arrival_of pieces packet frame = record {
  packet = packet;
  original = frame.original;
  frame = bytes_at pieces frame.spot;
}

-- each packet with the frame beside it
abbrev pub arrivals : List (List ℕ) → List Packet → List Frame → List Arrival
arrivals pieces [] frames = []
arrivals pieces (p ∷ ps) [] = []
arrivals pieces (p ∷ ps) (f ∷ fs) = arrival_of pieces p f ∷ arrivals pieces ps fs

-- each frame lies there
abbrev pub AreThere : List (List ℕ) → List Frame → Type 0
AreThere pieces frames = AllByRecursion (λ (f : Frame). LiesIn pieces f.spot) frames

-- each packet has one, which lies there, and they are no more than a capture can hold
pub record AreKept (pieces : List (List ℕ)) (packets : List Packet) (frames : List Frame)
    : Type 0 where
  pub as_many : length packets ≡ length frames
  pub there : AreThere pieces frames
  pub kept : All (λ (a : Arrival). IsKept a.packet.time a.frame) (arrivals pieces packets frames)
