-- Calls as they are kept, and the calls that these stand for.
use Rattle.std.specs.Prelude.{ℕ, ◌≤◌, ◌-◌, ◌^◌, min, List, length, map, All}
use Rattle.nf_base.specs.declared.packet.Packet.{Packet}
use Rattle.nf_base.specs.declared.done.Done.{Done}
use Rattle.lock_core.specs.declared.call.Way.{Way}
use Rattle.lock_core.specs.declared.call.Call.{Call}
use Rattle.short_answers.specs.declared.answer.Answer.{Answer}
use Rattle.short_answers.specs.Answers.{answer_in, IsThere}

-- a call as it is kept
pub record Note : Type 0 where
  pub packet : Packet
  pub place : ℕ
  pub answer : Answer
  pub way : Way

-- the call that it stands for
abbrev pub call_in : List Done → Note → Call
call_in whole n = record {
  way = n.way;
  place = n.place;
  packet = n.packet;
  done = answer_in whole n.answer;
}

-- those of all
abbrev pub calls_in : List Done → List Note → List Call
calls_in whole notes = map (call_in whole) notes

-- what a log is seen as: calls, and for how many more it has room
pub record LogState : Type 0 where
  pub calls : List Call
  pub room : ℕ

-- the room of a log with so many notes and answers, where these have so much
abbrev pub room_of : ℕ → ℕ → ℕ → ℕ → ℕ
room_of notes most_notes whole most_whole =
    min (2 ^ 32 - notes) (min (most_notes - notes) (most_whole - whole))

-- no more notes than a log has, and no more answers; each answer is there
pub record IsLog (whole : List Done) (notes : List Note) : Type 0 where
  pub few : length notes ≤ 2 ^ 32
  pub fewer : length whole ≤ length notes
  pub there : All (λ (n : Note). IsThere (length whole) n.answer) notes
