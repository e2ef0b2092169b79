-- The paths of a text: each way that its statements may go, whatever the packet and the state.
use Rattle.std.specs.Prelude.{ℕ, List, [], ◌∷◌, ◌++◌, map}
use Rattle.nf_base.specs.Text.{Ending, FallsOff, Forward, Flood, Discard, Operation, Question, Get, Find, Test, Creation, Block, End, Do, Ask, Make}

-- how a branching goes: a look-up or a test hits or misses, a `new` makes an entry or says why not
pub data Branch : Type 0 where
  Hits Misses Makes IsTaken IsFull : Branch

-- one statement of a path, with how it branched
pub data PathStep : Type 0 where
  Doing : Operation → PathStep
  Asking : Question → Branch → PathStep
  Making : Creation → Branch → PathStep
  Closing : Ending → PathStep

-- a statement in front of each of some paths
abbrev pub each_after : PathStep → List (List PathStep) → List (List PathStep)
each_after s paths = map (λ path. s ∷ path) paths

-- the end of a block that doesn't fall off, or what follows
abbrev pub ending_paths : Ending → List (List PathStep) → List (List PathStep)
ending_paths FallsOff rest = rest
ending_paths Flood rest = (Closing Flood ∷ []) ∷ []
ending_paths Discard rest = (Closing Discard ∷ []) ∷ []
ending_paths (Forward port) rest = (Closing (Forward port) ∷ []) ∷ []

-- the paths of a block that go on with one of `rest` where it falls off
abbrev pub paths : Block → List (List PathStep) → List (List PathStep)
paths (End e) rest = ending_paths e rest
paths (Do op next) rest = each_after (Doing op) (paths next rest)
paths (Ask q hit miss next) rest =
    each_after (Asking q Hits) (paths hit (paths next rest))
    ++ each_after (Asking q Misses) (paths miss (paths next rest))
paths (Make n made taken full next) rest =
    each_after (Making n Makes) (paths made (paths next rest))
    ++ (each_after (Making n IsTaken) (paths taken (paths next rest))
    ++ each_after (Making n IsFull) (paths full (paths next rest)))

-- an outcome: a statement's place, and how it went
pub record Outcome : Type 0 where
  pub place : ℕ
  pub branch : Branch

-- the text place of a question
abbrev pub question_place : Question → ℕ
question_place (Get place chain m key var) = place
question_place (Find place chain at guards var) = place
question_place (Test place comparison left right) = place

-- the outcome of a statement of a path, in front of those that follow
abbrev pub outcome_of : PathStep → List Outcome → List Outcome
outcome_of (Doing op) rest = rest
outcome_of (Asking q b) rest = record { place = question_place q; branch = b } ∷ rest
outcome_of (Making n b) rest = record { place = n.place; branch = b } ∷ rest
outcome_of (Closing e) rest = rest

-- the outcomes along a path
abbrev pub outcomes_along : List PathStep → List Outcome
outcomes_along [] = []
outcomes_along (s ∷ ss) = outcome_of s (outcomes_along ss)
