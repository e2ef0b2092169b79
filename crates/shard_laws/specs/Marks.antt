-- Of each entry the bucket of the packet that made it, and of each cell that of the packet that last
-- gave it a value.
use Rattle.std.specs.Prelude.{ℕ, Bool, false, ◌==◌, ◌&&◌, List, [], ◌∷◌, Option, Some, None, if◌then◌else◌}
use Rattle.nf_base.specs.declared.packet.Packet.{Packet}
use Rattle.nf_base.specs.declared.state.State.{State}
use Rattle.nf_base.specs.Text.{Function}
use Rattle.nf_base.specs.Events.{Event, Tested, LookedUp, Found, AskedNew, EntryUsed, EntryFreed, CellRead, CellWritten}
use Rattle.nf_base.specs.Operations.{Stops}
use Rattle.nf_base.specs.Record.{made_of}
use Rattle.nf_base.specs.Runs.{Handling}
use Rattle.nf_base.specs.Step.{StepResult, step, step_by, recorded, recorded_by}
use Rattle.nf_laws.specs.Numbering.{is_at}

-- Beside a state: of each index of a chain the bucket of the packet that last made an entry there,
-- and of each cell of an array that of the packet that last gave it a value; none where none did.
pub record Marks : Type 0 where
  pub maker : (chain index : ℕ) → Option ℕ
  pub writer : (array index : ℕ) → Option ℕ

-- before the first packet
abbrev pub no_marks : Marks
no_marks = record { maker = λ chain index. None; writer = λ array index. None }

-- whether an event gives a cell of an array a value
abbrev pub is_stored : ℕ → ℕ → Event → Bool
is_stored a i (Tested place holds) = false
is_stored a i (LookedUp place chain m key hit) = false
is_stored a i (Found place chain hit) = false
is_stored a i (AskedNew place chain labels result) = false
is_stored a i (EntryUsed chain index changed) = false
is_stored a i (EntryFreed chain index) = false
is_stored a i (CellRead place array index) = false
is_stored a i (CellWritten place array index changed) = a == array && i == index

-- the marks after an event of a packet of a bucket
abbrev pub marked : ℕ → Event → Marks → Marks
marked b e ms = record {
  maker = λ k i. if is_at k i (made_of e) then Some b else ms.maker k i;
  writer = λ a i. if is_stored a i e then Some b else ms.writer a i;
}

-- the marks after a record of such a packet
abbrev pub all_marks : ℕ → Marks → List Event → Marks
all_marks b ms [] = ms
all_marks b ms (e ∷ es) = all_marks b (marked b e ms) es

-- the marks after a packet's step, or where the run ends at it
abbrev pub marks_if : Marks → Option StepResult → (State → Marks) → Marks
marks_if ms None rest = ms
marks_if ms (Some next) rest = rest next.state

-- the marks after the packets of a run, up to and with the first one that has no step
abbrev pub marks_of : Stops → (Packet → ℕ) → Function → State → Marks → List Handling → Marks
marks_of stops bucket f s ms [] = ms
marks_of stops bucket f s ms (h ∷ hs) =
    let now = all_marks (bucket h.packet) ms (recorded_by stops f s h.packet h.choices) in
    marks_if now (step_by stops f s h.packet h.choices) (λ next. marks_of stops bucket f next now hs)

-- the marks that the packets of a queue make in the run of all
abbrev pub marks_at :
    (Packet → ℕ) → ℕ → (Packet → ℕ) → Function → State → Marks → List Handling → Marks
marks_at queue v bucket f s ms [] = ms
marks_at queue v bucket f s ms (h ∷ hs) =
    let now =
    if queue h.packet == v then all_marks (bucket h.packet) ms (recorded f s h.packet h.choices)
    else ms in
    marks_if now (step f s h.packet h.choices) (λ next. marks_at queue v bucket f next now hs)
