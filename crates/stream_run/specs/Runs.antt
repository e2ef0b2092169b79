-- A run: packets that are handled one after the other, with the choices that were made for each.
use Rattle.std.specs.Prelude.{◌≡◌, ℕ, List, [], ◌∷◌, ◌++◌, map, Option, Some, None}
use Rattle.nf_base.specs.Text.{Function}
use Rattle.nf_base.specs.Runs.{Handling, RunResult, run}
use Rattle.nf_base.specs.Step.{opening}
use Rattle.nf_base.specs.declared.card.Card.{Card}
use Rattle.nf_base.specs.declared.done.Done.{Done}
use Rattle.run_history.specs.declared.line.Mode.{Mode}
use Rattle.packet_feed.specs.Arrivals.{Arrival}

-- a packet with its frame, who handles it, and the indices that it is given
pub record Turn : Type 0 where
  pub arrival : Arrival
  pub worker : ℕ
  pub choices : List ℕ

-- The function, how its packets were handled and by how many workers, what the network card has, and the
-- packets in the order in which they were handled. All else of a run is a function of these.
pub record Run : Type 0 where
  pub function : Function
  pub mode : Mode
  pub workers : ℕ
  pub card : Card
  pub turns : List Turn

-- a packet with its choices
abbrev pub handling_of : Turn → Handling
handling_of t = record { packet = t.arrival.packet; choices = t.choices }

abbrev pub arrival_in : Turn → Arrival
arrival_in t = t.arrival

-- The undivided function handles the packets, from its opening state; none where some choices are not
-- legal.
abbrev pub course_of : Run → Option RunResult
course_of r = run r.function (opening r.function) (map handling_of r.turns)

-- each packet's choices are legal
pub record IsLegal (r : Run) : Type 0 where
  pub result : RunResult
  pub ran : course_of r ≡ Some result

-- a packet that was handled, who did, and what it came to
pub record Handled : Type 0 where
  pub arrival : Arrival
  pub worker : ℕ
  pub done : Done

-- packets with what they came to
abbrev pub paired : List Turn → List Done → List Handled
paired [] dones = []
paired (t ∷ ts) [] = []
paired (t ∷ ts) (d ∷ ds) = record { arrival = t.arrival; worker = t.worker; done = d } ∷ paired ts ds

-- the same, where the run is legal
abbrev pub handled_if : List Turn → Option RunResult → List Handled
handled_if turns None = []
handled_if turns (Some result) = paired turns result.answers

-- what each packet of a run came to
abbrev pub handled_in : Run → List Handled
handled_in r = handled_if r.turns (course_of r)

-- a run with these packets more
abbrev pub longer : Run → List Turn → Run
longer r later = record { function = r.function; mode = r.mode; workers = r.workers; card = r.card; turns = r.turns ++ later }

-- a packet with the choices that it was given
abbrev pub turn_of : Handled → Turn
turn_of h = record { arrival = h.arrival; worker = h.worker; choices = h.done.picks }

-- the run in which packets came to this
abbrev pub run_of : Function → Mode → ℕ → Card → List Handled → Run
run_of f mode workers card hs = record { function = f; mode = mode; workers = workers; card = card; turns = map turn_of hs }
