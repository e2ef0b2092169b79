-- What a journal tells: a journal's bytes determine it.
use Rattle.std.specs.Prelude.{◌≡◌, ◌<◌, ◌^◌, ℕ, List, length, map}
use Rattle.std.specs.List.{AllByRecursion}
use Rattle.capture_format.specs.declared.format.CaptureFormat.{CaptureFormat}
use Rattle.nf_base.specs.declared.packet.PacketId.{PacketId}
use Rattle.nf_base.specs.declared.done.Action.{Action}
use Rattle.nf_base.specs.declared.done.Action.TheVariants.{Skip, Drop, To, Flood}
use Rattle.run_history.specs.Line.{packet_line}
use Rattle.stream_run.specs.Runs.{Run, Handled, handled_in}
use Rattle.stream_run.specs.Texts.{file_bytes}

-- what a line tells of a packet: which it was, who handled it, where it went, and its choices
pub record Entry : Type 0 where
  pub id : PacketId
  pub worker : ℕ
  pub action : Action
  pub picks : List ℕ

abbrev pub entry_of : Handled → Entry
entry_of h = record { id = h.arrival.packet.id; worker = h.worker; action = h.done.action; picks = h.done.picks }

abbrev pub entry_line : Entry → List ℕ
entry_line e = packet_line e.id e.worker e.action e.picks

-- the port that a packet goes to has 64 bits at most
abbrev pub ActionFits : Action → Type 0
ActionFits Skip = Unit {0}
ActionFits Drop = Unit {0}
ActionFits Flood = Unit {0}
ActionFits (To port) = port < 2 ^ 64

-- each number has 64 bits at most
pub record EntryFits (e : Entry) : Type 0 where
  pub port : e.id.port < 2 ^ 64
  pub seq : e.id.seq < 2 ^ 64
  pub worker : e.worker < 2 ^ 64
  pub action : ActionFits e.action
  pub picks : AllByRecursion (λ i. i < 2 ^ 64) e.picks

-- all numbers of a run's journal have
pub record JournalFits (r : Run) : Type 0 where
  pub workers : r.workers < 2 ^ 64
  pub entries : AllByRecursion EntryFits (map entry_of (handled_in r))

-- the bytes of a run's journal, where the outputs are of this format
abbrev pub journal_of : CaptureFormat → Run → List ℕ
journal_of format r = file_bytes format r (length r.function.handlers)

-- two runs with one journal were handled in one mode, by as many workers, with one card, and their packets
-- were the same, in the same order, with the same workers, actions and choices; whatever the outputs are
abbrev pub JournalsAreOne : Type 0
JournalsAreOne = (a b : CaptureFormat) (r s : Run) → JournalFits r → JournalFits s → journal_of a r ≡ journal_of b s →
    (r.mode ≡ s.mode) × (r.workers ≡ s.workers) × (r.card ≡ s.card) × (map entry_of (handled_in r) ≡ map entry_of (handled_in s))
