-- What a run leaves is right, and what is taken for a run is one.
use Rattle.std.proofs.Common.{◌≡◌, ℕ, Bool, List, [], ◌∷◌, ◌++◌, length, map, Option, Some, refl, sym, ap, ◌∙◌, subst}
use Rattle.std.specs.List.{flat_map}
use Rattle.nf_files.specs.Told.{Told}
use Rattle.packet_feed.specs.Arrivals.{Arrival}
use Rattle.packet_feed.specs.Told.{packets_of}
use Rattle.capture_format.specs.declared.format.CaptureFormat.{CaptureFormat}
use Rattle.run_history.specs.Line.{line_bytes}
use Rattle.run_history.specs.declared.line.JournalLine.TheVariants.{Header}
use Rattle.journal_read.specs.Journals.{lines_bytes}
use Rattle.stream_run.specs.Runs.{Run, Handled, handled_in, arrival_in}
use Rattle.stream_run.specs.Orders.{Order, AsGiven, ByPort, AreFirstBy}
use Rattle.stream_run.specs.Streaming.{arrival_of, AreFirst}
use Rattle.stream_run.specs.Texts.{line_of, file_bytes}
use Rattle.stream_run.proofs.Bytes.{are_lines}
use Rattle.stream_run.proofs.Ordered.{first_stay}
use Rattle.stream_run.proofs.Ruled.{arrivals_are, run_handled, handled_runs}
use Rattle.replay_run.specs.Laws.{heading_of, RunsAreRight, FrontsAreRight, TakenAreFronts, RunsAreFronts}
use Rattle.replay_run.specs.Replaying.{line_in, journal_lines}
use Rattle.replay_run.proofs.Orders.{first_are}

lines_are : (hs : List Handled) → flat_map line_of hs ≡ lines_bytes (map line_in hs)
lines_are [] = refl
lines_are (h ∷ hs) = ap (λ (t : List ℕ). line_of h ++ t) (lines_are hs)

journal_is : (r : Run) (format : CaptureFormat) → file_bytes format r (length r.function.handlers) ≡ lines_bytes (journal_lines (heading_of r) (handled_in r))
journal_is r format = are_lines format r ∙ ap (λ (t : List ℕ). line_bytes (Header (heading_of r)) ++ t) (lines_are (handled_in r))

pub runs_right : RunsAreRight
runs_right rule f card given r state answers is e = record {
  is_run = run_handled rule f card given r state answers is e;
  journal = journal_is r;
  outputs = λ format port. refl;
}

pub fronts_right : FrontsAreRight
fronts_right rule f card all r state answers h e = (
  runs_right rule f card h.given r state answers h.is_run e,
  subst (AreFirstBy rule.order all) (sym (arrivals_are r h.is_run.legal)) (first_stay rule.order all h.given (map arrival_in r.turns) h.first h.is_run.order),
)

-- ---- and the other way

pub taken_fronts : TakenAreFronts
taken_fronts rule f card all hs state a first = record { given = map arrival_of hs; first = first; is_run = (handled_runs rule f card hs state a).0 }

-- the first packets in capture order may come first in any order
first_by : (order : Order) (six : List Bool) (files : List ℕ) (told : Told) (all given : List Arrival) → packets_of six files told ≡ Some all → AreFirst (Some all) given → AreFirstBy order (Some all) given
first_by AsGiven six files told all given is first = first
first_by ByPort six files told all given is first = first_are six files told all given is first

pub runs_fronts : RunsAreFronts
runs_fronts rule f card six files told all given r is first run = record {
  given = given;
  first = first_by rule.order six files told all given is first;
  is_run = run;
}
