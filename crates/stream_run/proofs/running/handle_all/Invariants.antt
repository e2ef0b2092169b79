use Rattle.std.proofs.Common.{◌≡◌, ◌-◌, ◌≤◌, [], length}
use Rattle.nf_base.specs.declared.card.Card.{Card}
use Rattle.capture_format.specs.declared.format.CaptureFormat.{CaptureFormat}
use Rattle.nf_base.specs.Doors.{six_ports}
use Rattle.nf_base.specs.Functions.{function_of}
use Rattle.nf_engine.specs.View.{fixed_of}
use Rattle.packet_feed.specs.Sources.{files_in, sixes_in}
use Rattle.run_history.specs.declared.line.Mode.TheVariants.{One}
use Rattle.stream_run.specs.Writing.{files_of, AreHeld, KeepsBut}
use Rattle.stream_run.specs.Streaming.{Reaches}
use Rattle.stream_run.proofs.running.handle_all.Given as goal

-- the packets so far were handled, and what they leave is in the files or held
abbrev pub invariant-packets : goal.invariant-packets
invariant-packets g l =
    let told = g.F.Files.told in
    record {
      reached : (card : Card) → (format : CaptureFormat) → AreHeld One 1 card format (length l.func.handlers) [] (told l.fn.files) l.fn.sinks → Reaches (function_of l.func) card format (length l.func.handlers) l.fn.feed (told l.fn.files) l.feed (told l.files) l.sinks l.tables.state;
      captures : files_in l.feed.sources ≡ l.captures;
      six : sixes_in l.feed.sources ≡ six_ports (function_of l.func);
      most : l.feed.most ≡ l.fn.feed.most;
      within : l.feed.given ≤ l.feed.most;
      same : fixed_of l.tables ≡ fixed_of l.fn.tables;
      same_files : files_of l.sinks ≡ files_of l.fn.sinks;
      kept : KeepsBut (files_of l.fn.sinks) (told l.fn.files) (told l.files);
      count : g.F.Files.counted l.files ≡ g.F.Files.counted l.fn.files;
    }

abbrev pub decreases-packets : goal.decreases-packets
decreases-packets g l = l.feed.most - l.feed.given
