use Rattle.std.proofs.Common.{◌≡◌, ℕ, List, Ok}
use Rattle.nf_base.specs.declared.card.Card.{Card}
use Rattle.capture_format.specs.declared.format.CaptureFormat.{CaptureFormat}
use Rattle.packet_feed.specs.Arrivals.{Arrival}
use Rattle.shard_machine.specs.Machine.{Setup}
use Rattle.stream_run.specs.Writing.{files_of, WentOn}
use Rattle.sharded_run.specs.Passing.{Passing, SameCrew}
use Rattle.sharded_run.proofs.streaming.drain.Given as goal

-- what was written so far
abbrev pub invariant-loop : goal.invariant-loop
invariant-loop g l =
    let told = g.F.Files.told in
    record {
      passing : (x : Setup) (card : Card) (format : CaptureFormat) (all : List Arrival) → Passing x card format (told l.fn.files) l.fn.crew l.fn.sinks all → Passing x card format (told l.files) l.crew l.sinks all;
      same : SameCrew l.fn.crew l.crew;
      same_files : files_of l.sinks ≡ files_of l.fn.sinks;
      went : (captures : List ℕ) → WentOn {T = Unit {0}} captures (files_of l.fn.sinks) (told l.fn.files) (told l.files) (g.F.Files.counted l.fn.files) (g.F.Files.counted l.files) (Ok tt);
      rests : (n : ℕ) → (told l.files).rest n ≡ (told l.fn.files).rest n;
    }
