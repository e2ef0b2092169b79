use Rattle.std.proofs.Common.{◌≡◌, ◌≤◌, ◌-◌, ◌∷◌, ◌++◌, ℕ, List, Option, length}
use Rattle.nf_base.specs.Functions.{function_of}
use Rattle.nf_engine.specs.View.{fixed_of}
use Rattle.nf_files.specs.Told.{Told}
use Rattle.packet_feed.specs.Told.{KeepsOthers}
use Rattle.packet_feed.specs.Sources.{files_in, sixes_in}
use Rattle.replay_run.specs.Outputs.{files_of}
use Rattle.replay_run.specs.Queues.{keys_in}
use Rattle.replay_run.specs.Replaying.{IsRun}
use Rattle.replay_run.specs.Turns.{Begins, Reaches}
use Rattle.replay_run.proofs.lines.read_lines.Given as goal

-- the lines so far are right
abbrev pub invariant-lines : goal.invariant-lines
invariant-lines g l =
    let told = g.F.Files.told in
    record {
      reached : (start : Told) (bytes : Option (List ℕ)) → Begins l.fn.judge.heading l.fn.feed l.fn.journal start bytes (told l.fn.files)
          → Reaches (IsRun (function_of l.func) (keys_in l.keys) l.fn.judge.heading) l.fn.judge.heading l.format (length l.captures) start bytes (told l.fn.files).rest l.feed l.journal l.fn.journal.file (told l.files) l.outputs l.judge.tables.state;
      captures : files_in l.feed.sources ≡ l.captures;
      six : sixes_in l.feed.sources ≡ sixes_in l.fn.feed.sources;
      most : l.feed.most ≡ l.most;
      within : l.feed.given ≤ l.most;
      same : fixed_of l.judge.tables ≡ fixed_of l.fn.judge.tables;
      same_heading : l.judge.heading ≡ l.fn.judge.heading;
      same_file : l.journal.file ≡ l.fn.journal.file;
      same_outputs : files_of l.outputs ≡ files_of l.fn.outputs;
      kept : KeepsOthers (l.captures ++ l.fn.journal.file ∷ files_of l.fn.outputs) (told l.fn.files) (told l.files);
      count : g.F.Files.counted l.files ≡ g.F.Files.counted l.fn.files;
    }

abbrev pub decreases-lines : goal.decreases-lines
decreases-lines g l = l.most - l.feed.given
