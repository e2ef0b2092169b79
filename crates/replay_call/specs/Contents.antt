-- What a replay finds under its names.
use Rattle.std.specs.Prelude.{◌≡◌, ◌⊎◌, ℕ, List, ◌++◌, length, slice_get, Option, Some, None, Ok}
use Rattle.nf_base.specs.Text.{Function}
use Rattle.nf_base.specs.declared.keys.Keys.{Keys}
use Rattle.nf_files.specs.Told.{Told}
use Rattle.packet_feed.specs.Told.{IsCapture, IsNoCapture}
use Rattle.key_synth.specs.declared.verdict.Verdict.{Verdict}
use Rattle.key_synth.specs.declared.verdict.Verdict.TheVariants.{Sharded, Locked}
use Rattle.key_synth.specs.Verdicts.{IsVerdict}
use Rattle.run_history.specs.Headings.{Heading, IsHeading}
use Rattle.run_history.specs.Line.{line_bytes}
use Rattle.run_history.specs.declared.line.JournalLine.TheVariants.{Header}
use Rattle.journal_read.specs.Journals.{HasNoHeader}
use Rattle.stream_run.specs.declared.fault.RunFault.{RunFault}
use Rattle.replay_run.specs.Replaying.{Beside}
use Rattle.replay_run.specs.Heads.{Comes}
use Rattle.replay_run.specs.declared.result.ReplayResult.{ReplayResult}
use Rattle.replay_run.specs.declared.result.ReplayResult.TheVariants.{Line}
use Rattle.command_words.specs.Commands.{Replay}
use Rattle.call_base.specs.Captures.{packets_under, Below}
use Rattle.call_base.specs.Names.{output_name}
use Rattle.call_base.specs.Source.{IsFunctionUnder}

-- The text is a network function that has as many ports as there are captures.
pub record HasPorts (c : Replay) (told : Told) (f : Function) : Type 0 where
  pub is_function : IsFunctionUnder told c.function f
  pub as_many : length c.captures ≡ length f.handlers

-- The captures are as many as the function's ports, and the file of this port is the first that is no
-- capture.
pub record HasNoCapture (c : Replay) (told : Told) (port : ℕ) : Type 0 where
  pub function : Function
  pub has_ports : HasPorts c told function
  pub name : List ℕ
  pub at : slice_get c.captures port ≡ Some name
  pub none : IsNoCapture (told.content name)
  pub lesser : Below IsCapture told c.captures port

-- the keys of a verdict, where it has some
abbrev pub keys_by : Verdict → Option Keys
keys_by (Sharded keys) = Some keys
keys_by (Locked cause) = None

-- what the journal under its name is read beside: the captures of a function's ports, and the outputs,
-- under theirs
abbrev pub beside_under : Function → Replay → Told → Beside
beside_under f c told = record {
  packets = packets_under f c.captures told;
  journal = told.content c.journal;
  outputs = λ port. told.content (output_name c.format c.out port);
  format = c.format;
  most = c.most;
}

-- bytes, where they are told, begin with a journal's first line
abbrev pub BeginsWith : Heading → Option (List ℕ) → Type 0
BeginsWith heading None = Unit {0}
BeginsWith heading (Some all) = (later : List ℕ) × (line_bytes (Header heading) ++ later ≡ all)

-- The journal begins with no first line: line 1 is wrong.
pub record IsHeadless (c : Replay) (told : Told) (came : ReplayResult) : Type 0 where
  pub first : came ≡ Line 1
  pub none : HasNoHeader (told.content c.journal)

-- The journal's first line tells a network card, and the journal and the outputs are judged beside the
-- captures, under the keys that the function is given for this card, if any.
pub record IsJudged (c : Replay) (told : Told) (f : Function) (came : ReplayResult) : Type 0 where
  pub heading : Heading
  pub is_heading : IsHeading heading
  pub first : BeginsWith heading (told.content c.journal)
  pub verdict : Verdict
  pub is_verdict : IsVerdict f heading.card verdict
  pub comes : Comes {E = RunFault} f (keys_by verdict) heading (length c.captures) (beside_under f c told) (Ok came)

-- What a replay comes to: the text is a network function with as many ports as there are captures, all
-- of which are captures, and the journal has no first line, or is judged by it.
pub record HasReplayed (c : Replay) (told : Told) (f : Function) (came : ReplayResult) :
    Type 0 where
  pub has_ports : HasPorts c told f
  pub captures : Below IsCapture told c.captures (length c.captures)
  pub judged : IsHeadless c told came ⊎ IsJudged c told f came
