-- The first line of a journal, and what a replay comes to by it.
use Rattle.std.specs.Prelude.{◌≡◌, ◌⊎◌, ℕ, List, [], ◌∷◌, Option, Some, None, Result, Ok, Err}
use Rattle.nf_base.specs.declared.keys.Keys.{Keys}
use Rattle.nf_base.specs.Text.{Function}
use Rattle.run_history.specs.Headings.{Heading, IsHeading}
use Rattle.run_history.specs.declared.line.JournalLine.TheVariants.{Header}
use Rattle.journal_read.specs.Journals.{Stands, HasNoHeader}
use Rattle.stream_run.specs.declared.fault.RunFault.{RunFault}
use Rattle.replay_run.specs.Queues.{keys_or_none, IsKeyedBy}
use Rattle.replay_run.specs.Replaying.{Beside, IsRun, Replays}
use Rattle.replay_run.specs.declared.opened.OpenedJournal.{OpenedJournal}
use Rattle.replay_run.specs.declared.result.ReplayResult.{ReplayResult}
use Rattle.replay_run.specs.declared.result.ReplayResult.TheVariants.{Same, TooMany, Line, Output}

-- the first line of a journal, where it is a header
abbrev pub Heads : {E : Type 0} → Option (List ℕ) → Option (List ℕ) → Result (Option OpenedJournal) E → Type 0
Heads start now (Ok None) = HasNoHeader start
Heads start now (Ok (Some begun)) = IsHeading begun.header × Stands start (Header begun.header ∷ []) begun.lines now
Heads start now (Err e) = Unit {0}

-- What follows the first line was judged by the mode, the workers and the card that it tells, under keys for that
-- card, which mode `shard` has.
pub record IsHeaded (f : Function) (keys : Option Keys) (heading : Heading) (ports : ℕ) (beside : Beside) (came : ReplayResult) : Type 0 where
  pub is_heading : IsHeading heading
  pub keyed : IsKeyedBy heading.mode keys
  pub replays : Replays {E = RunFault} (IsRun f (keys_or_none keys) heading) heading ports beside (Ok came)

-- The first line is wrong: the journal of a function without keys for its card is not in mode `shard`.
pub record IsUnkeyed (keys : Option Keys) (heading : Heading) (line : ℕ) : Type 0 where
  pub first : line ≡ 1
  pub none : IsKeyedBy heading.mode keys → ⊥

-- What a replay comes to: all is the same, and this state was left; more lines are right than may be
-- handled; this is the first line that is wrong; or all lines are right and this is the least output
-- that isn't the run's.
abbrev pub Comes : {E : Type 0} → Function → Option Keys → Heading → ℕ → Beside → Result ReplayResult E → Type 0
Comes f keys heading ports beside (Ok (Same state)) = IsHeaded f keys heading ports beside (Same state)
Comes f keys heading ports beside (Ok TooMany) = IsHeaded f keys heading ports beside TooMany
Comes f keys heading ports beside (Ok (Line line)) = IsUnkeyed keys heading line ⊎ IsHeaded f keys heading ports beside (Line line)
Comes f keys heading ports beside (Ok (Output port)) = IsHeaded f keys heading ports beside (Output port)
Comes f keys heading ports beside (Err e) = Unit {0}
