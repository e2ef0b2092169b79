-- What is needed to judge the lines of a journal, and the files that they are compared with.
use Rattle.std.specs.Prelude.{◌≡◌, ◌<◌, ◌≤◌, ◌^◌, ◌≢◌, ◌++◌, ◌∷◌, ℕ, List, Option, Result, length, IfSome}
use Rattle.std.specs.List.{All}
use denote.Ref.{Bor}
use Rattle.nf_base.specs.declared.func.Func.{Func}
use Rattle.nf_base.specs.declared.keys.Keys.{Keys}
use Rattle.nf_engine.specs.View.{fixed_of}
use Rattle.nf_files.specs.Told.{Told, IsRead}
use Rattle.nf_files.specs.Causes.{Counted}
use Rattle.packet_feed.specs.Told.{EachFile, IsApart, KeepsOthers}
use Rattle.rss_table.specs.Tables.{even_table}
use Rattle.run_history.specs.declared.line.Mode.{Mode}
use Rattle.journal_check.specs.Judging.{Judging}
use Rattle.stream_run.specs.declared.fault.RunFault.{RunFault}
use Rattle.stream_run.specs.Writing.{IsStopCause, StopsAmong}
use Rattle.replay_run.specs.Queues.{IsKeyed}
use Rattle.replay_run.specs.Turns.{AreClear}

-- ---- the judge

-- It judges the lines of a function's journal in this mode. Where keys are given they are for the
-- function's ports, and the table has the queues of as many workers as the first line tells; mode `shard`
-- has keys.
pub record CanJudge (func : Func) (keys : Option (Bor Keys)) (table : List ℕ) (mode : Mode)
    (judge : Judging) : Type 0 where
  pub of_func : judge.tables.decls ≡ func.chains
  pub mode_is : judge.heading.mode ≡ mode
  pub keyed : IsKeyed judge.heading.mode keys
  pub ports : IfSome keys (λ k. length func.handlers ≤ length k.now.ports)
  pub table_is : IfSome keys (λ k. table ≡ even_table k.now.table judge.heading.workers)
  pub some : 0 < judge.heading.workers

-- it judges by the same first line, with tables that have the same declarations and share
pub record SameJudge (old new : Judging) : Type 0 where
  pub tables : fixed_of new.tables ≡ fixed_of old.tables
  pub heading : new.heading ≡ old.heading

-- ---- the files

-- Outputs are open, none of them twice and none of them a capture.
pub record AreBeside (captures outputs : List ℕ) (told : Told) : Type 0 where
  pub opened : EachFile (IsRead told) outputs
  pub apart : IsApart outputs
  pub clear : AreClear captures outputs
  pub few : length outputs ≤ 2 ^ 32

-- A journal is open, and an output for each capture; no file stands there twice.
pub record AreRead (captures : List ℕ) (journal : ℕ) (outputs : List ℕ) (told : Told) : Type 0 where
  pub opened_journal : IsRead told journal
  pub opened_outputs : EachFile (IsRead told) outputs
  pub apart : IsApart (captures ++ journal ∷ outputs)
  pub as_many : length outputs ≡ length captures
  pub few : length outputs ≤ 2 ^ 32

-- nothing but what is left of these files changed, and a fault of them is told
pub record ReadOn {T : Type 0} (captures others : List ℕ) (old new : Told) (before after : Counted)
    (result : Result T RunFault) : Type 0 where
  pub kept : KeepsOthers (captures ++ others) old new
  pub cause : IsStopCause before after result
  pub among : StopsAmong captures others result
