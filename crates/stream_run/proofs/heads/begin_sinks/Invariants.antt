use Rattle.std.proofs.Common.{◌≡◌, ℕ, Some, take}
use Rattle.std.specs.List.{slice_get}
use Rattle.stream_run.specs.Texts.{head}
use Rattle.stream_run.specs.Writing.{Holding, files_of}
use Rattle.stream_run.proofs.heads.begin_sinks.Given as goal

-- the files so far hold what they begin with
abbrev pub invariant-loop-k : goal.invariant-loop-k
invariant-loop-k l = record {
  files : files_of l.sinks ≡ take l.k l.targets;
  heads : (k : ℕ) (s : Holding) → slice_get l.sinks k ≡ Some s → (s.format ≡ l.format) × (s.held ≡ head l.mode l.workers l.card l.format l.ports k);
}
