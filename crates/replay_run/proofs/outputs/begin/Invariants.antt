use Rattle.std.proofs.Common.{◌≡◌, ℕ, Some, true, take}
use Rattle.std.specs.List.{slice_get}
use Rattle.file_match.specs.Comparing.{Comparing}
use Rattle.replay_run.specs.Outputs.{files_of}
use Rattle.replay_run.proofs.outputs.begin.Given as goal

-- of the outputs so far nothing was read
abbrev pub invariant-loop-file : goal.invariant-loop-file
invariant-loop-file l = record {
  files : files_of l.all ≡ take l.file-index l.outputs;
  same : (k : ℕ) (c : Comparing) → slice_get l.all k ≡ Some c → c.same ≡ true;
}
