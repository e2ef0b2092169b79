use Rattle.std.proofs.Common.{◌≡◌, ℕ, List, Option}
use Rattle.packet_feed.specs.Told.{KeepsOthers}
use Rattle.replay_run.specs.Outputs.{files_of, AreFound}
use Rattle.replay_run.proofs.Compared.{IsPartly, FoundAt, WholeAt}
use Rattle.replay_run.proofs.outputs.first_other.Given as goal

-- the outputs so far were whole, the others were not tested yet
abbrev pub invariant-loop-k : goal.invariant-loop-k
invariant-loop-k g l =
    let told = g.F.Files.told in
    record {
      partly : (start : ℕ → Option (List ℕ)) (bytes : ℕ → List ℕ) → AreFound bytes start l.fn.all (told l.fn.files)
          → IsPartly (WholeAt bytes start) (FoundAt bytes start) l.k (told l.files) l.all;
      same_files : files_of l.all ≡ files_of l.fn.all;
      kept : KeepsOthers (files_of l.fn.all) (told l.fn.files) (told l.files);
      count : g.F.Files.counted l.files ≡ g.F.Files.counted l.fn.files;
    }
