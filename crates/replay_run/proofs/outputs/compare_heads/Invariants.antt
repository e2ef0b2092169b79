use Rattle.std.proofs.Common.{◌≡◌, ℕ, List, [], Option}
use Rattle.packet_feed.specs.Told.{KeepsOthers}
use Rattle.replay_run.specs.Outputs.{files_of, AreFound}
use Rattle.replay_run.proofs.Compared.{IsPartly, FoundAt}
use Rattle.replay_run.proofs.outputs.compare_heads.Given as goal

-- the outputs so far were compared, the others not yet
abbrev pub invariant-loop-k : goal.invariant-loop-k
invariant-loop-k g l =
    let told = g.F.Files.told in
    record {
      partly : (start : ℕ → Option (List ℕ)) → AreFound (λ k. []) start l.fn.all (told l.fn.files)
          → IsPartly (FoundAt (λ k. l.head) start) (FoundAt (λ k. []) start) l.k (told l.files) l.all;
      same_files : files_of l.all ≡ files_of l.fn.all;
      kept : KeepsOthers (files_of l.fn.all) (told l.fn.files) (told l.files);
      count : g.F.Files.counted l.files ≡ g.F.Files.counted l.fn.files;
    }
