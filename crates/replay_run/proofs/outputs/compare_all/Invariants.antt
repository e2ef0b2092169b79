use Rattle.std.proofs.Common.{◌≡◌, ◌≤◌, ◌∷◌, ◌++◌, [], ℕ, List, Option, length}
use Rattle.nf_base.specs.declared.card.Card.{Card}
use Rattle.packet_feed.specs.Told.{KeepsOthers}
use Rattle.run_history.specs.declared.line.Mode.{Mode}
use Rattle.stream_run.specs.Runs.{Handled}
use Rattle.stream_run.specs.Texts.{bytes_of}
use Rattle.stream_run.specs.Writing.{came_to}
use Rattle.replay_run.specs.Outputs.{files_of, AreFound}
use Rattle.replay_run.proofs.Compared.{IsPartly, FoundAt}
use Rattle.replay_run.proofs.outputs.compare_all.Given as goal

-- the outputs so far were compared with what the packet leaves there, the others not yet
abbrev pub invariant-loop-k : goal.invariant-loop-k
invariant-loop-k g l =
    let told = g.F.Files.told in
    record {
      partly : (worker : ℕ) (start : ℕ → Option (List ℕ)) (mode : Mode) (workers : ℕ) (card : Card) (ports : ℕ) (hs : List Handled) → length l.fn.all ≤ ports
          → AreFound (λ k. bytes_of mode workers card l.format ports k hs) start l.fn.all (told l.fn.files)
          → IsPartly (FoundAt (λ k. bytes_of mode workers card l.format ports k (hs ++ came_to worker l.packet l.original l.frame l.done ∷ [])) start) (FoundAt (λ k. bytes_of mode workers card l.format ports k hs) start) l.k (told l.files) l.all;
      same_files : files_of l.all ≡ files_of l.fn.all;
      kept : KeepsOthers (files_of l.fn.all) (told l.fn.files) (told l.files);
      count : g.F.Files.counted l.files ≡ g.F.Files.counted l.fn.files;
    }
