use Rattle.std.proofs.Common.{◌≡◌, ◌≤◌, ◌-◌, take, length}
use Rattle.nf_files.specs.Writes.{Writes}
use Rattle.nf_files.proofs.whole.write_whole.Given as goal

-- what was written so far is the front of the piece
abbrev pub invariant-loop-at : goal.invariant-loop-at
invariant-loop-at g l =
    let told = g.F.Files.told in
    record {
      in_range : l.at ≤ length l.piece;
      wrote : Writes (told l.fn.files) (told l.files) l.file (take l.at l.piece);
      count : g.F.Files.counted l.files ≡ g.F.Files.counted l.fn.files;
    }

abbrev pub decreases-loop-at : goal.decreases-loop-at
decreases-loop-at g l = length l.piece - l.at
