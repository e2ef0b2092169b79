use Rattle.std.proofs.Common.{◌≡◌, ◌++◌, ℕ, List, length}
use Rattle.nf_files.specs.Pieces.{Takes}
use Rattle.nf_files.specs.Reads.{Keeps}
use Rattle.file_match.proofs.compared.are_next.Given as goal

-- the bytes in front of the rest were taken
abbrev pub invariant-loop-rest : goal.invariant-loop-rest
invariant-loop-rest g l =
    let told = g.F.Files.told in
    record {
      taken : (front : List ℕ) × (front ++ l.rest ≡ l.bytes) × Takes front ((told l.fn.files).rest l.file) ((told l.files).rest l.file);
      room : length l.room ≡ length l.fn.room;
      kept : Keeps (told l.fn.files) (told l.files) l.file;
      count : g.F.Files.counted l.files ≡ g.F.Files.counted l.fn.files;
    }

abbrev pub decreases-loop-rest : goal.decreases-loop-rest
decreases-loop-rest g l = length l.rest
