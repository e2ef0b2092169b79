use Rattle.std.proofs.Common.{◌≡◌, ◌-◌, ℕ, length}
use Rattle.nf_files.specs.Reads.{Keeps}
use Rattle.journal_read.specs.Held.{Grows}
use Rattle.journal_read.proofs.journal.Journal.next.Given as goal

-- more bytes are held
abbrev pub invariant-fills : goal.invariant-fills
invariant-fills g l =
    let told = g.F.Files.told in
    let file = l.fn.self.file in
    record {
      grows : Grows l.fn.self.held l.self.held ((told l.fn.files).rest file) ((told l.files).rest file);
      same_file : l.self.file ≡ file;
      kept : Keeps (told l.fn.files) (told l.files) file;
      count : g.F.Files.counted l.files ≡ g.F.Files.counted l.fn.files;
    }

abbrev pub decreases-fills : goal.decreases-fills
decreases-fills g l = 512 - length l.self.held
