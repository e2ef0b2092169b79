use Rattle.std.proofs.Common.{◌≡◌, vec_len}
use Rattle.nf_files.specs.Pieces.{Takes}
use Rattle.nf_files.specs.Reads.{Keeps}
use Rattle.nf_files.proofs.whole.read_whole.Given as goal

-- what was read was taken from what was left
abbrev pub invariant-turns : goal.invariant-turns
invariant-turns g l =
    let told = g.F.Files.told in
    record {
      bytes : Takes l.all.items ((told l.fn.files).rest l.file) ((told l.files).rest l.file);
      room : vec_len l.piece ≡ 65536;
      kept : Keeps (told l.fn.files) (told l.files) l.file;
      count : g.F.Files.counted l.files ≡ g.F.Files.counted l.fn.files;
    }
