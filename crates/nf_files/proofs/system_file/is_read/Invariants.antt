use Rattle.std.proofs.Common.{◌≡◌, false, take}
use Rattle.nf_files.specs.Origins.{is_read_of}
use Rattle.nf_files.proofs.system_file.is_read.Given as goal

-- none of the files before is the one
abbrev pub invariant-files : goal.invariant-files
invariant-files g l = is_read_of l.name l.node (take l.file-index l.files) ≡ false
