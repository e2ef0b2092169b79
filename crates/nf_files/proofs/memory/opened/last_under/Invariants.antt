use Rattle.std.proofs.Common.{◌≡◌, take}
use Rattle.nf_files.specs.Opened.{last_created}
use Rattle.nf_files.proofs.memory.opened.last_under.Given as goal

-- the last of the files before
abbrev pub invariant-files : goal.invariant-files
invariant-files l = l.found ≡ last_created (take l.k l.files) l.name
