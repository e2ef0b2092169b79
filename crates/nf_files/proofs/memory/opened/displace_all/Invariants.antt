use Rattle.std.proofs.Common.{◌≡◌, ◌++◌, map, take, drop}
use Rattle.nf_files.specs.Opened.{displaced}
use Rattle.nf_files.proofs.memory.opened.displace_all.Given as goal

-- the files before are changed, and no others
abbrev pub invariant-files : goal.invariant-files
invariant-files l = l.files.items ≡ map (displaced l.name) (take l.k l.fn.files.items) ++ drop l.k l.fn.files.items
