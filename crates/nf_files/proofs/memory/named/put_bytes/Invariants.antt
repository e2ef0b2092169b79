use Rattle.std.proofs.Common.{◌≡◌, drop}
use Rattle.nf_files.specs.Memory.{put_under}
use Rattle.nf_files.proofs.memory.named.put_bytes.Given as goal

-- none of the names before has it
abbrev pub invariant-names : goal.invariant-names
invariant-names l = put_under (drop l.k l.names) l.name ≡ put_under l.names l.name
