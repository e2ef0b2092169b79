use Rattle.std.proofs.Common.{arith}
use Rattle.std.proofs.lemmas.List.Edits.{map_over_more}
use Rattle.nf_files.specs.Opened.{displaced}
use Rattle.nf_files.proofs.memory.opened.displace_all.Goals as goal

pub files-preserved : goal.files-preserved
files-preserved c =
    rw c.displace.ensures.value (map_over_more (displaced c.args.name.now) c.args.files.now.items c.files.files.items c.files.k c.index_mut.result.now (omega arith) c.files.invariant c.index_mut.ensures.value)
