use Rattle.std.proofs.Common.{◌∙◌, sym, add-one, arith}
use Rattle.nf_files.proofs.Changed.{last_here, last_before}
use Rattle.nf_files.proofs.memory.opened.last_under.Goals.{then-is_under, else-is_under}
use Rattle.nf_files.proofs.memory.opened.last_under.Goals as goal

pub files-preserved : goal.files-preserved
files-preserved c =
    rw (add-one c.files.k) (elim c.if-is_under.branch [
      | then-is_under w ↦ w.found-is ∙ sym (last_here c.args.files.now c.files.k c.index-files-k.result c.args.name.now (omega arith) c.index-files-k.is (sym c.is_under.ensures.value ∙ w.if-is_under.true))
      | else-is_under w ↦ w.found-is ∙ c.files.invariant ∙ sym (last_before c.args.files.now c.files.k c.index-files-k.result c.args.name.now (omega arith) c.index-files-k.is (sym c.is_under.ensures.value ∙ w.if-is_under.false))
    ])
