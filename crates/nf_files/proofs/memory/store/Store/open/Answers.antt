use Rattle.std.proofs.Common.{refl, sym}
use Rattle.nf_files.proofs.Told.{opens}
use Rattle.nf_files.proofs.memory.store.Store.open.Goals as goal

pub returns-clause-ok : goal.returns-clause-ok
returns-clause-ok c n stands =
    let made = c.input.ensures.value in
    rw c.in_ok-push.ensures.items (opens _ _ _ c.args.self.now.files.items c.input.result n _ refl made.0 (rw (made.2, made.1) (sym stands)))
