use Rattle.std.proofs.Common.{refl}
use Rattle.nf_files.proofs.Told.{creates}
use Rattle.nf_files.proofs.memory.store.Store.create.Goals as goal

pub returns-clause-ok : goal.returns-clause-ok
returns-clause-ok c =
    let made = c.in_ok-file.ensures.value in
    rw c.in_ok-push.ensures.items (creates _ _ _ c.args.self.now.files.items c.in_ok-file.file c.args.name.now _ refl made.0 made.2 made.1 made.3)
