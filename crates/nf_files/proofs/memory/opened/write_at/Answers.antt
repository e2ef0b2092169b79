use Rattle.std.proofs.Common.{refl}
use Rattle.nf_files.specs.declared.kind.Kind.TheVariants.{Output}
use Rattle.nf_files.proofs.Changed.{changes, within_kind}
use Rattle.nf_files.proofs.memory.opened.write_at.Goals as goal

pub returns-clause-changes : goal.returns-clause-changes
returns-clause-changes c =
    changes _ c.args.k c.index_mut.result.now _ (within_kind _ _ Output c.requires.output) c.index_mut.ensures.value refl refl refl
