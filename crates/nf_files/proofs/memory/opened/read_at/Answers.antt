use Rattle.std.proofs.Common.{ap}
use Rattle.nf_files.specs.declared.kind.Kind.TheVariants.{Input}
use Rattle.nf_files.proofs.Changed.{changes, takes_here, empty_here, given_same, within_kind}
use Rattle.nf_files.proofs.memory.opened.read_at.Goals as goal

pub returns-clause-changes : goal.returns-clause-changes
returns-clause-changes c =
    changes _ c.args.k c.index_mut.result.now _ (within_kind _ _ Input c.requires.input) c.index_mut.ensures.value c.take_from.ensures.same.1 c.take_from.ensures.same.0 c.take_from.ensures.same.3

pub returns-clause-taken : goal.returns-clause-taken
returns-clause-taken c =
    takes_here _ c.args.k c.index_mut.result.now _ _ (within_kind _ _ Input c.requires.input) c.index_mut.ensures.value c.take_from.ensures.same.1 c.take_from.ensures.taken

pub returns-clause-at_end : goal.returns-clause-at_end
returns-clause-at_end c none room =
    empty_here _ c.args.k c.index_mut.result.now (within_kind _ _ Input c.requires.input) c.index_mut.ensures.value (c.take_from.ensures.at_end none room)

pub returns-clause-given : goal.returns-clause-given
returns-clause-given c =
    given_same _ c.args.k c.index_mut.result.now _ (within_kind _ _ Input c.requires.input) c.index_mut.ensures.value c.take_from.ensures.same.1 (ap (λ v. v.items) c.take_from.ensures.same.2)
