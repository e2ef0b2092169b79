use Rattle.std.proofs.Common.{ap, subst, ℕ, List, length, ◌≤◌}
use Rattle.nf_files.specs.declared.kind.Kind.TheVariants.{Input}
use Rattle.nf_files.proofs.Changed.{changes, takes_here, given_same, within_kind, left_here}
use Rattle.nf_files.proofs.memory.opened.skip_at.Goals as goal

pub skip-requires : goal.skip-requires
skip-requires c =
    subst (λ (xs : List ℕ). c.args.count ≤ length xs) (left_here _ c.args.k c.index_mut.result.now (within_kind _ _ Input c.requires.input) c.index_mut.ensures.value c.requires.input) c.requires.within

pub returns-clause-changes : goal.returns-clause-changes
returns-clause-changes c =
    changes _ c.args.k c.index_mut.result.now _ (within_kind _ _ Input c.requires.input) c.index_mut.ensures.value c.skip.ensures.same.1 c.skip.ensures.same.0 c.skip.ensures.same.3

pub returns-clause-taken : goal.returns-clause-taken
returns-clause-taken c =
    let left = left_here _ c.args.k c.index_mut.result.now (within_kind _ _ Input c.requires.input) c.index_mut.ensures.value c.requires.input in
    rw left (takes_here _ c.args.k c.index_mut.result.now _ _ (within_kind _ _ Input c.requires.input) c.index_mut.ensures.value c.skip.ensures.same.1 c.skip.ensures.taken)

pub returns-clause-given : goal.returns-clause-given
returns-clause-given c =
    given_same _ c.args.k c.index_mut.result.now _ (within_kind _ _ Input c.requires.input) c.index_mut.ensures.value c.skip.ensures.same.1 (ap (λ v. v.items) c.skip.ensures.same.2)
