use Rattle.vig_tables.proofs.Changing.{was_stamped, was_not_stamped, freed_is, not_freed}
use Rattle.vig_tables.proofs.Kept.{all_bound_at, freed_kept}
use Rattle.vig_tables.proofs.Reading.{rows_within}
use Rattle.vig_tables.proofs.chain_tables.ChainTables.free.Goals as goal

pub unbind_all-requires-clause-bound : goal.unbind_all-requires-clause-bound
unbind_all-requires-clause-bound c =
    let at = was_stamped c.self.inside.chain c.args.i c.free.result c.free.ensures.cause c.if-free.true in
    all_bound_at _ _ _ _ _ c.args.i at.0 c.self.invariant at.1

pub unbind_all-requires-clause-within : goal.unbind_all-requires-clause-within
unbind_all-requires-clause-within c =
    let at = was_stamped c.self.inside.chain c.args.i c.free.result c.free.ensures.cause c.if-free.true in
    (rows_within _ _ _ _ _ c.args.i at.0 c.self.invariant.joined at.1).0

pub invariant_of-self : goal.invariant_of-self
invariant_of-self c =
    let at = was_stamped c.self.inside.chain c.args.i c.free.result c.free.ensures.cause c.if-free.true in
    rw c.if-free.ensures.freed (freed_kept _ _ _ _ _ _ c.args.i at.0 c.self.invariant at.1 c.unbind_all.ensures)

pub returns-then-free : goal.returns-then-free
returns-then-free c = rw (← c.self.view_is, c.if-free.ensures.freed) (freed_is c.self.inside.decl c.self.inside.chain c.self.inside.labels c.self.inside.columns c.args.i)

pub returns-else-free : goal.returns-else-free
returns-else-free c =
    let none = was_not_stamped c.self.inside.chain c.args.i c.free.result c.free.ensures.cause c.if-free.false in
    rw (← c.self.view_is, c.if-free.ensures.unchanged) (not_freed _ _ _ _ _ c.args.i c.self.invariant.joined none)
