use Rattle.vig_tables.proofs.Reading.{rows_within}
use Rattle.vig_tables.proofs.Changing.{past_stamped, past_gone, fewer_live, none_gone}
use Rattle.vig_tables.proofs.Kept.{all_bound_at, freed_kept}
use Rattle.vig_tables.proofs.chain_tables.ChainTables.expire_one.Goals as goal

pub returns-in-None-clause-done : goal.returns-in-None-clause-done
returns-in-None-clause-done c = rw (← c.self.view_is, c.in-None.ensures.unchanged) (none_gone _ _ _ _ _ c.args.time c.self.invariant.joined c.in-None.ensures.cause)

pub unbind_all-requires-clause-bound : goal.unbind_all-requires-clause-bound
unbind_all-requires-clause-bound c =
    let at = past_stamped c.self.inside.chain c.args.time c.self.inside.decl.lifetime c.in-Some.i c.in-Some.ensures.cause in
    all_bound_at _ _ _ _ _ c.in-Some.i at.0 c.self.invariant at.1

pub unbind_all-requires-clause-within : goal.unbind_all-requires-clause-within
unbind_all-requires-clause-within c =
    let at = past_stamped c.self.inside.chain c.args.time c.self.inside.decl.lifetime c.in-Some.i c.in-Some.ensures.cause in
    (rows_within _ _ _ _ _ c.in-Some.i at.0 c.self.invariant.joined at.1).0

pub invariant_of-self-2 : goal.invariant_of-self-2
invariant_of-self-2 c =
    let at = past_stamped c.self.inside.chain c.args.time c.self.inside.decl.lifetime c.in-Some.i c.in-Some.ensures.cause in
    rw c.in-Some.ensures.freed (freed_kept _ _ _ _ _ _ c.in-Some.i at.0 c.self.invariant at.1 c.unbind_all.ensures)

pub returns-clause-same : goal.returns-clause-same
returns-clause-same c = rw (← c.self.view_is, c.in-Some.ensures.freed) (past_gone _ _ _ _ _ c.args.time c.in-Some.i c.self.invariant.joined c.in-Some.ensures.cause)

pub returns-clause-fewer : goal.returns-clause-fewer
returns-clause-fewer c =
    let at = past_stamped c.self.inside.chain c.args.time c.self.inside.decl.lifetime c.in-Some.i c.in-Some.ensures.cause in
    rw (← c.self.view_is, c.in-Some.ensures.freed) (fewer_live _ _ _ _ _ c.in-Some.i at.0 c.self.invariant.joined at.1)
