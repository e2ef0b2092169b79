use Rattle.std.proofs.Common.{◌∙◌, sym, refl}
use Rattle.std.specs.Prelude.{Some}
use Rattle.vig_tables.proofs.Expiring.{kept_past, kept_within}
use Rattle.vig_tables.proofs.Reading.{entry_with, stands, stands_not}
use Rattle.vig_tables.proofs.chain_tables.ChainTables.living_stamp.Goals as goal

pub returns-in-None-clause-value : goal.returns-in-None-clause-value
returns-in-None-clause-value c = rw (← c.self.view_is, stands_not _ _ _ _ _ c.args.i c.self.invariant.joined (sym c.in-None.ensures.value)) refl

pub returns-then-is_past-clause-value : goal.returns-then-is_past-clause-value
returns-then-is_past-clause-value c =
    let a = c.self.inside in
    let here = stands _ _ _ _ _ c.args.i c.in-Some.stamp c.self.invariant.joined (sym c.in-Some.ensures.value) in
    let gone = kept_past c.args.time a.decl.lifetime (Some (entry_with c.in-Some.stamp a.labels a.columns c.args.i)) (sym c.is_past.ensures ∙ c.if-is_past.true) in
    rw (← c.self.view_is, here, gone) refl

pub returns-else-is_past-clause-value : goal.returns-else-is_past-clause-value
returns-else-is_past-clause-value c =
    let a = c.self.inside in
    let here = stands _ _ _ _ _ c.args.i c.in-Some.stamp c.self.invariant.joined (sym c.in-Some.ensures.value) in
    let stays = kept_within c.args.time a.decl.lifetime (Some (entry_with c.in-Some.stamp a.labels a.columns c.args.i)) (sym c.is_past.ensures ∙ c.if-is_past.false) in
    rw (← c.self.view_is, here, stays) refl
