use Rattle.std.proofs.Common.{◌∙◌, ap, sym, arith, true}
use Rattle.std.specs.List.{list_any}
use Rattle.std.proofs.lemmas.List.{length-set}
use Rattle.std.proofs.lemmas.Bool.{and_parts}
use Rattle.vig_tables.specs.Tagged.{is_bound_in}
use Rattle.vig_tables.proofs.Kept.{all_ready, entered_kept}
use Rattle.vig_tables.proofs.Mapped.{any_bound}
use Rattle.vig_tables.proofs.Reading.{full_is, open_is}
use Rattle.vig_tables.proofs.Making.{open_rows, entered_is, bound_taken}
use Rattle.vig_tables.proofs.chain_tables.ChainTables.create.Goals as goal

pub is_any_bound-requires : goal.is_any_bound-requires
is_any_bound-requires c = rw c.as_slice.ensures.value c.self.invariant.tagged

pub returns-then-is_any_bound-clause-cause : goal.returns-then-is_any_bound-clause-cause
returns-then-is_any_bound-clause-cause c =
    let a = c.self.inside in
    let bound = sym (any_bound a.labels c.args.labels.now a.maps.items) ∙ ap (list_any (is_bound_in a.labels c.args.labels.now)) (sym c.as_slice.ensures.value) ∙ sym c.is_any_bound.ensures ∙ c.if-is_any_bound.true in
    rw (← c.self.view_is) (sym (bound_taken _ _ _ _ _ c.args.labels.now c.self.invariant.joined) ∙ bound)

pub returns-in-None-clause-cause : goal.returns-in-None-clause-cause
returns-in-None-clause-cause c =
    let a = c.self.inside in
    let unbound = sym (any_bound a.labels c.args.labels.now a.maps.items) ∙ ap (list_any (is_bound_in a.labels c.args.labels.now)) (sym c.as_slice.ensures.value) ∙ sym c.is_any_bound.ensures ∙ c.if-is_any_bound.false in
    rw (← c.self.view_is) (record {
      untaken = sym (bound_taken _ _ _ _ _ c.args.labels.now c.self.invariant.joined) ∙ unbound;
      full = sym (full_is _ _ _ _ _ c.self.invariant.joined true c.in-None.ensures.cause);
    })

pub set_row-requires-clause-within : goal.set_row-requires-clause-within
set_row-requires-clause-within c = (open_rows _ _ _ _ _ c.in-Some.i c.self.invariant.joined c.in-Some.ensures.cause).0

pub clear_row-requires : goal.clear_row-requires
clear_row-requires c = (open_rows _ _ _ _ _ c.in-Some.i c.self.invariant.joined c.in-Some.ensures.cause).1

pub bind_all-requires-clause-ready : goal.bind_all-requires-clause-ready
bind_all-requires-clause-ready c =
    let a = c.self.inside in
    let unbound = sym (any_bound a.labels c.args.labels.now a.maps.items) ∙ ap (list_any (is_bound_in a.labels c.args.labels.now)) (sym c.as_slice.ensures.value) ∙ sym c.is_any_bound.ensures ∙ c.if-is_any_bound.false in
    rw c.set_row.ensures (all_ready _ _ _ _ _ c.in-Some.i c.args.labels.now c.self.invariant c.in-Some.ensures.cause unbound)

pub bind_all-requires-clause-within : goal.bind_all-requires-clause-within
bind_all-requires-clause-within c = rw c.set_row.ensures (omega (arith, length-set c.self.inside.labels.rows c.in-Some.i c.args.labels.now, (open_rows _ _ _ _ _ c.in-Some.i c.self.invariant.joined c.in-Some.ensures.cause).0))

pub invariant_of-self-2 : goal.invariant_of-self-2
invariant_of-self-2 c =
    let a = c.self.inside in
    let unbound = sym (any_bound a.labels c.args.labels.now a.maps.items) ∙ ap (list_any (is_bound_in a.labels c.args.labels.now)) (sym c.as_slice.ensures.value) ∙ sym c.is_any_bound.ensures ∙ c.if-is_any_bound.false in
    rw (c.in-Some.ensures.stamped, c.set_row.ensures, c.clear_row.ensures)
    (entered_kept _ _ _ _ _ _ c.args.time c.in-Some.i c.args.labels.now _ c.self.invariant c.in-Some.ensures.cause unbound (rw c.set_row.ensures at c.bind_all.ensures))

pub returns-clause-cause : goal.returns-clause-cause
returns-clause-cause c =
    let a = c.self.inside in
    let unbound = sym (any_bound a.labels c.args.labels.now a.maps.items) ∙ ap (list_any (is_bound_in a.labels c.args.labels.now)) (sym c.as_slice.ensures.value) ∙ sym c.is_any_bound.ensures ∙ c.if-is_any_bound.false in
    let parts = and_parts _ _ (open_is _ _ _ _ _ c.self.invariant.joined c.in-Some.i ∙ c.in-Some.ensures.cause) in
    rw (← c.self.view_is) (record {
      untaken = sym (bound_taken _ _ _ _ _ c.args.labels.now c.self.invariant.joined) ∙ unbound;
      own = parts.0;
      vacant = parts.1;
    })

pub returns-clause-changes : goal.returns-clause-changes
returns-clause-changes c =
    rw (← c.self.view_is, c.in-Some.ensures.stamped, c.set_row.ensures, c.clear_row.ensures)
    (entered_is _ _ _ _ _ c.args.time c.in-Some.i c.args.labels.now c.self.invariant.joined)
