use Rattle.std.proofs.Common.{◌≡◌, refl, rules, ap, ◌∙◌, subst, Some, true, false, List, [], ◌∷◌, ◌++◌, set, Option, Bool, arith}
use Rattle.std.proofs.lemmas.List.{length-set}
use Rattle.certificate_laws.specs.declared.line.Line.{Line}
use Rattle.certificate_laws.specs.declared.line.Line.TheVariants as line
use Rattle.certificate_prove.specs.Growing.{Writes}
use Rattle.certificate_prove.proofs.Stuck.{stuck}
use Rattle.certificate_prove.proofs.Splitting.{nameable_at, off_refuted, on_refuted, long_on, fewer_off, fewer_on, split_written}
use Rattle.certificate_prove.proofs.tree.+grow.Goals as goal

pub grow-requires : goal.grow-requires
grow-requires t c =
    let long = length-set c.args.fixed.now c.in-Some.place (Some false) in
    let below = c.in-Some.ensures.within c.in-Some.place refl in
    let open_there = c.in-Some.ensures.open c.in-Some.place refl in
    let less = fewer_off c.args.fixed.now c.in-Some.place below open_there in (
      search (rules, less),
      (nameable_at _ _ _ _ _ _ long c.requires.nameable, off_refuted _ _ _ _ open_there c.requires.refuted),
    )

pub grow-requires-2 : goal.grow-requires-2
grow-requires-2 t c =
    let below = c.in-Some.ensures.within c.in-Some.place refl in
    let open_there = c.in-Some.ensures.open c.in-Some.place refl in
    let is = c.in_ok-grow.ensures.same in
    let long = long_on c.args.fixed.now c.grow.new.fixed c.in-Some.place is in
    let less = fewer_on c.args.fixed.now c.grow.new.fixed c.in-Some.place is below open_there in (
      search (rules, less),
      (nameable_at _ _ _ _ _ _ long c.requires.nameable, on_refuted _ _ _ _ _ is open_there c.requires.refuted),
    )

pub unreachable-requires : goal.unreachable-requires
unreachable-requires t c =
    stuck c.args.table c.args.positions.now c.args.rows.now c.args.spans.now c.args.fixed.now c.requires.nameable c.requires.refuted
    (c.in_ok-row_clash.ensures.no c.if-branch.false) (c.in_ok-span_zero.ensures.no c.if-branch-2.false) (c.in_default.ensures.none refl)

pub returns-clause-written : goal.returns-clause-written
returns-clause-written t c =
    let place = c.in-Some.place in
    let first = c.in_ok-row_clash.ensures.unchanged c.if-branch.false in
    let second = c.in_ok-span_zero.ensures.unchanged c.if-branch-2.false in
    let put : c.push.new.self.items ≡ c.args.out.now.items ++ line.Split place ∷ [] = c.in_ok-push.ensures.items ∙ ap (λ l. l ++ line.Split place ∷ []) (second ∙ first) in
    let off : Writes c.args.table c.args.positions.now c.args.rows.now c.args.spans.now (set c.args.fixed.now place (Some false)) (c.args.out.now.items ++ line.Split place ∷ []) c.grow.new.out.items =
    subst (λ (l : List Line). Writes c.args.table c.args.positions.now c.args.rows.now c.args.spans.now (set c.args.fixed.now place (Some false)) l c.grow.new.out.items) put c.in_ok-grow.ensures.written in
    let on : Writes c.args.table c.args.positions.now c.args.rows.now c.args.spans.now (set (set c.args.fixed.now place (Some false)) place (Some true)) c.grow.new.out.items c.grow-2.new.out.items =
    subst (λ (l : List (Option Bool)). Writes c.args.table c.args.positions.now c.args.rows.now c.args.spans.now (set l place (Some true)) c.grow.new.out.items c.grow-2.new.out.items) c.in_ok-grow.ensures.same c.in_ok-grow-2.ensures.written in
    split_written c.args.table c.args.positions.now c.args.rows.now c.args.spans.now c.args.fixed.now place c.args.out.now.items c.grow.new.out.items c.grow-2.new.out.items
    (c.in-Some.ensures.within place refl) (c.in-Some.ensures.counted place refl) off on
