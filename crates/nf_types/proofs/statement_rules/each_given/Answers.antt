use Rattle.std.proofs.Common.{◌≡◌, ◌<◌, ◌∙◌, sym, length, arith, get_or, None, Some, map, take}
use Rattle.std.proofs.lemmas.Grind.{common_steps}
use Rattle.nf_tree.specs.View as syntax
use Rattle.nf_types.specs.Faults.{first}
use Rattle.nf_types.specs.StatementFaults.{given_faults}
use Rattle.nf_types.specs.View.{variables_of}
use Rattle.nf_types.proofs.Behind.{seen_ok, seen_err}
use Rattle.nf_types.proofs.statement_rules.each_given.Goals as goal

pub returns-in_err-given : goal.returns-in_err-given
returns-in_err-given c =
    let lt : c.loop-i.i < length c.args.all.now = omega arith in
    let here : first (given_faults c.args.family c.args.objects.now (variables_of c.args.scope.now) c.args.chain.now (map syntax.given_of (take c.loop-i.i c.args.all.now)) (syntax.given_of (get_or c.args.all.now c.loop-i.i c.index-all-i.result))) ≡ Some c.in_err-given.field-0.0 = grind (arith, common_steps) in
    let e = seen_err syntax.given_of (given_faults c.args.family c.args.objects.now (variables_of c.args.scope.now) c.args.chain.now) c.args.all.now c.loop-i.i c.index-all-i.result c.in_err-given.field-0.0 lt here in
    let whole = sym c.loop-i.invariant ∙ e in
    grind (arith, common_steps, whole)

pub loop-i-preserved : goal.loop-i-preserved
loop-i-preserved c =
    let lt : c.loop-i.i < length c.args.all.now = omega arith in
    let here : first (given_faults c.args.family c.args.objects.now (variables_of c.args.scope.now) c.args.chain.now (map syntax.given_of (take c.loop-i.i c.args.all.now)) (syntax.given_of (get_or c.args.all.now c.loop-i.i c.index-all-i.result))) ≡ None = grind (arith, common_steps) in
    seen_ok syntax.given_of (given_faults c.args.family c.args.objects.now (variables_of c.args.scope.now) c.args.chain.now) c.args.all.now c.loop-i.i c.index-all-i.result lt here ∙ c.loop-i.invariant
