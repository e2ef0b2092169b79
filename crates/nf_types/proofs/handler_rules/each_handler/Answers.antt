use Rattle.std.proofs.Common.{◌≡◌, ◌<◌, ◌∙◌, sym, length, arith, get_or, None, Some, map, take}
use Rattle.std.proofs.lemmas.Grind.{common_steps}
use Rattle.nf_tree.specs.View as syntax
use Rattle.nf_types.specs.Faults.{first}
use Rattle.nf_types.specs.TextFaults.{handler_faults}
use Rattle.nf_types.proofs.Behind.{seen_ok, seen_err}
use Rattle.nf_types.proofs.handler_rules.each_handler.Goals as goal

pub returns-in_err-handler : goal.returns-in_err-handler
returns-in_err-handler c =
    let lt : c.loop-i.i < length c.args.handlers.now = omega arith in
    let here : first (handler_faults c.args.ports c.args.objects.now (map syntax.handler_of (take c.loop-i.i c.args.handlers.now)) (syntax.handler_of (get_or c.args.handlers.now c.loop-i.i c.index-handlers-i.result))) ≡ Some c.in_err-handler.field-0.0 = grind (arith, common_steps) in
    let e = seen_err syntax.handler_of (handler_faults c.args.ports c.args.objects.now) c.args.handlers.now c.loop-i.i c.index-handlers-i.result c.in_err-handler.field-0.0 lt here in
    let whole = sym c.loop-i.invariant ∙ e in
    grind (arith, common_steps, whole)

pub loop-i-preserved : goal.loop-i-preserved
loop-i-preserved c =
    let lt : c.loop-i.i < length c.args.handlers.now = omega arith in
    let here : first (handler_faults c.args.ports c.args.objects.now (map syntax.handler_of (take c.loop-i.i c.args.handlers.now)) (syntax.handler_of (get_or c.args.handlers.now c.loop-i.i c.index-handlers-i.result))) ≡ None = grind (arith, common_steps) in
    seen_ok syntax.handler_of (handler_faults c.args.ports c.args.objects.now) c.args.handlers.now c.loop-i.i c.index-handlers-i.result lt here ∙ c.loop-i.invariant
