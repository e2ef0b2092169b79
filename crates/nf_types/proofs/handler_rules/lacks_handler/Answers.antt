use Rattle.std.proofs.Common.{◌≡◌, ◌∙◌, ℕ, ◌<◌, not, map, false, arith}
use Rattle.std.proofs.lemmas.Grind.{common_steps}
use Rattle.nf_base.specs.declared.packet.Family.TheVariants.{Four}
use Rattle.nf_tree.specs.View as syntax
use Rattle.nf_types.specs.TextFaults.{is_handled}
use Rattle.nf_types.proofs.Ranges.{any_more}
use Rattle.nf_types.proofs.handler_rules.lacks_handler.Goals as goal

pub loop-port-preserved : goal.loop-port-preserved
loop-port-preserved c =
    let lt : c.loop-port.port < c.args.ports = omega arith in
    let here : not (is_handled c.loop-port.port Four (map syntax.handler_of c.args.handlers.now)) ≡ false = grind (arith, common_steps) in
    any_more (λ (p : ℕ). not (is_handled p Four (map syntax.handler_of c.args.handlers.now))) c.loop-port.port c.args.ports lt here ∙ c.loop-port.invariant
