-- what is left decides
use Rattle.std.proofs.Common.{◌≡◌, ◌-◌, map, not}
use Rattle.std.specs.List.{list_any, range_with_len}
use Rattle.nf_base.specs.declared.packet.Family.TheVariants.{Four}
use Rattle.nf_tree.specs.View.{handler_of}
use Rattle.nf_types.specs.TextFaults.{is_handled, lacks_handler}
use Rattle.nf_types.proofs.handler_rules.lacks_handler.Given as goal

abbrev pub invariant-loop-port : goal.invariant-loop-port
invariant-loop-port l =
    list_any (λ p. not (is_handled p Four (map handler_of l.handlers))) (range_with_len l.port (l.ports - l.port))
    ≡ lacks_handler l.ports (map handler_of l.handlers)
