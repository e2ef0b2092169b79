-- What is wrong with the types of a text, in text order; at one token the least kind first.
use Rattle.std.specs.Prelude.{ℕ, nat_le, Bool, not, List, [], ◌++◌}
use Rattle.std.specs.List.{list_any, range_with_len}
use Rattle.nf_base.specs.declared.packet.Family.{Family}
use Rattle.nf_base.specs.declared.packet.Family.TheVariants.{Four}
use Rattle.nf_tree.specs.Tree as tree
use Rattle.nf_types.specs.declared.fault.TypingKind.TheVariants.{Twice, Limit, NoHandler}
use Rattle.nf_types.specs.declared.fault.Fault.{Fault}
use Rattle.nf_types.specs.Faults.{fault_if, each_behind, length_faults}
use Rattle.nf_types.specs.Counts.{whole_room}
use Rattle.nf_types.specs.Declarations.{objects_of, no_objects}
use Rattle.nf_types.specs.declared.objects.Objects.{Objects}
use Rattle.nf_types.specs.DeclarationFaults.{port_faults, declarations_faults}
use Rattle.nf_types.specs.BlockFaults.{block_faults}
use Rattle.nf_types.specs.Function.{is_at}

-- whether a port has a handler for a version of IP among these
abbrev pub is_handled : ℕ → Family → List tree.Handler → Bool
is_handled port family hs = list_any (is_at port family) hs

-- a handler is the first of its port and version of IP, and its port is declared
unfoldable pub handler_faults : ℕ → Objects → List tree.Handler → tree.Handler → List Fault
handler_faults ports o before h =
    fault_if (is_handled h.port.value h.family before) Twice h.port.place
    ++ (fault_if (nat_le ports h.port.value) Limit h.port.place
    ++ block_faults h.family whole_room o [] h.block)

-- whether some port has no handler for IPv4
abbrev pub lacks_handler : ℕ → List tree.Handler → Bool
lacks_handler ports hs = list_any (λ port. not (is_handled port Four hs)) (range_with_len 0 ports)

-- the faults of a text
abbrev pub faults : tree.Tree → List Fault
faults t =
    length_faults t.name
    ++ (port_faults t.ports
    ++ (declarations_faults no_objects t.declarations
    ++ (each_behind (handler_faults t.ports.value (objects_of t.declarations)) [] t.handlers
    ++ fault_if (lacks_handler t.ports.value t.handlers) NoHandler t.end)))
