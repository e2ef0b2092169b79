use Rattle.std.proofs.Common.{◌≡◌, ◌<◌, ap, subst, length, map, false, List, arith}
use Rattle.nf_base.specs.Text.{Function}
use Rattle.nf_tree.specs.declared.handler.HandlerTree.{HandlerTree}
use Rattle.nf_tree.specs.View.{handler_of, tree_of}
use Rattle.nf_types.specs.TextFaults.{is_handled}
use Rattle.nf_base.specs.Functions.{function_of}
use Rattle.call_base.specs.declared.function.Uncounted.{Uncounted}
use Rattle.call_base.specs.Source.{path_count}
use Rattle.call_base.specs.Walking.{IsUncounted}
use Rattle.call_base.proofs.Handlers.{door_handled}
use Rattle.call_base.proofs.function.walked.Goals as goal

pub unreachable-requires : goal.unreachable-requires
unreachable-requires c =
    let door = c.in-Err-TooMany.door in
    let many = subst (λ (e : Uncounted). IsUncounted (function_of c.args.func) e) c.in-Err-TooMany.field-0-is c.in-Err-TooMany.ensures.many in
    let within = subst (λ (f : Function). door.port < length f.handlers) c.requires.stands_for many.0 in
    let past = subst (λ (f : Function). 4096 < path_count f door) c.requires.stands_for many.1.past in
    let handled = door_handled (tree_of c.args.tree.now) door c.requires.faultless within (omega (arith, past)) in
    let none : is_handled door.port door.family (map handler_of c.as_slice.result.now) ≡ false = c.in-None.ensures in
    let same = ap (λ (hs : List HandlerTree). is_handled door.port door.family (map handler_of hs)) c.as_slice.ensures in
    cc (handled, none, same)
