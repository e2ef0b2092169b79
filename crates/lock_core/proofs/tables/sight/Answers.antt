use Rattle.std.proofs.Common.{take}
use Rattle.nf_base.specs.Functions.{function_of}
use Rattle.lock_core.specs.Calls.{history}
use Rattle.lock_core.proofs.Sights.{front_comes, in_front, comes_at, seen_done, seen_needs}
use Rattle.lock_core.proofs.tables.sight.Goals as goal

pub replayed-requires-clause-comes : goal.replayed-requires-clause-comes
replayed-requires-clause-comes c = front_comes (function_of c.args.func.now) c.args.order.now c.place_behind-place.result c.requires.comes

pub replayed-requires-clause-packets : goal.replayed-requires-clause-packets
replayed-requires-clause-packets c = in_front c.place_behind-place.result (function_of c.args.func.now) c.args.order.now c.requires.packets

pub returns-clause-done : goal.returns-clause-done
returns-clause-done c =
    let f = function_of c.args.func.now in
    let order = c.args.order.now in
    let comes = comes_at f order c.args.prefix c.place_behind-place.result c.in_ok-tables.tables c.place_behind-place.ensures.value c.in_ok-tables.ensures in
    seen_done c.look.result f (take c.args.prefix (history order)) c.in_ok-tables.tables.state c.args.packet.now comes c.look.ensures.done

pub returns-clause-needs : goal.returns-clause-needs
returns-clause-needs c =
    let f = function_of c.args.func.now in
    let order = c.args.order.now in
    let comes = comes_at f order c.args.prefix c.place_behind-place.result c.in_ok-tables.tables c.place_behind-place.ensures.value c.in_ok-tables.ensures in
    seen_needs c.look.result f (take c.args.prefix (history order)) c.in_ok-tables.tables.state c.args.packet.now comes c.look.ensures.needs
