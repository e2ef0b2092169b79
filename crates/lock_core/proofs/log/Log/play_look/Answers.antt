use Rattle.std.proofs.Common.{◌∙◌, ap, refl, sym, subst, is_ok, List}
use Rattle.nf_base.specs.Functions.{function_of}
use Rattle.lock_core.specs.declared.call.Way.TheVariants as way
use Rattle.lock_core.specs.declared.call.Ordered.{Ordered}
use Rattle.lock_core.specs.Calls.{history}
use Rattle.lock_core.specs.Events.{ComesTo}
use Rattle.lock_core.specs.Logs.{LogState}
use Rattle.lock_core.specs.Steps.{place_behind}
use Rattle.lock_core.proofs.Logging.{look_kept_if, put_in}
use Rattle.lock_core.proofs.log.Log.play_look.Goals as goal

pub sight-requires-clause-comes : goal.sight-requires-clause-comes
sight-requires-clause-comes c =
    let log = c.args.self.now in
    (log.tables.state, subst (λ xs. ComesTo (function_of log.func) (history xs) log.tables.state) (sym c.as_slice.ensures.value) log.comes)

pub invariant_of-self-2 : goal.invariant_of-self-2
invariant_of-self-2 c =
    let log = c.args.self.now in
    let look : Ordered = record { seat = c.args.seat; way = way.Look; packet = c.args.packet.now; done = c.again.result } in
    let at = c.place_behind-place.ensures.value ∙ ap (place_behind c.args.prefix) c.as_slice-2.ensures.value in
    let kept = look_kept_if (is_ok c.insert.result) (function_of log.func) log.order.items look log.entries c.args.prefix c.place_behind-place.result log.tables c.insert.new.self.items log.comes log.long log.packets (c.requires.valid.port, c.requires.valid.served) refl at c.insert.ensures.items in
    record { decls = log.decls; whole = log.whole; comes = kept.0; long = kept.1; packets = kept.2 }

pub returns-clause-order : goal.returns-clause-order
returns-clause-order c =
    let log = c.args.self.now in
    let items = put_in log.order.items c.as_slice-2.result.now c.insert.new.self.items c.args.seat c.args.prefix c.place_behind-place.result c.args.packet.now c.in-Done.done c.again.result c.as_slice-2.ensures.value c.place_behind-place.ensures.value c.again.ensures c.in_ok-insert.ensures.items in
    ap (λ (xs : List Ordered). let s : LogState = record { function = function_of log.func; seats = log.seats; order = xs } in s) items
