use Rattle.std.proofs.Common.{refl, arith}
use Rattle.nf_base.specs.Functions.{function_of}
use Rattle.lock_core.specs.declared.call.Way.TheVariants as way
use Rattle.lock_core.specs.declared.call.Ordered.{Ordered}
use Rattle.lock_core.proofs.Places.{history_within}
use Rattle.lock_core.proofs.Logging.{alone_kept}
use Rattle.lock_core.proofs.log.Log.play_alone.Goals as goal

pub overflow_add-self : goal.overflow_add-self
overflow_add-self c =
    let log = c.args.self.now in
    omega (arith, log.long, history_within log.order.items, log.order.ok.0, log.order.ok.1, log.order.small)

pub invariant_of-self-2 : goal.invariant_of-self-2
invariant_of-self-2 c =
    let log = c.args.self.now in
    let f = function_of log.func in
    let x : Ordered = record { seat = c.args.seat; way = way.Alone; packet = c.args.packet.now; done = c.again.result } in
    let kept = alone_kept f log.order.items x log.entries log.tables c.handle_whole-done.new.tables c.handle_whole-done.result c.put.new.items.items c.reserve.new.self.items log.decls log.whole log.comes log.long log.packets (c.requires.valid.port, c.requires.valid.served)
    c.handle_whole-done.ensures.steps c.handle_whole-done.ensures.same c.again.ensures refl c.put.ensures c.reserve.ensures.items in
    record { decls = kept.decls; whole = kept.whole; comes = kept.comes; long = kept.long; packets = kept.packets }
