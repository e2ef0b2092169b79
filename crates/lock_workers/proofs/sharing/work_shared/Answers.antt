use Rattle.std.proofs.Common.{length, subst}
use Rattle.lock_workers.specs.Sharing.{AreAllDone}
use Rattle.lock_workers.proofs.Joined.{are_workers, are_all, shared_of}
use Rattle.lock_workers.proofs.sharing.work_shared.Goals as goal

pub work_each-requires-clause-workers : goal.work_each-requires-clause-workers
work_each-requires-clause-workers g c κs within = are_workers g.J.Naming.function g.J.Naming.seats c.args.packets.now c.args.own.now c.args.seats.items c.requires.new c.requires.dealt c.requires.ports c.requires.served

pub close-requires : goal.close-requires
close-requires g c = record {
  all = are_all g.J.Naming.seats c.args.packets.now c.args.own.now c.args.seats.items c.work_each.new.seats.items c.requires.new c.requires.dealt.many c.work_each.ensures;
}

pub returns-in-Ok : goal.returns-in-Ok
returns-in-Ok g c =
    let own = c.args.own.now in
    let after = c.work_each.new.seats.items in
    let done : AreAllDone own after = subst (AreAllDone own) c.as_slice.ensures.value c.if-not-are_done.ensures in
    shared_of g.J.Naming.function g.J.Naming.seats c.args.packets.now own c.args.seats.items after c.in-Ok.closed.order c.in-Ok.closed.tables c.requires.new c.requires.dealt.many c.work_each.ensures done c.in-Ok.ensures.closed
