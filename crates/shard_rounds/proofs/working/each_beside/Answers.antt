use mir.Syntax.{named}
use denote.Param.Send.{param_send, mut_send}
use Rattle.std.specs.contracts.vec.Vec as Vec
use Rattle.std.specs.contracts.alloc.Global as Heap
use Rattle.std.specs.contracts.impls.GlobalAllocator.TheImpl.{ghosts}
use Rattle.std.proofs.Crossing.{Vec-send}
use Rattle.nf_base.proofs.Shared.{func_sync}
use Rattle.shard_core.specs.contracts.worker.Worker as worker
use Rattle.shard_core.proofs.worker.Worker.TheSendSync as worker_law
use Rattle.shard_rounds.proofs.working.each_beside.Lts.{arg-0-1}
use Rattle.shard_rounds.proofs.working.each_beside.Goals as goal

pub join_mut-came-requires-send-F : goal.join_mut-came-requires-send-F
join_mut-came-requires-send-F g c κs within =
    param_send 1 (arg-0-1 g.row.R g.row.G g.row.H g.row.B g.R.laws g.G.laws g.H.laws g.B.laws g.R.Threads-dict g.G.Turns-dict g.H.FnMut-dict g.H.FnOnce-dict g.H.Destruct-dict κs)
    (record {
      owned = λ x vs vss. (
        tt,
        (
          (tt, c.type_bounds.sync-R.shared x.0.now x.0.ref_ptr.0 x.0.ref_ptr.1 κs.1.1.1.1.1.1.1.1.0),
          (
            (mut_send (named 1) κs.1.1.1.1.1.1.1.1.1.0 (Vec.the_row worker.the_row Heap.the_row ghosts) (Vec-send worker.the_row worker_law.the_send)).owned x.1 vss.1.0,
            (
              (tt, func_sync.shared x.2.now x.2.ref_ptr.0 x.2.ref_ptr.1 κs.1.1.1.1.1.1.1.1.1.1.0),
              ((tt, c.type_bounds.sync-G.shared x.3.now x.3.ref_ptr.0 x.3.ref_ptr.1 κs.1.1.1.1.1.1.1.1.1.1.1.0), tt),
            ),
          ),
        ),
      );
      leaving = λ k x w. (tt, (tt, tt));
    })
