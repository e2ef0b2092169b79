use denote.Param.{param}
use denote.Param.Send.{param_send}
use Rattle.ring_line.proofs.Crossing.{worker_loop_send}
use Rattle.ring_line.proofs.thread_worker.start.started.Lts.{arg-19-2}
use Rattle.ring_line.proofs.thread_worker.start.started.Goals as goal

pub spawn_with-requires-send-F : goal.spawn_with-requires-send-F
spawn_with-requires-send-F g c κs within =
    param_send 2 (arg-19-2 g.row.R g.row.G g.R.laws g.G.laws g.R.Threads-dict g.R.Wait-dict g.R.Clone-dict g.G.Turns-dict g.R.Destruct-dict g.G.Destruct-dict κs)
    (let s = worker_loop_send (param 1 g.row.G) c.type_bounds.send-G c.type_bounds.sync-G in
    let r = c.type_bounds.send-R in
    record {
      owned = λ x vs vss. (tt, (s.owned x.0 vss.0, (r.owned x.1 vss.1.0, tt)));
      leaving = λ k x w. (s.leaving k x.0 w.0, (tt, tt));
    })
