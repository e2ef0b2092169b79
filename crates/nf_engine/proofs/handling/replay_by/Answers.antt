use Rattle.nf_base.specs.Functions.{function_of}
use Rattle.nf_engine.specs.Stops.{halts}
use Rattle.nf_engine.proofs.Undivided.{undivided_step}
use Rattle.nf_engine.proofs.handling.replay_by.Goals as goal

pub returns-in-Some-rerun-clause-done : goal.returns-in-Some-rerun-clause-done
returns-in-Some-rerun-clause-done c =
    let t = c.args.tables.now in
    let f = function_of c.args.func.now in
    undivided_step (halts c.args.strict t.share) f t.state c.args.packet.now c.args.picks.now _ (rw (c.in-Some.is, c.edits.ensures, c.again.ensures) c.in-Some-rerun.ensures.by)
