use Rattle.std.proofs.Common.{false}
use Rattle.nf_base.specs.Functions.{function_of}
use Rattle.nf_engine.proofs.Finishing.{chosen_own, shares_own}
use Rattle.nf_engine.proofs.Steps.{by_share, meant, own_by, stop_by, undivided_by}
use Rattle.nf_engine.proofs.handling.handle_in.Goals as goal

pub outcome-requires : goal.outcome-requires
outcome-requires g c =
    let t = c.args.tables.now in
    let r = c.run-went in
    chosen_own r.result r.new.context false t.share r.new.tables.state (meant t.share (function_of c.args.func.now) t.state (g.R.Reads.seen c.args.packet.now)) r.ensures.runs

pub returns-clause-done : goal.returns-clause-done
returns-clause-done g c =
    let t = c.args.tables.now in
    let r = c.run-went in
    rw c.outcome.ensures (undivided_by r.result r.new.context t.share (function_of c.args.func.now) t.state r.new.tables.state (g.R.Reads.seen c.args.packet.now) r.ensures.runs)

pub returns-clause-by_share : goal.returns-clause-by_share
returns-clause-by_share g c =
    let t = c.args.tables.now in
    let r = c.run-went in
    rw c.outcome.ensures (by_share r.result r.new.context t.share (function_of c.args.func.now) t.state r.new.tables.state (g.R.Reads.seen c.args.packet.now) r.ensures.runs)

pub returns-clause-own : goal.returns-clause-own
returns-clause-own g c =
    let t = c.args.tables.now in
    let r = c.run-went in
    rw c.outcome.ensures (own_by r.result r.new.context t.share (function_of c.args.func.now) t.state r.new.tables.state (g.R.Reads.seen c.args.packet.now) r.ensures.runs)

pub returns-clause-stop : goal.returns-clause-stop
returns-clause-stop g c =
    let t = c.args.tables.now in
    let r = c.run-went in
    rw c.outcome.ensures (stop_by r.result r.new.context t.share (function_of c.args.func.now) t.state r.new.tables.state (g.R.Reads.seen c.args.packet.now) r.ensures.runs)

pub returns-clause-shared : goal.returns-clause-shared
returns-clause-shared g c =
    let t = c.args.tables.now in
    let r = c.run-went in
    rw c.outcome.ensures (shares_own r.result r.new.context t.share r.new.tables.state (meant t.share (function_of c.args.func.now) t.state (g.R.Reads.seen c.args.packet.now)) r.ensures.runs)
