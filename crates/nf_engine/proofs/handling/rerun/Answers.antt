use Rattle.std.proofs.Common.{◌∙◌, sym, arith, inl}
use Rattle.nf_base.specs.Functions.{function_of}
use Rattle.nf_engine.specs.Handlings.{completes_for}
use Rattle.nf_engine.specs.Input.{packet_of}
use Rattle.nf_engine.proofs.Finishing.{own_all, runs_none}
use Rattle.nf_engine.proofs.handling.rerun.Goals as goal

pub returns-else-len-clause-own : goal.returns-else-len-clause-own
returns-else-len-clause-own g c =
    let t = c.args.tables.now in
    let seen = g.R.Reads.seen c.args.packet.now in
    let r = c.run-went in
    let a = c.len.ensures.value in
    let b = c.len-in-Some.ensures.value in
    let more = c.if-len.false in
    own_all r.result c.in-Some.action r.new.context c.args.strict t.share c.args.picks r.new.tables.state (completes_for c.args.strict t.share (function_of c.args.func.now) t.state (packet_of seen) seen.fields) r.ensures.runs (sym c.end_of.ensures ∙ c.in-Some.is) (omega (arith, a, b, more))

pub returns-in-None-clause-bad : goal.returns-in-None-clause-bad
returns-in-None-clause-bad g c = λ own.
    let t = c.args.tables.now in
    let seen = g.R.Reads.seen c.args.packet.now in
    let r = c.run-went in
    runs_none r.result r.new.context c.args.strict t.share c.args.picks r.new.tables.state (completes_for c.args.strict t.share (function_of c.args.func.now) t.state (packet_of seen) seen.fields) r.ensures.runs (inl (sym c.end_of.ensures ∙ c.in-None.is)) own
