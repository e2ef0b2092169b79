use Rattle.std.proofs.Common.{◌∙◌, ap, refl, length, None, false}
use Rattle.nf_base.specs.declared.func.Func.{Func}
use Rattle.nf_base.specs.declared.packet.Door.{Door}
use Rattle.nf_base.specs.Functions.{function_of}
use Rattle.nf_base.specs.View.{block_of}
use Rattle.nf_code.specs.Code.{block_at}
use Rattle.vig_tables.specs.TablesState.{TablesState}
use Rattle.nf_engine.specs.declared.context.Context.{Context}
use Rattle.nf_engine.specs.Input.{Input, packet_of}
use Rattle.nf_engine.proofs.Finishing.{begins, runs_so}
use Rattle.nf_engine.proofs.OnCode.{fits_begun, way_at, goes_alike}
use Rattle.nf_engine.proofs.code_step.run_ready.Goals as goal

pub run_code-requires-clause-within : goal.run_code-requires-clause-within
run_code-requires-clause-within g c = c.start_of-start.ensures.within

pub run_code-requires-clause-fits : goal.run_code-requires-clause-fits
run_code-requires-clause-fits g c =
    let door : Door = record { port = c.port.result; family = c.family.result } in
    rw (c.as_slice.ensures.value, c.func-func.ensures) (fits_begun c.args.ready.now door c.start_of-start.result.0.now c.start_of-start.result.1 c.start_of-start.ensures)

pub run_code-requires-clause-room : goal.run_code-requires-clause-room
run_code-requires-clause-room g c =
    let b = c.start_of-start.ensures in
    way_at b.handler c.clear.new.self (block_at c.start_of-start.result.0.now c.start_of-start.result.1) (ap (λ (d : Context). d.vars) c.clear.ensures) (ap (λ (d : Context). d.picks) c.clear.ensures) b.stands

pub returns-clause-runs : goal.returns-clause-runs
returns-clause-runs g c =
    let f = c.args.ready.now in
    let s = c.args.tables.now.state in
    let seen = g.R.Reads.seen c.args.packet.now in
    let b = c.start_of-start.ensures in
    let code = c.start_of-start.result.0.now in
    let at = c.start_of-start.result.1 in
    let h = b.handler in
    let t = c.expire.new.self in
    let start = c.clear.new.self in
    let p : Input = record { decls = c.as_slice.result.now; ports = c.len.result; time = seen.time; fields = seen.fields; share = c.share.result; strict = false; choices = None } in
    let chains = ap (λ (u : TablesState). u.state) (rw c.time.ensures at c.expire.ensures) in
    let handler = rw (c.port.ensures, c.family.ensures) at b.is in
    let decls = c.as_slice.ensures.value ∙ ap (λ (x : Func). x.chains) c.func-func.ensures in
    let ports = c.len.ensures.value ∙ ap (λ (x : Func). length x.handlers) c.func-func.ensures in
    let begin = begins p f s (packet_of seen) seen.fields h t start decls ports refl refl handler c.clear.ensures (rw c.requires.of_func at chains) in
    let goes = goes_alike c.run_code.result p (block_at code at) (block_of h.block) t c.run_code.new.tables start c.run_code.new.context b.alike c.run_code.ensures.goes in
    rw (← c.share.ensures) (runs_so p (function_of f) s (packet_of seen) seen.fields (block_of h.block) t c.run_code.new.tables start c.run_code.new.context c.run_code.result begin goes)
