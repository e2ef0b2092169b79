use Rattle.std.proofs.Common.{◌∙◌, ap, refl, sym, None, false, length}
use Rattle.nf_base.specs.declared.func.Func.{Func}
use Rattle.nf_base.specs.declared.packet.Door.{Door}
use Rattle.nf_base.specs.Functions.{function_of}
use Rattle.nf_base.specs.View.{block_of}
use Rattle.nf_code.specs.Code.{block_at}
use Rattle.nf_engine.specs.declared.context.Context.{Context}
use Rattle.nf_engine.specs.Input.{Input, packet_of}
use Rattle.nf_engine.proofs.Finishing.{begins}
use Rattle.nf_engine.proofs.Looking.{looks_done, looks_write, state_stays}
use Rattle.nf_engine.proofs.OnCode.{fits_begun, way_at, goes_quietly_alike, told_quiet_alike, writes_alike}
use Rattle.nf_engine.proofs.code_look.look_by.Goals as goal

pub look_code-requires-clause-within : goal.look_code-requires-clause-within
look_code-requires-clause-within g c = c.start_of-start.ensures.within

pub look_code-requires-clause-fits : goal.look_code-requires-clause-fits
look_code-requires-clause-fits g c =
    let door : Door = record { port = c.port.result; family = c.family.result } in
    rw (c.as_slice.ensures.value, c.func-func.ensures) (fits_begun c.args.ready.now door c.start_of-start.result.0.now c.start_of-start.result.1 c.start_of-start.ensures)

pub look_code-requires-clause-room : goal.look_code-requires-clause-room
look_code-requires-clause-room g c =
    let b = c.start_of-start.ensures in
    (way_at b.handler c.clear.new.self (block_at c.start_of-start.result.0.now c.start_of-start.result.1) (ap (λ (d : Context). d.vars) c.clear.ensures) (ap (λ (d : Context). d.picks) c.clear.ensures) b.stands).vars

pub returns-in_default-clause-needs : goal.returns-in_default-clause-needs
returns-in_default-clause-needs g c =
    let f = c.args.ready.now in
    let t = c.args.tables.now in
    let seen = g.R.Reads.seen c.args.packet.now in
    let b = c.start_of-start.ensures in
    let code = c.start_of-start.result.0.now in
    let at = c.start_of-start.result.1 in
    let h = b.handler in
    let start = c.clear.new.self in
    let p : Input = record { decls = c.as_slice.result.now; ports = c.len.result; time = seen.time; fields = seen.fields; share = c.share.result; strict = false; choices = None } in
    let handler = rw (c.port.ensures, c.family.ensures) at b.is in
    let none = rw c.requires.of_func at c.requires.none_due in
    let decls = c.as_slice.ensures.value ∙ ap (λ (x : Func). x.chains) c.func-func.ensures in
    let ports = c.len.ensures.value ∙ ap (λ (x : Func). length x.handlers) c.func-func.ensures in
    let begin = begins p f t.state (packet_of seen) seen.fields h t start decls ports refl refl handler c.clear.ensures (sym (state_stays (function_of f) seen.time t.state none)) in
    looks_write p (function_of f) (packet_of seen) seen.fields (block_of h.block) t start begin refl none (writes_alike p (block_at code at) (block_of h.block) t start b.alike c.in_default.ensures.writes)

pub returns-clause-done : goal.returns-clause-done
returns-clause-done g c =
    let f = c.args.ready.now in
    let t = c.args.tables.now in
    let seen = g.R.Reads.seen c.args.packet.now in
    let b = c.start_of-start.ensures in
    let code = c.start_of-start.result.0.now in
    let at = c.start_of-start.result.1 in
    let h = b.handler in
    let start = c.clear.new.self in
    let new = c.look_code.new.context in
    let flow = c.in-Some.flow in
    let p : Input = record { decls = c.as_slice.result.now; ports = c.len.result; time = seen.time; fields = seen.fields; share = c.share.result; strict = false; choices = None } in
    let handler = rw (c.port.ensures, c.family.ensures) at b.is in
    let none = rw c.requires.of_func at c.requires.none_due in
    let decls = c.as_slice.ensures.value ∙ ap (λ (x : Func). x.chains) c.func-func.ensures in
    let ports = c.len.ensures.value ∙ ap (λ (x : Func). length x.handlers) c.func-func.ensures in
    let begin = begins p f t.state (packet_of seen) seen.fields h t start decls ports refl refl handler c.clear.ensures (sym (state_stays (function_of f) seen.time t.state none)) in
    rw c.action_of.ensures
    (looks_done p (function_of f) (packet_of seen) seen.fields (block_of h.block) t start new flow begin refl none
    (goes_quietly_alike flow p (block_at code at) (block_of h.block) t start new b.alike c.in-Some.ensures.goes)
    (told_quiet_alike flow p (block_at code at) (block_of h.block) t start new b.alike c.in-Some.ensures.told))
