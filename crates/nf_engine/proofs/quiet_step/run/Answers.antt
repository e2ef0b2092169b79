use Rattle.std.proofs.Common.{ap, refl, sym, None, false}
use Rattle.nf_base.specs.declared.packet.Door.{Door}
use Rattle.nf_base.specs.Functions.{function_of}
use Rattle.nf_base.specs.View.{block_of}
use Rattle.nf_engine.specs.declared.context.Context.{Context}
use Rattle.nf_engine.specs.Input.{Input, packet_of}
use Rattle.nf_engine.proofs.Finishing.{begins}
use Rattle.nf_engine.proofs.Looking.{looks_done, looks_write, state_stays}
use Rattle.nf_engine.proofs.Rooms.{fits_at, room_at}
use Rattle.nf_engine.proofs.quiet_step.run.Goals as goal

pub handler_of-handler-requires : goal.handler_of-handler-requires
handler_of-handler-requires g c =
    let seen = g.R.Reads.seen c.args.packet.now in
    rw (c.port.ensures, c.family.ensures) (c.requires.served seen.fields refl)

pub exec_quietly-requires-clause-fits : goal.exec_quietly-requires-clause-fits
exec_quietly-requires-clause-fits g c =
    let door : Door = record { port = c.port.result; family = c.family.result } in
    rw c.as_slice.ensures.value (fits_at c.args.func.now door c.handler_of-handler.result.now c.handler_of-handler.ensures)

pub exec_quietly-requires-clause-room : goal.exec_quietly-requires-clause-room
exec_quietly-requires-clause-room g c =
    (room_at c.handler_of-handler.result.now c.new-context.result (ap (λ (d : Context). d.vars) c.new-context.ensures) (ap (λ (d : Context). d.picks) c.new-context.ensures)).vars

pub returns-in_default-clause-needs : goal.returns-in_default-clause-needs
returns-in_default-clause-needs g c =
    let f = c.args.func.now in
    let t = c.args.tables.now in
    let seen = g.R.Reads.seen c.args.packet.now in
    let h = c.handler_of-handler.result.now in
    let start = c.new-context.result in
    let p : Input = record { decls = c.as_slice.result.now; ports = c.len.result; time = seen.time; fields = seen.fields; share = c.share.result; strict = false; choices = None } in
    let handler = rw (c.port.ensures, c.family.ensures) at c.handler_of-handler.ensures in
    let none = rw c.requires.of_func at c.requires.none_due in
    let begin = begins p f t.state (packet_of seen) seen.fields h t start c.as_slice.ensures.value c.len.ensures.value refl refl handler c.new-context.ensures (sym (state_stays (function_of f) seen.time t.state none)) in
    looks_write p (function_of f) (packet_of seen) seen.fields (block_of h.block) t start begin refl none c.in_default.ensures.writes

pub returns-clause-done : goal.returns-clause-done
returns-clause-done g c =
    let f = c.args.func.now in
    let t = c.args.tables.now in
    let seen = g.R.Reads.seen c.args.packet.now in
    let h = c.handler_of-handler.result.now in
    let start = c.new-context.result in
    let p : Input = record { decls = c.as_slice.result.now; ports = c.len.result; time = seen.time; fields = seen.fields; share = c.share.result; strict = false; choices = None } in
    let handler = rw (c.port.ensures, c.family.ensures) at c.handler_of-handler.ensures in
    let none = rw c.requires.of_func at c.requires.none_due in
    let begin = begins p f t.state (packet_of seen) seen.fields h t start c.as_slice.ensures.value c.len.ensures.value refl refl handler c.new-context.ensures (sym (state_stays (function_of f) seen.time t.state none)) in
    rw (c.action_of.ensures, c.new.ensures, c.edits.ensures)
    (looks_done p (function_of f) (packet_of seen) seen.fields (block_of h.block) t start c.exec_quietly.new.context c.in-Some.flow begin refl none c.in-Some.ensures.goes c.in-Some.ensures.told)
