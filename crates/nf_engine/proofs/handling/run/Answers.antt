use Rattle.std.proofs.Common.{ap, refl}
use Rattle.nf_base.specs.declared.packet.Door.{Door}
use Rattle.nf_base.specs.Functions.{function_of}
use Rattle.nf_base.specs.View.{block_of}
use Rattle.vig_tables.specs.TablesState.{TablesState}
use Rattle.nf_engine.specs.declared.context.Context.{Context}
use Rattle.nf_engine.specs.Input.{Input, packet_of}
use Rattle.nf_engine.proofs.Finishing.{begins, runs_so}
use Rattle.nf_engine.proofs.Rooms.{fits_at, room_at}
use Rattle.nf_engine.proofs.handling.run.Goals as goal

pub handler_of-handler-requires : goal.handler_of-handler-requires
handler_of-handler-requires g c =
    let seen = g.R.Reads.seen c.args.packet.now in
    rw (c.port.ensures, c.family.ensures) (c.requires.served seen.fields refl)

pub exec-requires-clause-fits : goal.exec-requires-clause-fits
exec-requires-clause-fits g c =
    let door : Door = record { port = c.port.result; family = c.family.result } in
    rw c.as_slice.ensures.value (fits_at c.args.func.now door c.handler_of-handler.result.now c.handler_of-handler.ensures)

pub exec-requires-clause-room : goal.exec-requires-clause-room
exec-requires-clause-room g c =
    room_at c.handler_of-handler.result.now c.clear.new.self (ap (λ (d : Context). d.vars) c.clear.ensures) (ap (λ (d : Context). d.picks) c.clear.ensures)

pub returns-clause-runs : goal.returns-clause-runs
returns-clause-runs g c =
    let f = c.args.func.now in
    let s = c.args.tables.now.state in
    let seen = g.R.Reads.seen c.args.packet.now in
    let h = c.handler_of-handler.result.now in
    let t = c.expire.new.self in
    let start = c.clear.new.self in
    let p : Input = record { decls = c.as_slice.result.now; ports = c.len.result; time = seen.time; fields = seen.fields; share = c.share.result; strict = c.args.strict; choices = c.args.choices } in
    let chains = ap (λ (u : TablesState). u.state) (rw c.time.ensures at c.expire.ensures) in
    let handler = rw (c.port.ensures, c.family.ensures) at c.handler_of-handler.ensures in
    let begin = begins p f s (packet_of seen) seen.fields h t start c.as_slice.ensures.value c.len.ensures.value refl refl handler c.clear.ensures (rw c.requires.of_func at chains) in
    rw (← c.share.ensures) (runs_so p (function_of f) s (packet_of seen) seen.fields (block_of h.block) t c.exec.new.tables start c.exec.new.context c.exec.result begin c.exec.ensures.goes)
