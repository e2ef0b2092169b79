use Rattle.std.proofs.Common.{◌≡◌, ◌∷◌, ◌++◌, [], refl, subst}
use Rattle.stream_run.specs.Runs.{Handled}
use Rattle.stream_run.specs.Writing.{AllGoOn, came_to}
use Rattle.sharded_run.proofs.writing.write_one.Goals as goal

pub returns-clause-goes_on : goal.returns-clause-goes_on
returns-clause-goes_on g c = λ mode workers card format hs held.
    let kept = c.args.kept.now in
    let put : Handled = came_to c.args.queue c.packet.result.now c.original.result c.frame.result.now c.args.done.now in
    let asked : Handled = record { arrival = kept; worker = c.args.queue; done = c.args.done.now } in
    let same : put ≡ asked = rw (c.packet.ensures.packet, c.original.ensures, c.frame.ensures.frame) refl in
    subst (λ (h : Handled). AllGoOn mode workers card format c.args.ports (hs ++ h ∷ []) (g.F.Files.told c.put_all.new.files) c.put_all.new.sinks c.put_all.result) same
    (c.put_all.ensures.goes_on mode workers card format hs held)
