use Rattle.stream_run.specs.Texts.{piece, sent_in, told_in}
use Rattle.stream_run.proofs.Grown.{grown_on, pieces_both}
use Rattle.stream_run.proofs.sinks.hold_parts.Goals as goal

pub returns-in-Ok-clause-ok : goal.returns-in-Ok-clause-ok
returns-in-Ok-clause-ok c =
    let ports = c.args.ports in
    let h = c.args.handled.now in
    grown_on c.hold_line.result (sent_in ports h) (told_in ports h) (λ k format. piece format ports k h) c.args.sinks.now c.hold_sent.new.sinks c.hold_line.new.sinks (pieces_both ports h) c.in-Ok.ensures.ok c.hold_line.ensures.ok
