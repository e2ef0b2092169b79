use Rattle.pcapng_file.proofs.Packets.{heard_given}
use Rattle.pcapng_file.proofs.packet.captured_of.Goals as goal

pub returns-clause-value : goal.returns-clause-value
returns-clause-value c = λ most all big front.
    heard_given c.args.interface c.args.time c.args.original c.args.captured most c.args.count c.args.tail.now all big front c.if-captured-gt-MOST_CAPTURED.false c.if-captured-count.false
