use Rattle.std.proofs.Common.{◌⊎◌, inl, inr, arith}
use Rattle.pcapng_file.proofs.Packets.{described_none, described_given}
use Rattle.pcapng_file.proofs.packet.described.Goals as goal

pub returns-then-size-lt8 : goal.returns-then-size-lt8
returns-then-size-lt8 c = λ all front. described_none (record { order = c.args.order; interfaces = c.args.interfaces.now }) all (inl (omega (arith, front.long, c.if-size-lt8.true)))

pub returns-then-size-gt-MOST_DESCRIBED : goal.returns-then-size-gt-MOST_DESCRIBED
returns-then-size-gt-MOST_DESCRIBED c = λ all front. described_none (record { order = c.args.order; interfaces = c.args.interfaces.now }) all (inr (inl (omega (arith, front.long, c.if-size-gt-MOST_DESCRIBED.true))))

pub returns-then-interfaces-ge-MOST_INTERFACES : goal.returns-then-interfaces-ge-MOST_INTERFACES
returns-then-interfaces-ge-MOST_INTERFACES c = λ all front. described_none (record { order = c.args.order; interfaces = c.args.interfaces.now }) all (inr (inr c.if-interfaces-ge-MOST_INTERFACES.true))

pub returns : goal.returns
returns c = λ all front.
    described_given (record { order = c.args.order; interfaces = c.args.interfaces.now }) c.interface_in.result c.args.size c.args.body.now all front
    c.if-size-lt8.false c.if-size-gt-MOST_DESCRIBED.false c.if-interfaces-ge-MOST_INTERFACES.false c.interface_in.ensures
