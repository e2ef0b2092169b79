use Rattle.std.proofs.Common.{◌≡◌, ◌+◌, ◌*◌, ◌∙◌, ◌-◌, ℕ, Some, None, drop, slice_get, sym, ap, arith}
use Rattle.std.specs.Option.{option_map}
use Rattle.pcapng_file.specs.Options.{time_in, units_of}
use Rattle.pcap_file.specs.Form.{number_in}
use Rattle.pcapng_file.specs.Blocks.{Section, Gives}
use Rattle.pcapng_file.proofs.Fronts.{front_rest, front_long, number_from}
use Rattle.pcapng_file.proofs.Packets.{enhanced_short, enhanced_none, enhanced_given}
use Rattle.pcapng_file.proofs.packet.enhanced.Goals as goal

pub returns-then-size-lt20-clause-value : goal.returns-then-size-lt20-clause-value
returns-then-size-lt20-clause-value c = λ all front. enhanced_short (record { order = c.args.order; interfaces = c.args.interfaces.now }) all (omega (arith, front.long, c.if-size-lt20.true))

pub returns-in-None-clause-value : goal.returns-in-None-clause-value
returns-in-None-clause-value c = λ all front.
    let s : Section = record { order = c.args.order; interfaces = c.args.interfaces.now } in
    enhanced_none s c.args.size c.args.body.now all front (omega (arith, c.requires.held))
    (ap (slice_get c.args.interfaces.now) (sym c.number.ensures) ∙ sym c.interface_at.ensures ∙ c.in-None.is)

pub returns-in-Some-clause-value : goal.returns-in-Some-clause-value
returns-in-Some-clause-value c = λ all front.
    let s : Section = record { order = c.args.order; interfaces = c.args.interfaces.now } in
    let body = c.args.body.now in
    let order = c.args.order in
    let high = c.from-high.ensures ∙ number_from order 4 c.number-in-Some.result body c.number-in-Some.ensures in
    let low = c.from.ensures ∙ number_from order 8 c.number-in-Some-2.result body c.number-in-Some-2.ensures in
    let timed = c.nanoseconds-time.ensures.value ∙ ap (λ (n : ℕ). time_in (units_of c.in-Some.interface.resolution) (n * 4294967296 + c.from.result)) high
    ∙ ap (λ (n : ℕ). time_in (units_of c.in-Some.interface.resolution) (number_in order (drop 4 body) * 4294967296 + n)) low in
    enhanced_given s c.in-Some.interface c.nanoseconds-time.result c.number-original.result c.number-captured.result c.args.size body all (option_map (λ x. Gives x) c.captured_of.result)
    front (omega (arith, c.requires.held)) c.if-size-lt20.false
    (ap (slice_get c.args.interfaces.now) (sym c.number.ensures) ∙ sym c.interface_at.ensures ∙ c.in-Some.is)
    timed (number_from order 12 c.number-captured.result body c.number-captured.ensures) (number_from order 16 c.number-original.result body c.number-original.ensures)
    (c.captured_of.ensures.value 262144 (drop 20 all) (omega arith) (front_rest 20 262144 c.args.size body all front))
