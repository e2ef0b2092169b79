use Rattle.std.proofs.Common.{◌≡◌, ◌∙◌, ◌-◌, ℕ, Some, None, drop, slice_get, sym, ap, arith}
use Rattle.std.specs.Option.{option_map}
use Rattle.pcapng_file.specs.Blocks.{Section, Gives}
use Rattle.pcapng_file.proofs.Fronts.{front_rest}
use Rattle.pcapng_file.proofs.Packets.{simple_short, simple_at, simple_given}
use Rattle.pcapng_file.proofs.packet.simple.Goals as goal

pub returns-then-size-lt4-clause-value : goal.returns-then-size-lt4-clause-value
returns-then-size-lt4-clause-value c = λ all front. simple_short (record { order = c.args.order; interfaces = c.args.interfaces.now }) all (omega (arith, front.long, c.if-size-lt4.true))

pub returns-in-None-clause-value : goal.returns-in-None-clause-value
returns-in-None-clause-value c = λ all front.
    simple_at (record { order = c.args.order; interfaces = c.args.interfaces.now }) all None (omega (arith, front.long, c.if-size-lt4.false)) (sym c.interface_at.ensures ∙ c.in-None.is)

pub returns-in-Some-clause-value : goal.returns-in-Some-clause-value
returns-in-Some-clause-value c = λ all front.
    let s : Section = record { order = c.args.order; interfaces = c.args.interfaces.now } in
    let body = c.args.body.now in
    simple_given s c.in-Some.interface c.number-original.result c.bounded-captured.result c.args.size body all (option_map (λ x. Gives x) c.captured_of.result)
    front (omega (arith, c.requires.held, c.if-size-lt4.false)) c.if-size-lt4.false
    (sym c.interface_at.ensures ∙ c.in-Some.is) c.number-original.ensures c.bounded-captured.ensures
    (c.captured_of.ensures.value 262160 (drop 4 all) (omega arith) (front_rest 4 262160 c.args.size body all front))
