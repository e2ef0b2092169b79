use Rattle.std.proofs.Common.{◌≡◌, ◌∙◌, ℕ, List, Option, Some, true, length, sym, ap, subst, arith}
use Rattle.std.specs.Option.{option_map}
use Rattle.pcap_file.specs.Held.{to_come}
use Rattle.pcapng_file.specs.Blocks.{is_section, header_in}
use Rattle.pcapng_file.specs.Places.{Place}
use Rattle.pcapng_file.specs.Reading.{Begins}
use Rattle.pcapng_file.proofs.Heading.{begins_so}
use Rattle.pcapng_file.proofs.Stepping.{stream_at}
use Rattle.pcapng_file.proofs.reader.NgReader.of.Goals as goal

pub returns-in-Some-clause-heads : goal.returns-in-Some-clause-heads
returns-in-Some-clause-heads c = λ before now begun.
    let held = c.args.front.bytes in
    let begins : is_section held ≡ true = ap is_section (sym c.as_slice-held.ensures) ∙ sym c.is_pcapng.ensures ∙ c.if-not-is_pcapng.false in
    let order : header_in held ≡ Some c.in-Some.order = ap header_in (sym c.as_slice-held.ensures) ∙ sym c.header_in.ensures ∙ c.in-Some.is in
    subst (λ (p : Place). Begins (before.rest c.args.front.file) (option_map (stream_at p) (to_come held (now.rest c.args.front.file)))) (sym c.new.ensures)
    (begins_so held (before.rest c.args.front.file) (now.rest c.args.front.file) c.in-Some.order begun.same_bytes begins order (omega (arith, ap length c.as_slice-held.ensures, c.if-held-ne-HEADER.false)))
