use Rattle.std.proofs.Common.{ℕ, ◌≡◌, ◌∙◌, List, [], drop, Option, refl, subst, sym, ap}
use Rattle.std.specs.Option.{option_map}
use Rattle.pcap_file.specs.Form.{form_of}
use Rattle.pcap_file.specs.Capture.{capture_from}
use Rattle.pcap_file.specs.Reading.{Begins}
use Rattle.pcap_file.proofs.Heading.{no_header, a_header}
use Rattle.pcap_file.proofs.Growing.{none_left, none_held_after}
use Rattle.pcap_file.proofs.reader.Reader.of.Goals as goal

pub returns-in-None-clause-heads : goal.returns-in-None-clause-heads
returns-in-None-clause-heads c = λ before now begun.
    let rest = before.rest c.args.front.file in
    no_header rest (now.rest c.args.front.file) c.args.front.bytes begun.whole now
    (begun.same_bytes ∙ sym (none_held_after [] rest refl)) begun.filled (c.in-None.ensures ∙ ap form_of c.as_slice.ensures)

pub returns-in-Some-clause-heads : goal.returns-in-Some-clause-heads
returns-in-Some-clause-heads c = λ before now begun.
    let rest = before.rest c.args.front.file in
    let left = now.rest c.args.front.file in
    let held = c.args.front.bytes in
    let base = a_header rest left held begun.whole c.in-Some.form (begun.same_bytes ∙ sym (none_held_after [] rest refl)) begun.filled (c.in-Some.ensures ∙ ap form_of c.as_slice.ensures) in
    let none : drop 24 held ≡ [] = none_left 24 held begun.most in
    subst (λ (o : Option (List ℕ)). Begins rest (option_map (capture_from c.in-Some.form 24) o)) (none_held_after (drop 24 held) left none) base
