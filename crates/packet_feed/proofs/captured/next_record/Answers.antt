use Rattle.std.proofs.Common.{ℕ, Ok, subst, sym}
use Rattle.pcap_file.specs.Reading as pcap
use Rattle.pcapng_file.specs.declared.reader.Next.{Next}
use Rattle.packet_feed.specs.Captures.{Steps, TakesRecord, records_left}
use Rattle.packet_feed.proofs.Reading.{steps_pcap, steps_err, takes_pcap, takes_err}
use Rattle.packet_feed.proofs.captured.next_record.Goals as goal

pub returns-in_err-next-clause-steps : goal.returns-in_err-next-clause-steps
returns-in_err-next-clause-steps g c = steps_err _ _ c.next.new.frame.items c.from_residual.result c.from_residual.ensures.0

pub returns-in_err-next-clause-takes : goal.returns-in_err-next-clause-takes
returns-in_err-next-clause-takes g c = takes_err _ _ c.next.new.frame.items c.from_residual.result c.from_residual.ensures.0

pub returns-clause-steps : goal.returns-clause-steps
returns-clause-steps g c =
    let told = g.F.Files.told in
    let old = c.args.reader.now in
    let new = c.next.new.self in
    let ok = c.in_ok-next.ensures in
    let before = (told c.args.files.now).rest old.file in
    let now = told c.next.new.files in
    let here = subst (λ (f : ℕ). pcap.Steps (pcap.left_in old.state old.form old.offset before) (pcap.left_in new.state new.form new.offset (now.rest f)) c.next.new.frame.items (Ok c.in_ok-next.next)) ok.same_file ok.steps in
    subst (λ (x : Next). Steps (records_left old before) (records_left new (now.rest old.file)) c.next.new.frame.items (Ok x)) (sym c.next_of.ensures)
    (steps_pcap _ _ c.next.new.frame.items c.in_ok-next.next here)

pub returns-clause-takes : goal.returns-clause-takes
returns-clause-takes g c =
    let told = g.F.Files.told in
    let file = c.args.reader.now.file in
    subst (λ (x : Next). TakesRecord ((told c.args.files.now).rest file) ((told c.next.new.files).rest file) c.next.new.frame.items (Ok x)) (sym c.next_of.ensures)
    (takes_pcap _ _ c.next.new.frame.items c.in_ok-next.next c.in_ok-next.ensures.takes)
