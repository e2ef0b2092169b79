use Rattle.std.proofs.Common.{◌≡◌, ◌∙◌, ℕ, true, false, subst, sym, ap}
use Rattle.pcap_file.specs.Reading as records
use Rattle.pcapng_file.specs.Blocks.{is_section}
use Rattle.pcapng_file.specs.Reading as blocks
use Rattle.packet_feed.proofs.Holding.{begin_so, begins_records, begins_blocks, no_records, no_blocks}
use Rattle.packet_feed.proofs.captured.Captured.of.Goals as goal

pub returns-in-Ok-clause-heads : goal.returns-in-Ok-clause-heads
returns-in-Ok-clause-heads c = λ before now begun.
    let front = c.args.front in
    let is : is_section front.bytes ≡ true = sym (ap is_section c.as_slice.ensures) ∙ sym c.is_pcapng.ensures ∙ c.if-is_pcapng.true in
    let so = begin_so (before.rest front.file) (now.rest front.file) front.bytes begun.whole true begun.same_bytes begun.filled is in
    let ok = c.in-Ok.ensures in
    begins_blocks (before.rest front.file) _ so (subst (λ (f : ℕ). blocks.Begins (before.rest front.file) (blocks.left_of c.in-Ok.reader (now.rest f))) ok.ok.file_is (ok.heads before now begun))

pub returns-in-Err-clause-heads : goal.returns-in-Err-clause-heads
returns-in-Err-clause-heads c = λ before now begun.
    let front = c.args.front in
    let is : is_section front.bytes ≡ true = sym (ap is_section c.as_slice.ensures) ∙ sym c.is_pcapng.ensures ∙ c.if-is_pcapng.true in
    let so = begin_so (before.rest front.file) (now.rest front.file) front.bytes begun.whole true begun.same_bytes begun.filled is in
    no_blocks (before.rest front.file) (now.rest front.file) now c.in-Err.fault so (c.in-Err.ensures.heads before now begun)

pub returns-in-Err-of-clause-heads : goal.returns-in-Err-of-clause-heads
returns-in-Err-of-clause-heads c = λ before now begun.
    let front = c.args.front in
    let other : is_section front.bytes ≡ false = sym (ap is_section c.as_slice.ensures) ∙ sym c.is_pcapng.ensures ∙ c.if-is_pcapng.false in
    let so = begin_so (before.rest front.file) (now.rest front.file) front.bytes begun.whole false begun.same_bytes begun.filled other in
    no_records (before.rest front.file) (now.rest front.file) now c.in-Err-of.fault so (c.in-Err-of.ensures.heads before now begun)

pub returns-in-Ok-of-clause-heads : goal.returns-in-Ok-of-clause-heads
returns-in-Ok-of-clause-heads c = λ before now begun.
    let front = c.args.front in
    let other : is_section front.bytes ≡ false = sym (ap is_section c.as_slice.ensures) ∙ sym c.is_pcapng.ensures ∙ c.if-is_pcapng.false in
    let so = begin_so (before.rest front.file) (now.rest front.file) front.bytes begun.whole false begun.same_bytes begun.filled other in
    let ok = c.in-Ok-of.ensures in
    let r = c.in-Ok-of.reader in
    begins_records (before.rest front.file) _ so (subst (λ (f : ℕ). records.Begins (before.rest front.file) (records.left_in r.state r.form r.offset (now.rest f))) ok.ok.file_is (ok.heads before now begun))
