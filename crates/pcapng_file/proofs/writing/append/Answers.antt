use Rattle.std.proofs.Common.{◌≡◌, ◌∙◌, ◌++◌, ℕ, List, ap, ap₂, length, append_assoc}
use Rattle.std.specs.Prelude.{replicate}
use Rattle.pcap_file.specs.declared.form.Endian.TheVariants.{Little}
use Rattle.pcap_file.specs.Form.{bytes_in}
use Rattle.pcapng_file.specs.Written.{padding, block_length, block_lead}
use Rattle.pcapng_file.proofs.writing.append.Goals as goal

both : (xs ys : List ℕ) (a b : List ℕ) → xs ≡ ys → a ≡ b → xs ++ a ≡ ys ++ b
both xs ys a b e f = ap₂ (λ (s t : List ℕ). s ++ t) e f

parts : (old lead frame zeros total : List ℕ) → (((old ++ lead) ++ frame) ++ zeros) ++ total ≡ old ++ (lead ++ (frame ++ (zeros ++ total)))
parts old lead frame zeros total = simp append_assoc

pub returns-clause-ok : goal.returns-clause-ok
returns-clause-ok c =
    let old = c.args.out.now.items in
    let frame = c.args.frame.now in
    let n = length frame in
    let none : ℕ = 0 in
    let lead = block_lead c.args.time c.args.original n in
    let zeros = replicate (padding n) none in
    let four = bytes_in Little (block_length n) in
    let total : c.number-total.result ≡ four = c.number-total.ensures ∙ ap (bytes_in Little) c.block_length.ensures.value in
    let one : c.extend_from_slice.new.self.items ≡ old ++ lead = c.in_ok-extend_from_slice.ensures.items ∙ ap (λ (t : List ℕ). old ++ t) c.lead-lead.ensures in
    let two : c.extend_from_slice-2.new.self.items ≡ (old ++ lead) ++ frame = c.in_ok-extend_from_slice-2.ensures.items ∙ ap (λ (t : List ℕ). t ++ frame) one in
    let three : c.extend_from_slice-3.new.self.items ≡ ((old ++ lead) ++ frame) ++ zeros = c.in_ok-extend_from_slice-3.ensures.items ∙ both c.extend_from_slice-2.new.self.items ((old ++ lead) ++ frame) c.zeros.result.now zeros two c.zeros.ensures in
    c.in_ok-extend_from_slice-4.ensures.items ∙ both c.extend_from_slice-3.new.self.items (((old ++ lead) ++ frame) ++ zeros) c.number-total.result four three total
    ∙ parts old lead frame zeros four
