use Rattle.std.proofs.Common.{◌≡◌, ◌∙◌, ◌++◌, ℕ, List, ap, ap₂, take, append_assoc}
use Rattle.std.specs.Prelude.{replicate}
use Rattle.pcap_file.specs.declared.form.Endian.TheVariants.{Little}
use Rattle.pcap_file.specs.Form.{bytes_in}
use Rattle.pcapng_file.specs.Written.{padding, block_length}
use Rattle.pcapng_file.proofs.writing.put_trail.Goals as goal

pub returns-clause-put : goal.returns-clause-put
returns-clause-put c =
    let front = take c.args.at c.args.room.now in
    let none : ℕ = 0 in
    let zeros = replicate (padding c.args.captured) none in
    let total : c.number-total.result ≡ bytes_in Little (block_length c.args.captured) = c.number-total.ensures ∙ ap (bytes_in Little) c.block_length.ensures.value in
    c.put_bytes.ensures.put
    ∙ ap₂ (λ (s t : List ℕ). s ++ t) (c.put_bytes-middle.ensures.put ∙ ap (λ (t : List ℕ). front ++ t) c.zeros.ensures) total
    ∙ append_assoc front zeros (bytes_in Little (block_length c.args.captured))
