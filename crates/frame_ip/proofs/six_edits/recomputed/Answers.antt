use Rattle.std.proofs.Common.{ℕ, ◌≡◌, ◌+◌, ◌-◌, ◌++◌, ◌∙◌, ap}
use Rattle.frame_ip.specs.Bytes.{number_at}
use Rattle.frame_ip.specs.Writes.{port_words, ports}
use Rattle.frame_ip.specs.Checksum.{changes, fold}
use Rattle.frame_ip.specs.SixEdit.{address_words, addresses}
use Rattle.frame_ip.proofs.Writing.{four_changes}
use Rattle.frame_ip.proofs.six_edits.recomputed.Goals as goal

pub returns : goal.returns
returns c =
    let e = c.args.edits.now in
    let f = c.args.frame.now in
    let sum : (c.address_change.result + c.address_change-2.result) + (c.port_change.result + c.port_change-2.result) ≡ changes f (addresses e ++ ports e 54) =
    four_changes f (address_words 22 e.src_ip6) (address_words 38 e.dst_ip6) (port_words 54 e.src_port) (port_words 56 e.dst_port) c.address_change.result c.address_change-2.result c.port_change.result c.port_change-2.result
    c.address_change.ensures.value c.address_change-2.ensures.value c.port_change.ensures.value c.port_change-2.ensures.value in
    c.updated.ensures
    ∙ ap (λ (o : ℕ). 65535 - fold ((65535 - o) + ((c.address_change.result + c.address_change-2.result) + (c.port_change.result + c.port_change-2.result)))) c.u16_at.ensures
    ∙ ap (λ (n : ℕ). 65535 - fold ((65535 - number_at f c.checksum_at-at.result 2) + n)) sum
    ∙ ap (λ (at : ℕ). 65535 - fold ((65535 - number_at f at 2) + changes f (addresses e ++ ports e 54))) c.checksum_at-at.ensures.value
