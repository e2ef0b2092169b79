use Rattle.std.proofs.Common.{ℕ, ◌∙◌, ap, sym, arith}
use Rattle.frame_ip.specs.Bytes.{number_at}
use Rattle.frame_ip.specs.Checksum.{udp_checksum}
use Rattle.frame_ip.proofs.SixKeeping.{transport_keeps, with_udp, with_tcp}
use Rattle.frame_ip.proofs.SixUnedited.{transport_none}
use Rattle.frame_ip.proofs.six_edits.transport_checksum.Goals as goal

pub returns-then-frame-eq-UDP-clause-value : goal.returns-then-frame-eq-UDP-clause-value
returns-then-frame-eq-UDP-clause-value c =
    c.udp_checksum.ensures
    ∙ ap (λ (o : ℕ). udp_checksum o c.recomputed-new.result) (c.u16_at.ensures ∙ ap (λ (at : ℕ). number_at c.args.frame.now at 2) c.checksum_at-at.ensures.value)
    ∙ ap (udp_checksum _) c.recomputed-new.ensures
    ∙ sym (with_udp c.args.edits.now c.args.frame.now c.if-frame-eq-UDP.true)

pub returns-else-frame-eq-UDP-clause-value : goal.returns-else-frame-eq-UDP-clause-value
returns-else-frame-eq-UDP-clause-value c = c.recomputed-new.ensures ∙ sym (with_tcp c.args.edits.now c.args.frame.now c.if-frame-eq-UDP.false)

pub returns-then-frame-eq-UDP-clause-right : goal.returns-then-frame-eq-UDP-clause-right
returns-then-frame-eq-UDP-clause-right c = transport_keeps c.args.edits.now c.args.frame.now (λ i. omega (arith, c.type_inv.frame i))

pub returns-else-frame-eq-UDP-clause-right : goal.returns-else-frame-eq-UDP-clause-right
returns-else-frame-eq-UDP-clause-right c = transport_keeps c.args.edits.now c.args.frame.now (λ i. omega (arith, c.type_inv.frame i))

pub returns-then-frame-eq-UDP-clause-unchanged : goal.returns-then-frame-eq-UDP-clause-unchanged
returns-then-frame-eq-UDP-clause-unchanged c = transport_none c.args.edits.now c.args.frame.now (λ i. omega (arith, c.type_inv.frame i))

pub returns-else-frame-eq-UDP-clause-unchanged : goal.returns-else-frame-eq-UDP-clause-unchanged
returns-else-frame-eq-UDP-clause-unchanged c = transport_none c.args.edits.now c.args.frame.now (λ i. omega (arith, c.type_inv.frame i))
