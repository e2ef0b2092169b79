use Rattle.std.proofs.Common.{ℕ, ◌≡◌, ◌++◌, List, [], ◌∷◌, slice_index, subst, sym, ◌∙◌, arith}
use Rattle.nf_base.specs.declared.done.Edits.{Edits}
use Rattle.frame_ip.specs.Writes.{Write, put_all, mac_words, port_words, macs, ports}
use Rattle.frame_ip.specs.SixEdit.{address_words, hop_words, hops, addresses, checksum_at, edited}
use Rattle.frame_ip.specs.SixSums.{IsTransportRight}
use Rattle.frame_ip.proofs.InTurn.{six_in_turn}
use Rattle.frame_ip.proofs.SixUnedited.{edited_none}
use Rattle.frame_ip.proofs.SixWhole.{Known, transport_right_stays}
use Rattle.frame_ip.proofs.six_edits.edit.Goals as goal

-- the words that are written, by the offset of the checksum, and the checksum
abbrev words : Edits → List ℕ → ℕ → ℕ → List Write
words e f at checksum = macs e ++ (hops e f ++ (addresses e ++ (ports e 54 ++ (record { at = at; word = checksum } ∷ []))))

pub returns-clause-edited : goal.returns-clause-edited
unfolding edited
returns-clause-edited c =
    let e = c.args.edits.now in
    let f = c.args.frame.now in
    let base : c.put.new.frame ≡ put_all (words e f c.checksum_at-at.result c.transport_checksum-checksum.result) f =
    six_in_turn f c.put_mac.new.frame c.put_mac-2.new.frame c.put_hop.new.frame c.put_address.new.frame c.put_address-2.new.frame c.put_port.new.frame c.put_port-2.new.frame c.put.new.frame
    (mac_words 0 e.dst_mac) (mac_words 6 e.src_mac) (hop_words (slice_index f 20) e.ttl) (address_words 22 e.src_ip6) (address_words 38 e.dst_ip6) (port_words 54 e.src_port) (port_words 56 e.dst_port) _
    c.put_mac.ensures c.put_mac-2.ensures c.put_hop.ensures c.put_address.ensures c.put_address-2.ensures c.put_port.ensures c.put_port-2.ensures c.put.ensures in
    let with_place = subst (λ (n : ℕ). c.put.new.frame ≡ put_all (words e f n c.transport_checksum-checksum.result) f) c.checksum_at-at.ensures.value base in
    subst (λ (n : ℕ). c.put.new.frame ≡ put_all (words e f (checksum_at f) n) f) c.transport_checksum-checksum.ensures.value with_place

pub returns-clause-transport_stays_right : goal.returns-clause-transport_stays_right
returns-clause-transport_stays_right c =
    let e = c.args.edits.now in
    let f = c.args.frame.now in
    let at = c.checksum_at-at.ensures in
    let known : Known f = record { some_proto = at.some_proto; proto = at.proto; header = at.ports; checksum = omega (arith, at.within, at.value) } in
    subst (λ (g : List ℕ). IsTransportRight f → IsTransportRight g) (sym (returns-clause-edited c)) (λ was. transport_right_stays e f known (c.transport_checksum-checksum.ensures.right was.some) was)

pub returns-clause-transport_right : goal.returns-clause-transport_right
returns-clause-transport_right c = c.transport_checksum-checksum.ensures.right

pub returns-clause-unchanged : goal.returns-clause-unchanged
returns-clause-unchanged c = λ none. returns-clause-edited c ∙ edited_none c.args.edits.now c.args.frame.now none (c.transport_checksum-checksum.ensures.unchanged none)
