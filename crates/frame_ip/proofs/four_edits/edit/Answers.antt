use Rattle.std.proofs.Common.{ℕ, ◌≡◌, ◌+◌, ◌++◌, List, [], ◌∷◌, slice_index, subst, sym, ◌∙◌, arith}
use Rattle.nf_base.specs.declared.done.Edits.{Edits}
use Rattle.frame_ip.specs.FourFrame.{transport_at}
use Rattle.frame_ip.specs.Writes.{Write, put_all, mac_words, port_words, macs}
use Rattle.frame_ip.specs.FourEdit.{address_words, ttl_words, ttl, addresses, ip_checksum, checksum_at, edited}
use Rattle.frame_ip.specs.FourSums.{IsIpRight, IsTransportRight}
use Rattle.frame_ip.proofs.InTurn.{four_in_turn}
use Rattle.frame_ip.proofs.FourUnedited.{edited_none}
use Rattle.frame_ip.proofs.FourWhole.{Known, ip_right_stays, transport_right_stays}
use Rattle.frame_ip.proofs.four_edits.edit.Goals as goal

-- the words that are written, by the offset of the ports and of the checksum, and the two checksums
abbrev words : Edits → List ℕ → ℕ → ℕ → ℕ → ℕ → List Write
words e f ports at ip checksum = macs e ++ (ttl e f ++ (record { at = 24; word = ip } ∷ (addresses e ++ ((port_words ports e.src_port ++ port_words (ports + 2) e.dst_port) ++ (record { at = at; word = checksum } ∷ [])))))

pub returns-clause-edited : goal.returns-clause-edited
unfolding edited
returns-clause-edited c =
    let e = c.args.edits.now in
    let f = c.args.frame.now in
    let base : c.put-2.new.frame ≡ put_all (words e f c.transport-ports.result c.checksum_at-at.result c.ip_checksum-ip.result c.transport_checksum-checksum.result) f =
    four_in_turn f c.put_mac.new.frame c.put_mac-2.new.frame c.put_ttl.new.frame c.put.new.frame c.put_address.new.frame c.put_address-2.new.frame c.put_port.new.frame c.put_port-2.new.frame c.put-2.new.frame
    (mac_words 0 e.dst_mac) (mac_words 6 e.src_mac) (ttl_words (slice_index f 23) e.ttl) (address_words 26 e.src_ip) (address_words 30 e.dst_ip) (port_words c.transport-ports.result e.src_port) (port_words (c.transport-ports.result + 2) e.dst_port) _ _
    c.put_mac.ensures c.put_mac-2.ensures c.put_ttl.ensures c.put.ensures c.put_address.ensures c.put_address-2.ensures c.put_port.ensures c.put_port-2.ensures c.put-2.ensures in
    let with_ports = subst (λ (n : ℕ). c.put-2.new.frame ≡ put_all (words e f n c.checksum_at-at.result c.ip_checksum-ip.result c.transport_checksum-checksum.result) f) c.transport-ports.ensures base in
    let with_place = subst (λ (n : ℕ). c.put-2.new.frame ≡ put_all (words e f (transport_at f) n c.ip_checksum-ip.result c.transport_checksum-checksum.result) f) c.checksum_at-at.ensures.value with_ports in
    let with_ip = subst (λ (n : ℕ). c.put-2.new.frame ≡ put_all (words e f (transport_at f) (checksum_at f) n c.transport_checksum-checksum.result) f) c.ip_checksum-ip.ensures.value with_place in
    subst (λ (n : ℕ). c.put-2.new.frame ≡ put_all (words e f (transport_at f) (checksum_at f) (ip_checksum e f) n) f) c.transport_checksum-checksum.ensures.value with_ip

pub returns-clause-ip_right : goal.returns-clause-ip_right
returns-clause-ip_right c = c.ip_checksum-ip.ensures.right

pub returns-clause-transport_right : goal.returns-clause-transport_right
returns-clause-transport_right c = c.transport_checksum-checksum.ensures.right

pub returns-clause-ip_stays_right : goal.returns-clause-ip_stays_right
returns-clause-ip_stays_right c =
    let e = c.args.edits.now in
    let f = c.args.frame.now in
    let at = c.checksum_at-at.ensures in
    let known : Known f = record { words = at.words; version = at.version; some_proto = at.some_proto; proto = at.proto; header = at.ports; checksum = omega (arith, at.within, at.value) } in
    subst (λ (g : List ℕ). IsIpRight f → IsIpRight g) (sym (returns-clause-edited c)) (ip_right_stays e f known c.ip_checksum-ip.ensures.right)

pub returns-clause-transport_stays_right : goal.returns-clause-transport_stays_right
returns-clause-transport_stays_right c =
    let e = c.args.edits.now in
    let f = c.args.frame.now in
    let at = c.checksum_at-at.ensures in
    let known : Known f = record { words = at.words; version = at.version; some_proto = at.some_proto; proto = at.proto; header = at.ports; checksum = omega (arith, at.within, at.value) } in
    subst (λ (g : List ℕ). IsTransportRight f → IsTransportRight g) (sym (returns-clause-edited c)) (λ was. transport_right_stays e f known (c.transport_checksum-checksum.ensures.right was.some) was)

pub returns-clause-unchanged : goal.returns-clause-unchanged
returns-clause-unchanged c = λ none. returns-clause-edited c ∙ edited_none c.args.edits.now c.args.frame.now none (c.ip_checksum-ip.ensures.unchanged none) (c.transport_checksum-checksum.ensures.unchanged none)
