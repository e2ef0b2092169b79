-- An IPv6 frame into which nothing is edited stays as it is.
use Rattle.std.proofs.Common.{◌≡◌, ℕ, List, [], ◌∷◌, ◌++◌, slice_index, ap, ◌∙◌}
use Rattle.nf_base.specs.declared.done.Edits.{Edits}
use Rattle.frame_ip.specs.Bytes.{number_at}
use Rattle.frame_ip.specs.Writes.{Write, put, put_all, mac_words, port_words, ports, IsUnedited}
use Rattle.frame_ip.specs.Checksum.{updated}
use Rattle.frame_ip.specs.SixEdit.{address_words, hop_words, addresses, is_udp, checksum_at, transport_checksum, writes, edited}
use Rattle.frame_ip.proofs.Ones.{AreBytes}
use Rattle.frame_ip.proofs.Unchanged.{put_same, updated_none, by_protocol}

pub transport_none : (e : Edits) (f : List ℕ) → AreBytes f → IsUnedited e → put (record { at = checksum_at f; word = transport_checksum e f }) f ≡ f
transport_none e f bytes none =
    let at = checksum_at f in
    let ws = addresses e ++ ports e 54 in
    let nothing : ws ≡ [] = λ k. (address_words 22 (none.src_ip6 k) ++ address_words 38 (none.dst_ip6 k)) ++ (port_words 54 (none.src_port k) ++ port_words 56 (none.dst_port k)) in
    put_same f at (transport_checksum e f) bytes (by_protocol (is_udp f) (number_at f at 2) (updated f at ws) (updated_none f at ws bytes nothing))

pub edited_none : (e : Edits) (f : List ℕ) → IsUnedited e → put (record { at = checksum_at f; word = transport_checksum e f }) f ≡ f → edited e f ≡ f
unfolding edited
edited_none e f none one =
    let c : Write = record { at = checksum_at f; word = transport_checksum e f } in
    let left : writes e f ≡ c ∷ [] = λ k. (mac_words 0 (none.dst_mac k) ++ mac_words 6 (none.src_mac k)) ++ (hop_words (slice_index f 20) (none.ttl k) ++ ((address_words 22 (none.src_ip6 k) ++ address_words 38 (none.dst_ip6 k)) ++ ((port_words 54 (none.src_port k) ++ port_words 56 (none.dst_port k)) ++ (c ∷ [])))) in
    ap (λ (ws : List Write). put_all ws f) left ∙ one
