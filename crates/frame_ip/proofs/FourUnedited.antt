-- An IPv4 frame into which nothing is edited stays as it is.
use Rattle.std.proofs.Common.{◌≡◌, ℕ, ◌+◌, List, [], ◌∷◌, ◌++◌, slice_index, ap, ◌∙◌}
use Rattle.nf_base.specs.declared.done.Edits.{Edits}
use Rattle.frame_ip.specs.Bytes.{number_at}
use Rattle.frame_ip.specs.FourFrame.{transport_at}
use Rattle.frame_ip.specs.Writes.{Write, put, put_all, mac_words, port_words, ports, IsUnedited}
use Rattle.frame_ip.specs.Checksum.{updated}
use Rattle.frame_ip.specs.FourEdit.{address_words, ttl_words, ttl, addresses, is_udp, checksum_at, ip_checksum, transport_checksum, writes, edited}
use Rattle.frame_ip.proofs.Ones.{AreBytes}
use Rattle.frame_ip.proofs.Unchanged.{put_same, updated_none, by_protocol}

pub ip_none : (e : Edits) (f : List ℕ) → AreBytes f → IsUnedited e → put (record { at = 24; word = ip_checksum e f }) f ≡ f
ip_none e f bytes none =
    let nothing : ttl e f ++ addresses e ≡ [] = λ k. ttl_words (slice_index f 23) (none.ttl k) ++ (address_words 26 (none.src_ip k) ++ address_words 30 (none.dst_ip k)) in
    put_same f 24 (ip_checksum e f) bytes (updated_none f 24 (ttl e f ++ addresses e) bytes nothing)

pub transport_none : (e : Edits) (f : List ℕ) → AreBytes f → IsUnedited e → put (record { at = checksum_at f; word = transport_checksum e f }) f ≡ f
transport_none e f bytes none =
    let at = checksum_at f in
    let s = transport_at f in
    let ws = addresses e ++ ports e s in
    let nothing : ws ≡ [] = λ k. (address_words 26 (none.src_ip k) ++ address_words 30 (none.dst_ip k)) ++ (port_words s (none.src_port k) ++ port_words (s + 2) (none.dst_port k)) in
    put_same f at (transport_checksum e f) bytes (by_protocol (is_udp f) (number_at f at 2) (updated f at ws) (updated_none f at ws bytes nothing))

pub edited_none : (e : Edits) (f : List ℕ) → IsUnedited e → put (record { at = 24; word = ip_checksum e f }) f ≡ f → put (record { at = checksum_at f; word = transport_checksum e f }) f ≡ f → edited e f ≡ f
unfolding edited
edited_none e f none one two =
    let s = transport_at f in
    let i : Write = record { at = 24; word = ip_checksum e f } in
    let c : Write = record { at = checksum_at f; word = transport_checksum e f } in
    let left : writes e f ≡ i ∷ c ∷ [] = λ k. (mac_words 0 (none.dst_mac k) ++ mac_words 6 (none.src_mac k)) ++ (ttl_words (slice_index f 23) (none.ttl k) ++ (i ∷ ((address_words 26 (none.src_ip k) ++ address_words 30 (none.dst_ip k)) ++ ((port_words s (none.src_port k) ++ port_words (s + 2) (none.dst_port k)) ++ (c ∷ []))))) in
    ap (λ (ws : List Write). put_all ws f) left ∙ ap (put c) one ∙ two
