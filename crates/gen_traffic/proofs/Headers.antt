-- Frames: the sum of a header's words, its checksum, and the fields that are read.
use Rattle.std.proofs.Common.{◌≡◌, ℕ, ◌+◌, ◌-◌, ◌*◌, ◌/◌, ◌%◌, ◌^◌, ◌<◌, refl, sym, ap, ◌∙◌, arith}
use Rattle.std.specs.Prelude.{Option, Some}
use Rattle.nf_base.specs.declared.packet.Fields.{Fields}
use Rattle.nf_base.specs.declared.packet.Addresses.TheVariants as addresses
use Rattle.frame_ip.specs.Frame.{fields_in}
use Rattle.frame_ip.specs.Checksum.{halves, fold}
use Rattle.frame_ip.specs.Sums.{word_sum}
use Rattle.frame_ip.proofs.Folding.{twice}
use Rattle.gen_traffic.specs.declared.end.End.{End}
use Rattle.gen_traffic.specs.Ends.{Fits}
use Rattle.gen_traffic.specs.Frames.{ip_header, header_checksum, frame_between, fields_between}
use Rattle.gen_traffic.specs.Laws.{FramesAreWellMade}

abbrev words_of : ℕ → ℕ
words_of address = address / 65536 + address % 65536

-- the words of a header, summed up
header_words_sum : (checksum : ℕ) (from to : End) → checksum < 65536 → Fits from → Fits to
    → word_sum (ip_header checksum from to) ≡ 34093 + words_of from.address + words_of to.address + checksum
unfolding word_sum
header_words_sum checksum from to small h k = omega (arith, h.address, k.address)

pub header_sum : (from to : End) → Fits from → Fits to → word_sum (ip_header 0 from to) ≡ 34093 + words_of from.address + words_of to.address
header_sum from to h k = omega (arith, header_words_sum 0 from to (omega arith) h k)

pub checksum_is : (from to : End) (sum result : ℕ) → Fits from → Fits to → sum ≡ 34093 + words_of from.address + words_of to.address → result ≡ fold sum → 65535 - result ≡ header_checksum from to
checksum_is from to sum result h k e f = ap (λ (n : ℕ). 65535 - n) (f ∙ ap fold (e ∙ sym (header_sum from to h k)))

-- ---- right checksums

checksum_small : (from to : End) → header_checksum from to < 65536
checksum_small from to = omega arith

folds_right : (sum : ℕ) → 0 < sum → sum < 2 ^ 20 → fold (sum + (65535 - fold sum)) ≡ 65535
folds_right sum some small =
    let one : fold sum ≡ halves (halves sum) = twice sum (omega arith) in
    let all : fold (sum + (65535 - fold sum)) ≡ halves (halves (sum + (65535 - fold sum))) = twice (sum + (65535 - fold sum)) (omega arith) in
    omega (arith, one, all)

header_right : (from to : End) → Fits from → Fits to → fold (word_sum (ip_header (header_checksum from to) from to)) ≡ 65535
header_right from to h k =
    let sum : ℕ = word_sum (ip_header 0 from to) in
    let is = header_sum from to h k in
    let whole : word_sum (ip_header (header_checksum from to) from to) ≡ sum + (65535 - fold sum) = omega (arith, is, header_words_sum (header_checksum from to) from to (checksum_small from to) h k) in
    ap fold whole ∙ folds_right sum (omega (arith, is)) (omega (arith, is, h.address, k.address))

-- ---- fields

fields_are : (s d p q s' d' p' q' : ℕ) → s ≡ s' → d ≡ d' → p ≡ p' → q ≡ q'
    → (let fields : Option Fields = Some (record { length = 42; src_mac = 0x020000000001; dst_mac = 0x020000000002; addresses = addresses.Four s d; proto = 17; ttl = 64; src_port = p; dst_port = q }) in fields)
    ≡ Some (record { length = 42; src_mac = 0x020000000001; dst_mac = 0x020000000002; addresses = addresses.Four s' d'; proto = 17; ttl = 64; src_port = p'; dst_port = q' })
fields_are s d p q s' d' p' q' a b e f = rw (a, b, e, f) refl

address_read : (n : ℕ) → n < 2 ^ 32 → (((0 + n / 16777216 % 256) * 256 + n / 65536 % 256) * 256 + n / 256 % 256) * 256 + n % 256 ≡ n
address_read n small = omega arith

port_read : (n : ℕ) → n < 2 ^ 16 → (0 + n / 256 % 256) * 256 + n % 256 ≡ n
port_read n small = omega arith

fields_read : (from to : End) → Fits from → Fits to → fields_in (frame_between from to) 42 ≡ Some (fields_between from to)
fields_read from to h k =
    fields_are _ _ _ _ from.address to.address from.port to.port
    (address_read from.address h.address) (address_read to.address k.address) (port_read from.port h.port) (port_read to.port k.port)

pub well_made : FramesAreWellMade
well_made from to h k = record { long = refl; read = fields_read from to h k; right = header_right from to h k }
