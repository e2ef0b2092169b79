-- A capture that is written is read again, whatever follows it.
use Rattle.std.proofs.Common.{◌≡◌, ℕ, zero, suc, ◌+◌, ◌-◌, ◌%◌, ◌^◌, ◌<◌, ◌≤◌, Bool, true, false, ◌&&◌, cond, leb, ltb, eqb, List, [], ◌∷◌, ◌++◌, length, take, drop, Option, Some, None, refl, sym, ap, ◌∙◌, append_assoc, arith}
use Rattle.std.specs.List.{flat_map, AllByRecursion}
use Rattle.std.specs.Option.{option_map}
use Rattle.std.proofs.lemmas.Bool.{le-leb, lt-ltb}
use Rattle.std.proofs.lemmas.List.{drop_at, length-append}
use Rattle.pcap_file.specs.declared.form.Endian.{Endian}
use Rattle.pcap_file.specs.declared.form.Endian.TheVariants.{Little}
use Rattle.pcapng_file.specs.Heard.{Heard, Stream, behind}
use Rattle.pcapng_file.specs.Options.{resolution_within, resolution_in}
use Rattle.pcapng_file.specs.Blocks.{Section, Said, Begins, Describes, Gives, Whole, opened, is_header, header_in, block_order, is_closed, whole_of, block_by, block_in}
use Rattle.pcapng_file.specs.Captures.{stream_from, ng_stream_of}
use Rattle.pcapng_file.specs.Written.{ng_header_bytes, written_section, written_block, block_length, ng_capture_bytes}
use Rattle.pcapng_file.specs.Laws.{IsWritable, quiet_behind, WrittenCapturesAreRead}
use Rattle.pcapng_file.proofs.Again.{block_long, written_blocks_are_read}
use Rattle.pcapng_file.proofs.Streaming.{stream_steps}

-- ---- packets

abbrev quiet_at : ℕ → List Heard → ℕ
quiet_at quiet [] = quiet
quiet_at quiet (h ∷ hs) = 0

quiet_none : (hs : List Heard) → quiet_at 0 hs ≡ 0
quiet_none [] = refl
quiet_none (h ∷ hs) = refl

quiet_same : (hs : List Heard) → quiet_at 2 hs ≡ quiet_behind hs
quiet_same [] = refl
quiet_same (h ∷ hs) = refl

abbrev spelled : List Heard → List ℕ
spelled hs = flat_map written_block hs

-- one packet, whatever follows it
next_again : (quiet offset : ℕ) (h : Heard) (rest : List ℕ) → IsWritable h → offset + block_length (length h.frame) < 2 ^ 64
    → stream_from written_section quiet offset (written_block h ++ rest) ≡ behind (h ∷ []) (stream_from written_section 0 (offset + block_length (length h.frame)) rest)
next_again quiet offset h rest w lt =
    let heard : Heard = record { time = h.time; original = h.original; frame = h.frame; is_ethernet = true } in
    let same : heard ≡ h = ap (λ (b : Bool). record { time = h.time; original = h.original; frame = h.frame; is_ethernet = b }) (sym w.ethernet) in
    let block : Whole = record { size = block_length (length h.frame); said = Gives heard } in
    let step = stream_steps written_section quiet offset (written_block h ++ rest) block (written_blocks_are_read offset h.time h.original h.frame rest w.fits lt) (omega arith) in
    let after : drop (block_length (length h.frame)) (written_block h ++ rest) ≡ rest = drop_at (written_block h) rest (block_length (length h.frame)) (block_long h.time h.original h.frame) in
    step ∙ ap (λ (xs : List ℕ). behind (heard ∷ []) (stream_from written_section 0 (offset + block_length (length h.frame)) xs)) after
    ∙ ap (λ (x : Heard). behind (x ∷ []) (stream_from written_section 0 (offset + block_length (length h.frame)) rest)) same

-- all packets, whatever follows them
packets_again : (quiet offset : ℕ) (hs : List Heard) (rest : List ℕ) → AllByRecursion IsWritable hs → offset + length (spelled hs) < 2 ^ 64
    → stream_from written_section quiet offset (spelled hs ++ rest) ≡ behind hs (stream_from written_section (quiet_at quiet hs) (offset + length (spelled hs)) rest)
packets_again quiet offset [] rest fits lt = let same : offset ≡ offset + 0 = omega arith in ap (λ (o : ℕ). stream_from written_section quiet o rest) same
packets_again quiet offset (h ∷ hs) rest fits lt =
    let long = block_long h.time h.original h.frame in
    let parts : length (written_block h ++ spelled hs) ≡ length (written_block h) + length (spelled hs) = length-append (written_block h) (spelled hs) in
    let total : offset + block_length (length h.frame) + length (spelled hs) ≡ offset + length (written_block h ++ spelled hs) = omega arith in
    ap (stream_from written_section quiet offset) (append_assoc (written_block h) (spelled hs) rest)
    ∙ next_again quiet offset h (spelled hs ++ rest) fits.0 (omega arith)
    ∙ ap (behind (h ∷ [])) (packets_again 0 (offset + block_length (length h.frame)) hs rest fits.1 (omega arith))
    ∙ ap (λ (q : ℕ). behind (h ∷ hs) (stream_from written_section q (offset + block_length (length h.frame) + length (spelled hs)) rest)) (quiet_none hs)
    ∙ ap (λ (o : ℕ). behind (h ∷ hs) (stream_from written_section 0 o rest)) total

-- ---- the two headers

and_true : (b : Bool) → b ≡ true → (b && true) ≡ true
and_true b e = rw e refl

abbrev interface_bytes : List ℕ
interface_bytes = drop 28 ng_header_bytes

header_right : (left : List ℕ) → is_header Little (ng_header_bytes ++ left) ≡ true
unfolding ng_header_bytes
header_right left = and_true (leb 24 (length (ng_header_bytes ++ left))) (le-leb _ _ (omega arith))

section_block : (left : List ℕ) → block_in (opened Little) 0 (ng_header_bytes ++ left) ≡ Some (record { size = 28; said = Begins (opened Little) })
unfolding ng_header_bytes
section_block left =
    let whole = ng_header_bytes ++ left in
    let order : block_order Little whole ≡ Some Little = ap (λ (b : Bool). cond b (Some Little) None) (header_right left) in
    let closed : is_closed Little 0 whole ≡ true = and_true (leb 28 (length whole)) (le-leb _ _ (omega arith)) in
    ap (block_by (opened Little) 0 whole) order
    ∙ ap (λ (b : Bool). cond b (Some (record { size = 28; said = Begins (opened Little) })) None) closed

interface_block : (left : List ℕ) → block_in (opened Little) 28 (interface_bytes ++ left) ≡ Some (record { size = 32; said = Describes (record { link = 1; most = 262144; resolution = 9 }) })
unfolding ng_header_bytes resolution_within resolution_in
interface_block left =
    let whole = interface_bytes ++ left in
    let closed : is_closed Little 28 whole ≡ true = and_true (leb 32 (length whole)) (le-leb _ _ (omega arith)) in
    ap (λ (b : Bool). cond b (Some (record { size = 32; said = Describes (record { link = 1; most = 262144; resolution = 9 }) })) None) closed

headers_again : (left : List ℕ) → stream_from (opened Little) 0 0 (ng_header_bytes ++ left) ≡ stream_from written_section 2 60 left
unfolding ng_header_bytes
headers_again left =
    let one = stream_steps (opened Little) 0 0 (ng_header_bytes ++ left) (record { size = 28; said = Begins (opened Little) }) (section_block left) (omega arith) in
    let two = stream_steps (opened Little) 1 28 (interface_bytes ++ left) (record { size = 32; said = Describes (record { link = 1; most = 262144; resolution = 9 }) }) (interface_block left) (omega arith) in
    one ∙ two

pub written_captures_are_read : WrittenCapturesAreRead
unfolding ng_header_bytes
written_captures_are_read hs left fits lt =
    let bytes = ng_capture_bytes hs ++ left in
    let rest = spelled hs ++ left in
    let grouped : bytes ≡ ng_header_bytes ++ rest = append_assoc ng_header_bytes (spelled hs) left in
    let total : 60 + length (spelled hs) ≡ length (ng_capture_bytes hs) = sym (length-append ng_header_bytes (spelled hs)) in
    let quiet : quiet_at 2 hs ≡ quiet_behind hs = quiet_same hs in
    let header : header_in (ng_header_bytes ++ rest) ≡ Some Little = ap (λ (b : Bool). cond b (Some Little) None) (header_right rest) in
    ap ng_stream_of grouped
    ∙ ap (option_map (λ order. stream_from (opened order) 0 0 (ng_header_bytes ++ rest))) header
    ∙ ap Some (headers_again rest ∙ packets_again 2 60 hs left fits (omega (arith, total))
    ∙ ap (λ (n : ℕ). behind hs (stream_from written_section (quiet_at 2 hs) n left)) total
    ∙ ap (λ (q : ℕ). behind hs (stream_from written_section q (length (ng_capture_bytes hs)) left)) quiet)
