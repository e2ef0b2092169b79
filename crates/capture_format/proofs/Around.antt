-- What stands around a frame in a packet.
use Rattle.std.proofs.Common.{◌≡◌, ℕ, ◌+◌, ◌/◌, ◌%◌, List, [], ◌++◌, length, replicate, refl, sym, ap, subst, append-nil, length-append, arith}
use Rattle.std.proofs.lemmas.List.{length-replicate}
use Rattle.pcap_file.specs.declared.form.Endian.TheVariants.{Little}
use Rattle.pcap_file.specs.Form.{bytes_in}
use Rattle.pcap_file.specs.Record.{record_at}
use Rattle.pcap_file.specs.Spelled.{written_bytes}
use Rattle.pcapng_file.specs.Written.{ng_header_bytes, padding, block_length, block_lead, block_trail, block_bytes}
use Rattle.capture_format.specs.declared.format.CaptureFormat.TheVariants.{Pcap, Pcapng}
use Rattle.capture_format.specs.Laws.{HeadsAreLong, PacketsHoldTheirFrames}

pub heads_long : HeadsAreLong
unfolding ng_header_bytes
heads_long Pcap = refl
heads_long Pcapng = refl

-- the four numbers of a record
abbrev numbers : ℕ → ℕ → ℕ → List ℕ
numbers time original captured =
    bytes_in Little (time / 1000000000) ++ (bytes_in Little (time % 1000000000) ++ (bytes_in Little captured ++ bytes_in Little original))

record_parts : (time original captured : ℕ) (frame : List ℕ) → length frame ≡ captured → written_bytes (record_at time original frame) ≡ numbers time original captured ++ (frame ++ [])
record_parts time original captured frame e =
    subst (λ (n : ℕ). written_bytes (record_at time original frame) ≡ numbers time original n ++ (frame ++ [])) e
    (ap (λ (xs : List ℕ). numbers time original (length frame) ++ xs) (sym (append-nil frame)))

block_parts : (time original captured : ℕ) (frame : List ℕ) → length frame ≡ captured → block_bytes time original frame ≡ block_lead time original captured ++ (frame ++ block_trail captured)
block_parts time original captured frame e =
    subst (λ (n : ℕ). block_bytes time original frame ≡ block_lead time original n ++ (frame ++ block_trail n)) e refl

trail_long : (captured : ℕ) → length (block_trail captured) ≡ padding captured + 4
trail_long captured = omega (
  arith,
  length-append (replicate (padding captured) 0) (bytes_in Little (block_length captured)),
  length-replicate {A = ℕ} (padding captured) 0,
)

pub around : PacketsHoldTheirFrames
around Pcap time original captured = record {
  front = numbers time original captured;
  back = [];
  parts = record_parts time original captured;
  front_long = refl;
  all_long = omega arith;
}
around Pcapng time original captured = record {
  front = block_lead time original captured;
  back = block_trail captured;
  parts = block_parts time original captured;
  front_long = refl;
  all_long = omega (arith, trail_long captured);
}
