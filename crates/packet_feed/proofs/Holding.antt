-- What captures hold, by their first bytes.
use Rattle.std.proofs.Common.{◌≡◌, ℕ, Bool, true, false, cond, eqb, List, ◌++◌, Option, Some, None, Err, sym, ap, ◌∙◌, append-nil, arith}
use Rattle.std.specs.Option.{option_map}
use Rattle.nf_files.specs.Told.{Told}
use Rattle.pcap_file.specs.declared.form.Endian.TheVariants.{Big}
use Rattle.pcap_file.specs.declared.fault.CapFault.{CapFault}
use Rattle.pcap_file.specs.declared.fault.CapFault.TheVariants.{NotCapture, File, Memory}
use Rattle.pcap_file.specs.Capture.{Capture, capture_of}
use Rattle.pcap_file.specs.Held.{to_come, Filled}
use Rattle.pcap_file.specs.Reading as records
use Rattle.pcap_file.proofs.Reaching.{number_front}
use Rattle.pcapng_file.specs.Heard.{Stream as Contents, stream_of}
use Rattle.pcapng_file.specs.Blocks.{is_section}
use Rattle.pcapng_file.specs.Captures.{ng_stream_of}
use Rattle.pcapng_file.specs.Reading as blocks
use Rattle.packet_feed.specs.Contents.{contents_of}
use Rattle.packet_feed.specs.Captures.{Begins, Heads}

-- ---- by the format

pub holds_records : (bytes : List ℕ) → is_section bytes ≡ false → contents_of bytes ≡ option_map stream_of (capture_of bytes)
holds_records bytes e = ap (λ (b : Bool). cond b (ng_stream_of bytes) (option_map stream_of (capture_of bytes))) e

pub holds_blocks : (bytes : List ℕ) → is_section bytes ≡ true → contents_of bytes ≡ ng_stream_of bytes
holds_blocks bytes e = ap (λ (b : Bool). cond b (ng_stream_of bytes) (option_map stream_of (capture_of bytes))) e

pub holds_pcap : (bytes : List ℕ) (c : Capture) → is_section bytes ≡ false → capture_of bytes ≡ Some c → contents_of bytes ≡ Some (stream_of c)
holds_pcap bytes c other e = holds_records bytes other ∙ ap (option_map stream_of) e

-- ---- by what is held of the bytes

-- bytes, if they are told, begin as those of a pcapng capture do, or don't
abbrev pub BeginSo : Option (List ℕ) → Bool → Type 0
BeginSo None b = Unit {0}
BeginSo (Some bytes) b = is_section bytes ≡ b

section_front : (held rest : List ℕ) (whole : Bool) → Filled 24 held (Some rest) whole → is_section (held ++ rest) ≡ is_section held
section_front held rest true filled = ap (λ (n : ℕ). eqb n 0x0a0d0d0a) (number_front Big held rest (omega (arith, filled)))
section_front held rest false filled = ap is_section (ap (λ (r : List ℕ). held ++ r) filled.1 ∙ append-nil held)

pub begin_so : (before now : Option (List ℕ)) (held : List ℕ) (whole b : Bool) → to_come held now ≡ before → Filled 24 held now whole → is_section held ≡ b → BeginSo before b
begin_so None now held whole b same filled e = tt
begin_so (Some bytes) None held whole b same filled e = absurd cc
begin_so (Some bytes) (Some rest) held whole b same filled e =
    let all : held ++ rest ≡ bytes = one (held ++ rest) bytes same in
    ap is_section (sym all) ∙ section_front held rest whole filled ∙ e
  where
    one : (xs ys : List ℕ) → Some xs ≡ Some ys → xs ≡ ys
    one xs ys p = cc

-- ---- what a header says

pub begins_records : (bytes : Option (List ℕ)) (c : Option Capture) → BeginSo bytes false → records.Begins bytes c → Begins bytes (option_map stream_of c)
begins_records None c other h = tt
begins_records (Some bytes) None other h = absurd h
begins_records (Some bytes) (Some c) other h = holds_pcap bytes c other h

pub begins_blocks : (bytes : Option (List ℕ)) (c : Option Contents) → BeginSo bytes true → blocks.Begins bytes c → Begins bytes c
begins_blocks None c is h = tt
begins_blocks (Some bytes) None is h = absurd h
begins_blocks (Some bytes) (Some c) is h = holds_blocks bytes is ∙ h

pub no_records : (bytes rest : Option (List ℕ)) (told : Told) (fault : CapFault) → BeginSo bytes false → records.Heads bytes told (Err fault) → Heads bytes rest (Err fault)
no_records bytes rest told File other h = tt
no_records bytes rest told Memory other h = tt
no_records None rest told NotCapture other h = tt
no_records (Some bytes) rest told NotCapture other h = holds_records bytes other ∙ ap (option_map stream_of) h

pub no_blocks : (bytes rest : Option (List ℕ)) (told : Told) (fault : CapFault) → BeginSo bytes true → blocks.Heads bytes told (Err fault) → Heads bytes rest (Err fault)
no_blocks bytes rest told File is h = tt
no_blocks bytes rest told Memory is h = tt
no_blocks None rest told NotCapture is h = tt
no_blocks (Some bytes) rest told NotCapture is h = holds_blocks bytes is ∙ h
