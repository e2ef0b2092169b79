-- The first four bytes of a capture tell its format.
use Rattle.std.proofs.Common.{◌≡◌, ℕ, ◌<◌, Bool, true, false, ◌&&◌, cond, eqb, leb, List, [], ◌∷◌, length, take, drop, get_or, Option, Some, None, inl, inr, refl, sym, ap, ◌∙◌, arith}
use Rattle.std.specs.Option.{option_map}
use Rattle.std.proofs.lemmas.Bool.{eqb-true, cases_lt}
use Rattle.std.proofs.lemmas.List.{get_or_past}
use Rattle.std.proofs.lemmas.List.Elements.{All-get_or}
use Rattle.pcap_file.specs.declared.form.Endian.TheVariants.{Big, Little}
use Rattle.pcap_file.specs.declared.form.TimeUnit.TheVariants.{Microseconds, Nanoseconds}
use Rattle.pcap_file.specs.declared.form.Form.{Form}
use Rattle.pcap_file.specs.Form.{number_in, form_of}
use Rattle.pcap_file.specs.Capture.{capture_from, capture_of}
use Rattle.pcapng_file.specs.Heard.{stream_of}
use Rattle.pcapng_file.specs.Blocks.{is_section}
use Rattle.packet_feed.specs.Contents.{contents_of}
use Rattle.packet_feed.specs.Laws.{RecordsAreHeld, BlocksAreHeld}
use Rattle.packet_feed.proofs.Holding.{holds_blocks, holds_pcap}

section_is : (bytes : List ℕ) → take 4 bytes ≡ 0x0a ∷ 0x0d ∷ 0x0d ∷ 0x0a ∷ [] → is_section bytes ≡ true
section_is [] e = absurd cc
section_is (a ∷ []) e = absurd cc
section_is (a ∷ b ∷ []) e = absurd cc
section_is (a ∷ b ∷ d ∷ []) e = absurd cc
section_is (a ∷ b ∷ d ∷ f ∷ rest) e =
    let is_a : a ≡ 0x0a = cc in
    let is_b : b ≡ 0x0d = cc in
    let is_d : d ≡ 0x0d = cc in
    let is_f : f ≡ 0x0a = cc in
    rw (is_a, is_b, is_d, is_f) refl

pub blocks_are_held : BlocksAreHeld
blocks_are_held bytes e = holds_blocks bytes (section_is bytes e)

-- these four bytes read alike in both orders
little_too : (bytes : List ℕ) → ((i : ℕ) → get_or bytes i 0 < 256) → number_in Big bytes ≡ 0x0a0d0d0a → number_in Little bytes ≡ 0x0a0d0d0a
little_too bytes fits e = omega (arith, fits 0, fits 1, fits 2, fits 3, e)

no_header : (bytes : List ℕ) → number_in Big bytes ≡ 0x0a0d0d0a → number_in Little bytes ≡ 0x0a0d0d0a → form_of bytes ≡ None
no_header bytes big little = no_form (leb 24 (length bytes)) (number_in Big bytes) (number_in Little bytes) _ _ big little
  where
    by_numbers : Bool → ℕ → ℕ → Bool → Bool → Option Form
    by_numbers long m n at_big at_little =
        cond (long && (eqb m 0xa1b2c3d4 && at_big)) (Some (record { order = Big; unit = Microseconds }))
        (cond (long && (eqb m 0xa1b23c4d && at_big)) (Some (record { order = Big; unit = Nanoseconds }))
        (cond (long && (eqb n 0xa1b2c3d4 && at_little)) (Some (record { order = Little; unit = Microseconds }))
        (cond (long && (eqb n 0xa1b23c4d && at_little)) (Some (record { order = Little; unit = Nanoseconds })) None)))

    no_form : (long : Bool) (m n : ℕ) (at_big at_little : Bool) → m ≡ 0x0a0d0d0a → n ≡ 0x0a0d0d0a → by_numbers long m n at_big at_little ≡ None
    no_form true m n at_big at_little p q = rw (p, q) refl
    no_form false m n at_big at_little p q = refl

pub records_are_held : RecordsAreHeld
records_are_held bytes c fits e = by_section (is_section bytes) refl
  where
    by_section : (b : Bool) → is_section bytes ≡ b → contents_of bytes ≡ Some (stream_of c)
    by_section false other = holds_pcap bytes c other e
    by_section true is =
        let big : number_in Big bytes ≡ 0x0a0d0d0a = eqb-true (number_in Big bytes) 0x0a0d0d0a is in
        let none : capture_of bytes ≡ None = ap (option_map (λ (form : Form). capture_from form 24 (drop 24 bytes))) (no_header bytes big (little_too bytes below big)) in
        absurd (never (sym none ∙ e))
      where
        below : (i : ℕ) → get_or bytes i 0 < 256
        below i = elim (cases_lt i (length bytes)) [
          | inl lt ↦ All-get_or (λ b. b < 256) bytes i 0 lt fits
          | inr past ↦ omega (arith, get_or_past bytes i 0 past)
        ]

        never : None ≡ Some c → ⊥
        never q = cc
