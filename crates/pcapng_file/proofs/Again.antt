-- A block that is written is read again, whatever follows it.
use Rattle.std.proofs.Common.{◌≡◌, ℕ, ◌+◌, ◌-◌, ◌*◌, ◌/◌, ◌%◌, ◌^◌, ◌<◌, ◌≤◌, Bool, true, false, ◌&&◌, cond, leb, ltb, eqb, List, [], ◌∷◌, ◌++◌, length, take, drop, Option, Some, None, refl, sym, ap, subst, ◌∙◌, append_assoc, slice_get, eq-eqb, arith}
use Rattle.std.specs.Prelude.{replicate}
use Rattle.std.proofs.lemmas.Bool.{le-leb, lt-ltb}
use Rattle.std.proofs.lemmas.List.{take_at, drop_at, length-append, length-replicate, drop-drop}
use Rattle.pcap_file.specs.declared.form.Endian.{Endian}
use Rattle.pcap_file.specs.declared.form.Endian.TheVariants.{Little}
use Rattle.pcap_file.specs.Form.{number_in, bytes_in}
use Rattle.pcap_file.proofs.Numbers.{read_again, drop_number, number_long}
use Rattle.pcapng_file.specs.declared.interface.Interface.{Interface}
use Rattle.pcapng_file.specs.Heard.{Heard}
use Rattle.pcapng_file.specs.Options.{time_in, units_of}
use Rattle.pcapng_file.specs.Blocks.{Section, Said, Gives, Whole, is_section, total_in, closing_in, is_closed, body_in, count_in, whole_of, block_by, heard_of, enhanced_by, enhanced_said, said_by, said_in, block_in}
use Rattle.pcapng_file.specs.Written.{written_section, padding, block_length, block_bytes, Fits}
use Rattle.pcapng_file.specs.Laws.{WrittenBlocksAreRead}

-- the one interface
abbrev ethernet : Interface
ethernet = record { link = 1; most = 262144; resolution = 9 }

-- a packet of it
abbrev heard : ℕ → ℕ → List ℕ → Heard
heard time original frame = record { time = time; original = original; frame = frame; is_ethernet = true }

-- ---- the parts of a block

abbrev zeros : List ℕ → List ℕ
zeros frame = replicate (padding (length frame)) 0

abbrev body : ℕ → ℕ → List ℕ → List ℕ
body time original frame =
    bytes_in Little 0 ++ (bytes_in Little (time / 2 ^ 32) ++ (bytes_in Little (time % 2 ^ 32)
    ++ (bytes_in Little (length frame) ++ (bytes_in Little original ++ (frame ++ zeros frame)))))

pad_long : (frame : List ℕ) → length (zeros frame) ≡ padding (length frame)
pad_long frame = length-replicate {A = ℕ} (padding (length frame)) 0

body_long : (time original : ℕ) (frame : List ℕ) → length (body time original frame) ≡ 20 + (length frame + padding (length frame))
body_long time original frame = simp (length-append, number_long) (omega (arith, pad_long frame))

pub block_long : (time original : ℕ) (frame : List ℕ) → length (block_bytes time original frame) ≡ block_length (length frame)
block_long time original frame = simp (length-append, number_long) (omega (arith, pad_long frame))

both : (a b : Bool) → a ≡ true → b ≡ true → (a && b) ≡ true
both a b p q = rw (p, q) refl

module _ (time original : ℕ) (frame : List ℕ) (fits : Fits time original frame) where
  heard_again : (t o c : ℕ) (tail : List ℕ) → t ≡ time → o ≡ original → c ≡ length frame → tail ≡ frame ++ zeros frame → heard_of ethernet t o c tail ≡ Some (Gives (heard time original frame))
  heard_again t o c tail et eo ec ed =
      let least : leb (length frame) 262144 ≡ true = le-leb _ _ fits.frame_fits in
      let there : leb (length frame) (length (frame ++ zeros frame)) ≡ true = le-leb _ _ (omega (arith, length-append frame (zeros frame))) in
      let kept : take (length frame) (frame ++ zeros frame) ≡ frame = take_at frame (zeros frame) (length frame) refl in
      ap (λ (n : ℕ). heard_of ethernet n o c tail) et
      ∙ ap (λ (n : ℕ). heard_of ethernet time n c tail) eo
      ∙ ap (λ (n : ℕ). heard_of ethernet time original n tail) ec
      ∙ ap (λ (xs : List ℕ). heard_of ethernet time original (length frame) xs) ed
      ∙ ap (λ (b : Bool). cond b (Some (Gives (heard time original (take (length frame) (frame ++ zeros frame))))) None) (both (leb (length frame) 262144) (leb (length frame) (length (frame ++ zeros frame))) least there)
      ∙ ap (λ (xs : List ℕ). Some (Gives (heard time original xs))) kept

  said_again : enhanced_said written_section (body time original frame) ≡ Some (Gives (heard time original frame))
  said_again =
      let all = body time original frame in
      let r7 = frame ++ zeros frame in
      let r6 = bytes_in Little original ++ r7 in
      let r5 = bytes_in Little (length frame) ++ r6 in
      let r4 = bytes_in Little (time % 2 ^ 32) ++ r5 in
      let r3 = bytes_in Little (time / 2 ^ 32) ++ r4 in
      let d4 : drop 4 all ≡ r3 = drop_number Little 0 r3 in
      let d8 : drop 4 (drop 4 all) ≡ r4 = ap (drop 4) d4 ∙ drop_number Little (time / 2 ^ 32) r4 in
      let d12 : drop 12 all ≡ r5 = sym (drop-drop 4 8 all) ∙ ap (drop 4) (sym (drop-drop 4 4 all) ∙ d8) ∙ drop_number Little (time % 2 ^ 32) r5 in
      let d16 : drop 16 all ≡ r6 = sym (drop-drop 4 12 all) ∙ ap (drop 4) d12 ∙ drop_number Little (length frame) r6 in
      let d20 : drop 20 all ≡ r7 = sym (drop-drop 4 16 all) ∙ ap (drop 4) d16 ∙ drop_number Little original r7 in
      let interface : number_in Little all ≡ 0 = read_again Little 0 r3 (omega arith) in
      let high : number_in Little (drop 4 all) ≡ time / 2 ^ 32 = ap (number_in Little) d4 ∙ read_again Little (time / 2 ^ 32) r4 (omega (arith, fits.time_fits)) in
      let low : number_in Little (drop 4 (drop 4 all)) ≡ time % 2 ^ 32 = ap (number_in Little) d8 ∙ read_again Little (time % 2 ^ 32) r5 (omega arith) in
      let captured : number_in Little (drop 12 all) ≡ length frame = ap (number_in Little) d12 ∙ read_again Little (length frame) r6 (omega (arith, fits.frame_fits)) in
      let first : number_in Little (drop 16 all) ≡ original = ap (number_in Little) d16 ∙ read_again Little original r7 fits.original_fits in
      let count : count_in Little (drop 4 all) ≡ time = omega (arith, high, low) in
      let in_time : (n : ℕ) → n ≡ time → time_in 1000000000 n ≡ time = λ n e. ap (time_in 1000000000) e ∙ omega (arith, fits.time_fits) in
      let long : leb 20 (length all) ≡ true = le-leb _ _ (omega (arith, body_long time original frame)) in
      ap (λ (b : Bool). cond b (enhanced_by Little all (slice_get (ethernet ∷ []) (number_in Little all))) None) long
      ∙ ap (λ (n : ℕ). enhanced_by Little all (slice_get (ethernet ∷ []) n)) interface
      ∙ heard_again (time_in 1000000000 (count_in Little (drop 4 all))) (number_in Little (drop 16 all)) (number_in Little (drop 12 all)) (drop 20 all)
      (in_time _ count) first captured d20

  module _ (offset : ℕ) (left : List ℕ) (below : offset + block_length (length frame) < 2 ^ 64) where
    abbrev size : ℕ
    size = block_length (length frame)

    abbrev behind : List ℕ
    behind = bytes_in Little (block_length (length frame)) ++ left

    abbrev whole : List ℕ
    whole = bytes_in Little 6 ++ (bytes_in Little (block_length (length frame)) ++ (body time original frame ++ (bytes_in Little (block_length (length frame)) ++ left)))

    grouped : block_bytes time original frame ++ left ≡ whole
    grouped = simp append_assoc

    kind : number_in Little whole ≡ 6
    kind = read_again Little 6 (bytes_in Little size ++ (body time original frame ++ behind)) (omega arith)

    after_kind : drop 4 whole ≡ bytes_in Little size ++ (body time original frame ++ behind)
    after_kind = drop_number Little 6 (bytes_in Little size ++ (body time original frame ++ behind))

    small : size < 2 ^ 32
    small = omega (arith, fits.frame_fits)

    total : total_in Little whole ≡ size
    total = ap (number_in Little) after_kind ∙ read_again Little size (body time original frame ++ behind) small

    after_total : drop 8 whole ≡ body time original frame ++ behind
    after_total = sym (drop-drop 4 4 whole) ∙ ap (drop 4) after_kind ∙ drop_number Little size (body time original frame ++ behind)

    body_again : body_in Little whole ≡ body time original frame
    body_again =
        ap (λ (n : ℕ). take (n - 12) (drop 8 whole)) total ∙ ap (take (size - 12)) after_total
        ∙ take_at (body time original frame) behind (size - 12) (omega (arith, body_long time original frame))

    last : drop (size - 4) whole ≡ behind
    last =
        let count : 8 + (size - 12) ≡ size - 4 = omega arith in
        ap (λ (n : ℕ). drop n whole) (sym count) ∙ sym (drop-drop (size - 12) 8 whole) ∙ ap (drop (size - 12)) after_total
        ∙ drop_at (body time original frame) behind (size - 12) (omega (arith, body_long time original frame))

    closing : closing_in Little whole ≡ size
    closing = ap (λ (n : ℕ). number_in Little (drop (n - 4) whole)) total ∙ ap (number_in Little) last ∙ read_again Little size left small

    long : size ≤ length whole
    long = simp (length-append, number_long) (omega (arith, pad_long frame))

    all_true : (a b d e g : Bool) → a ≡ true → b ≡ true → d ≡ true → e ≡ true → g ≡ true → ((a && (b && d)) && (e && g)) ≡ true
    all_true a b d e g pa pb pd pe pg = rw (pa, pb, pd, pe, pg) refl

    closed : is_closed Little offset whole ≡ true
    closed =
        all_true (leb 12 (total_in Little whole)) (eqb (total_in Little whole % 4) 0) (ltb (offset + total_in Little whole) (2 ^ 64)) (leb (total_in Little whole) (length whole)) (eqb (closing_in Little whole) (total_in Little whole))
        (le-leb _ _ (omega (arith, total))) (eq-eqb _ _ (omega (arith, total))) (lt-ltb _ _ (omega (arith, total, below))) (le-leb _ _ (omega (arith, total, long))) (eq-eqb _ _ (closing ∙ sym total))

    said : said_by written_section (number_in Little whole) (body_in Little whole) ≡ Some (Gives (heard time original frame))
    said =
        ap (λ (n : ℕ). said_by written_section n (body_in Little whole)) kind
        ∙ ap (λ (xs : List ℕ). said_by written_section 6 xs) body_again
        ∙ said_again

    again : block_in written_section offset (block_bytes time original frame ++ left) ≡ Some (record { size = block_length (length frame); said = Gives (heard time original frame) })
    again =
        ap (block_in written_section offset) grouped
        ∙ ap (λ (b : Bool). cond b (whole_of (total_in Little whole) (said_by written_section (number_in Little whole) (body_in Little whole))) None) closed
        ∙ ap (λ (n : ℕ). whole_of n (said_by written_section (number_in Little whole) (body_in Little whole))) total
        ∙ ap (whole_of size) said

pub written_blocks_are_read : WrittenBlocksAreRead
written_blocks_are_read offset time original frame left fits below = again time original frame fits offset left below
