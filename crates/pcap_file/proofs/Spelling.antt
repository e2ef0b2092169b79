-- The two laws: what is read is spelled so, and what is spelled so is read, whatever follows it.
use Rattle.std.proofs.Common.{◌≡◌, ℕ, zero, suc, ◌+◌, ◌-◌, ◌^◌, ◌<◌, ◌≤◌, Bool, true, false, ◌&&◌, leb, ltb, List, [], ◌∷◌, ◌++◌, length, take, drop, Option, Some, None, refl, sym, ap, subst, ◌∙◌, append_assoc, arith}
use Rattle.std.specs.List.{flat_map, AllByRecursion}
use Rattle.std.specs.Option.{option_map}
use Rattle.std.proofs.lemmas.Bool.{le-leb, lt-ltb}
use Rattle.std.proofs.lemmas.List.{take_at, drop_at, take-append-drop, length-append, length-drop, length-take, drop-drop, append-nil}
use Rattle.pcap_file.specs.declared.form.Endian.{Endian}
use Rattle.pcap_file.specs.declared.form.Form.{Form}
use Rattle.pcap_file.specs.Form.{number_in, bytes_in, form_of}
use Rattle.pcap_file.specs.Record.{Record, Fits, record_bytes}
use Rattle.pcap_file.specs.Capture.{Capture, captured_in, is_whole, record_in, no_record, behind, capture_within, capture_from, capture_of}
use Rattle.pcap_file.specs.Spelled.{IsSpelled, Ends, written_form, written_bytes, header_bytes, capture_bytes}
use Rattle.pcap_file.proofs.Steps.{either_way, whole, steps, stops, ends}
use Rattle.pcap_file.proofs.Numbers.{IsBytes, IsBytes-drop, read_again, drop_number, number_long, number_below, spelled_again}

-- ---- what is written is read again

bytes_long : (order : Endian) (r : Record) → length (record_bytes order r) ≡ 16 + length r.frame
bytes_long order r = simp (length-append, number_long) (omega arith)

-- the numbers of a record that is spelled in front
record Front (order : Endian) (r : Record) (bytes : List ℕ) : Type 0 where
  pub captured : captured_in order bytes ≡ length r.frame
  pub same : record_in order bytes ≡ r
  pub long : 16 + length r.frame ≤ length bytes

front : (order : Endian) (r : Record) (rest : List ℕ) → Fits r → Front order r (record_bytes order r ++ rest)
front order r rest fits =
    let d = r.frame ++ rest in
    let o = bytes_in order r.original ++ d in
    let n = bytes_in order (length r.frame) ++ o in
    let f = bytes_in order r.fraction ++ n in
    let all = bytes_in order r.seconds ++ f in
    let grouped : record_bytes order r ++ rest ≡ all = simp append_assoc in
    let d4 : drop 4 all ≡ f = drop_number order r.seconds f in
    let d8 : drop 8 all ≡ n = sym (drop-drop 4 4 all) ∙ ap (drop 4) d4 ∙ drop_number order r.fraction n in
    let d12 : drop 12 all ≡ o = sym (drop-drop 4 8 all) ∙ ap (drop 4) d8 ∙ drop_number order (length r.frame) o in
    let d16 : drop 16 all ≡ d = sym (drop-drop 4 12 all) ∙ ap (drop 4) d12 ∙ drop_number order r.original d in
    let seconds : number_in order all ≡ r.seconds = read_again order r.seconds f fits.seconds_fit in
    let fraction : number_in order (drop 4 all) ≡ r.fraction = ap (number_in order) d4 ∙ read_again order r.fraction n fits.fraction_fits in
    let captured : captured_in order all ≡ length r.frame = ap (number_in order) d8 ∙ read_again order (length r.frame) o (omega (arith, fits.frame_fits)) in
    let original : number_in order (drop 12 all) ≡ r.original = ap (number_in order) d12 ∙ read_again order r.original d fits.original_fits in
    let frame : take (captured_in order all) (drop 16 all) ≡ r.frame = ap (λ (k : ℕ). take k (drop 16 all)) captured ∙ ap (take (length r.frame)) d16 ∙ take_at r.frame rest (length r.frame) refl in
    let same : record_in order all ≡ r = rw (seconds, fraction, original, frame) refl in
    let long : 16 + length r.frame ≤ length all = omega (arith, ap length grouped, length-append (record_bytes order r) rest, bytes_long order r) in
    subst (λ (bytes : List ℕ). Front order r bytes) (sym grouped) (record { captured = captured; same = same; long = long })

all_true : (a b d e : Bool) → a ≡ true → b ≡ true → d ≡ true → e ≡ true → (a && ((b && d) && e)) ≡ true
all_true true true true true p q r s = refl
all_true false b d e p q r s = absurd cc
all_true true false d e p q r s = absurd cc
all_true true true false e p q r s = absurd cc
all_true true true true false p q r s = absurd cc

whole_front : (order : Endian) (offset : ℕ) (r : Record) (bytes : List ℕ) → Fits r → offset + (16 + length r.frame) < 2 ^ 64 → Front order r bytes → is_whole order offset bytes ≡ true
whole_front order offset r bytes fits lt f =
    all_true (leb 16 (length bytes)) (leb (captured_in order bytes) 262144) (ltb (offset + (16 + captured_in order bytes)) (2 ^ 64)) (leb (16 + captured_in order bytes) (length bytes))
    (le-leb _ _ (omega (arith, f.long))) (le-leb _ _ (omega (arith, f.captured, fits.frame_fits))) (lt-ltb _ _ (omega (arith, f.captured))) (le-leb _ _ (omega (arith, f.captured, f.long)))

-- one record, whatever follows it
pub next_again : (form : Form) (offset : ℕ) (r : Record) (rest : List ℕ) → Fits r → offset + (16 + length r.frame) < 2 ^ 64
    → capture_from form offset (record_bytes form.order r ++ rest) ≡ behind (r ∷ []) (capture_from form (offset + (16 + length r.frame)) rest)
next_again form offset r rest fits lt =
    let bytes = record_bytes form.order r ++ rest in
    let f = front form.order r rest fits in
    let step = steps form offset bytes (whole_front form.order offset r bytes fits lt f) in
    let after : drop (16 + length r.frame) bytes ≡ rest = drop_at (record_bytes form.order r) rest (16 + length r.frame) (bytes_long form.order r) in
    step ∙ rw (f.same, f.captured, after) refl

-- all records, whatever follows them
pub records_again : (form : Form) (offset : ℕ) (rs : List Record) (rest : List ℕ) → AllByRecursion Fits rs → offset + length (flat_map (record_bytes form.order) rs) < 2 ^ 64
    → capture_from form offset (flat_map (record_bytes form.order) rs ++ rest) ≡ behind rs (capture_from form (offset + length (flat_map (record_bytes form.order) rs)) rest)
records_again form offset [] rest fits lt = let same : offset ≡ offset + 0 = omega arith in ap (λ (o : ℕ). capture_from form o rest) same
records_again form offset (r ∷ rs) rest fits lt =
    let spelled = flat_map (record_bytes form.order) rs in
    let long = bytes_long form.order r in
    let parts : length (record_bytes form.order r ++ spelled) ≡ length (record_bytes form.order r) + length spelled = length-append (record_bytes form.order r) spelled in
    let total : offset + (16 + length r.frame) + length spelled ≡ offset + length (record_bytes form.order r ++ spelled) = omega arith in
    ap (capture_from form offset) (append_assoc (record_bytes form.order r) spelled rest)
    ∙ next_again form offset r (spelled ++ rest) fits.0 (omega arith)
    ∙ ap (behind (r ∷ [])) (records_again form (offset + (16 + length r.frame)) rs rest fits.1 (omega arith))
    ∙ ap (λ (o : ℕ). behind (r ∷ rs) (capture_from form o rest)) total

-- ---- what is read is spelled so

-- bytes from an offset on that spell a capture's records, with what is left behind them
record Spells (form : Form) (offset : ℕ) (bytes : List ℕ) (c : Capture) : Type 0 where
  pub left : List ℕ
  pub form_is : c.form ≡ form
  pub fits : AllByRecursion Fits c.records
  pub spelled : bytes ≡ flat_map (record_bytes form.order) c.records ++ left
  pub ends : Ends form.order (offset + length (flat_map (record_bytes form.order) c.records)) left c.torn

none_spelled : (form : Form) (offset : ℕ) (bytes : List ℕ) → is_whole form.order offset bytes ≡ false → Spells form offset bytes (no_record form offset bytes)
none_spelled form offset [] e = record { left = []; form_is = refl; fits = tt; spelled = refl; ends = refl }
none_spelled form offset (b ∷ bytes) e =
    let same : offset + 0 ≡ offset = omega arith in
    record { left = b ∷ bytes; form_is = refl; fits = tt; spelled = refl; ends = (sym same, λ h. cc, subst (λ (o : ℕ). is_whole form.order o (b ∷ bytes) ≡ false) (sym same) e) }

-- the parts of the record in front
first_spelled : (order : Endian) (offset : ℕ) (bytes : List ℕ) → IsBytes bytes → is_whole order offset bytes ≡ true
    → (bytes ≡ record_bytes order (record_in order bytes) ++ drop (16 + captured_in order bytes) bytes) × Fits (record_in order bytes) × (length (record_in order bytes).frame ≡ captured_in order bytes)
first_spelled order offset bytes fits e =
    let w = whole order offset bytes e in
    let captured = captured_in order bytes in
    let long : length (take captured (drop 16 bytes)) ≡ captured = omega (arith, length-take captured (drop 16 bytes), length-drop 16 bytes) in
    let p0 : bytes ≡ bytes_in order (number_in order bytes) ++ drop 4 bytes = sym (take-append-drop 4 bytes) ∙ ap (λ (t : List ℕ). t ++ drop 4 bytes) (sym (spelled_again order bytes fits (omega arith))) in
    let p4 : drop 4 bytes ≡ bytes_in order (number_in order (drop 4 bytes)) ++ drop 8 bytes = sym (take-append-drop 4 (drop 4 bytes)) ∙ ap (λ (t : List ℕ). t ++ drop 4 (drop 4 bytes)) (sym (spelled_again order (drop 4 bytes) (IsBytes-drop 4 bytes fits) (omega (arith, length-drop 4 bytes)))) ∙ ap (λ (t : List ℕ). bytes_in order (number_in order (drop 4 bytes)) ++ t) (drop-drop 4 4 bytes) in
    let p8 : drop 8 bytes ≡ bytes_in order (number_in order (drop 8 bytes)) ++ drop 12 bytes = sym (take-append-drop 4 (drop 8 bytes)) ∙ ap (λ (t : List ℕ). t ++ drop 4 (drop 8 bytes)) (sym (spelled_again order (drop 8 bytes) (IsBytes-drop 8 bytes fits) (omega (arith, length-drop 8 bytes)))) ∙ ap (λ (t : List ℕ). bytes_in order (number_in order (drop 8 bytes)) ++ t) (drop-drop 4 8 bytes) in
    let p12 : drop 12 bytes ≡ bytes_in order (number_in order (drop 12 bytes)) ++ drop 16 bytes = sym (take-append-drop 4 (drop 12 bytes)) ∙ ap (λ (t : List ℕ). t ++ drop 4 (drop 12 bytes)) (sym (spelled_again order (drop 12 bytes) (IsBytes-drop 12 bytes fits) (omega (arith, length-drop 12 bytes)))) ∙ ap (λ (t : List ℕ). bytes_in order (number_in order (drop 12 bytes)) ++ t) (drop-drop 4 12 bytes) in
    let p16 : drop 16 bytes ≡ take captured (drop 16 bytes) ++ drop (16 + captured) bytes = sym (take-append-drop captured (drop 16 bytes)) ∙ ap (λ (t : List ℕ). take captured (drop 16 bytes) ++ t) (drop-drop captured 16 bytes) in
    let r = record_in order bytes in
    let o = bytes_in order r.original in
    let n = bytes_in order captured in
    let f = bytes_in order r.fraction in
    let s = bytes_in order r.seconds in
    let after = drop (16 + captured) bytes in
    let parts : bytes ≡ s ++ (f ++ (n ++ (o ++ (r.frame ++ after)))) =
    p0 ∙ ap (λ (t : List ℕ). s ++ t) (p4 ∙ ap (λ (t : List ℕ). f ++ t) (p8 ∙ ap (λ (t : List ℕ). n ++ t) (p12 ∙ ap (λ (t : List ℕ). o ++ t) p16))) in
    let numbered : bytes ≡ s ++ (f ++ (bytes_in order (length r.frame) ++ (o ++ (r.frame ++ after)))) = subst (λ (k : ℕ). bytes ≡ s ++ (f ++ (bytes_in order k ++ (o ++ (r.frame ++ after))))) (sym long) parts in
    let grouped : s ++ (f ++ (bytes_in order (length r.frame) ++ (o ++ (r.frame ++ after)))) ≡ record_bytes order r ++ after = sym (simp append_assoc) in (
      numbered ∙ grouped,
      record {
        seconds_fit = number_below order bytes fits;
        fraction_fits = number_below order (drop 4 bytes) (IsBytes-drop 4 bytes fits);
        original_fits = number_below order (drop 12 bytes) (IsBytes-drop 12 bytes fits);
        frame_fits = omega arith;
      },
      long,
    )

within_spelled : (most : ℕ) (form : Form) (offset : ℕ) (bytes : List ℕ) → IsBytes bytes → length bytes ≤ most → Spells form offset bytes (capture_within most form offset bytes)
unfolding capture_within
within_spelled zero form offset [] fits le = none_spelled form offset [] refl
within_spelled zero form offset (b ∷ bytes) fits le = absurd (omega arith)
within_spelled (suc most) form offset bytes fits le =
    let size : ℕ = 16 + captured_in form.order bytes in
    let r = record_in form.order bytes in
    let later : Capture = capture_within most form (offset + size) (drop size bytes) in
    either_way (Spells form offset bytes) (is_whole form.order offset bytes) (behind (r ∷ []) later) (no_record form offset bytes)
    (λ e.
    let first = first_spelled form.order offset bytes fits e in
    let w = whole form.order offset bytes e in
    let next : Spells form (offset + size) (drop size bytes) later = within_spelled most form (offset + size) (drop size bytes) (IsBytes-drop size bytes fits) (omega (arith, length-drop size bytes)) in
    let spelled = flat_map (record_bytes form.order) later.records in
    let total : offset + size + length spelled ≡ offset + length (record_bytes form.order r ++ spelled) = omega (arith, length-append (record_bytes form.order r) spelled, bytes_long form.order r, first.2) in
    record {
      left = next.left;
      form_is = next.form_is;
      fits = (first.1, next.fits);
      spelled = first.0 ∙ ap (λ (t : List ℕ). record_bytes form.order r ++ t) next.spelled ∙ sym (append_assoc (record_bytes form.order r) spelled next.left);
      ends = subst (λ (o : ℕ). Ends form.order o next.left later.torn) total next.ends;
    })
    (λ e. none_spelled form offset bytes e)

-- ---- whole captures

one_is : {A : Type 0} (x y : A) → Some x ≡ Some y → x ≡ y
one_is x y e = cc

with_form : (bytes : List ℕ) (o : Option Form) (c : Capture) → form_of bytes ≡ o → IsBytes bytes → option_map (λ form. capture_from form 24 (drop 24 bytes)) o ≡ Some c → IsSpelled bytes c
unfolding capture_from
with_form bytes None c header fits e = absurd cc
with_form bytes (Some form) c header fits e =
    let s = within_spelled (length (drop 24 bytes)) form 24 (drop 24 bytes) (IsBytes-drop 24 bytes fits) (omega arith) in
    let got : Capture = capture_from form 24 (drop 24 bytes) in
    subst (IsSpelled bytes) (one_is got c e)
    (record {
      left = s.left;
      header = header ∙ ap (λ (f : Form). Some f) (sym s.form_is);
      fits = s.fits;
      spelled = subst (λ (f : Form). drop 24 bytes ≡ flat_map (record_bytes f.order) got.records ++ s.left) (sym s.form_is) s.spelled;
      ends = subst (λ (f : Form). Ends f.order (24 + length (flat_map (record_bytes f.order) got.records)) s.left got.torn) (sym s.form_is) s.ends;
    })

-- what is read is spelled so
pub is_spelled : (bytes : List ℕ) (c : Capture) → IsBytes bytes → capture_of bytes ≡ Some c → IsSpelled bytes c
is_spelled bytes c fits e = with_form bytes (form_of bytes) c refl fits e

ends_so : (form : Form) (offset : ℕ) (left : List ℕ) (torn : Option ℕ) → Ends form.order offset left torn → capture_from form offset left ≡ record { form = form; records = []; torn = torn }
ends_so form offset left None e = rw e (ends form offset)
ends_so form offset [] (Some t) e = absurd (e.1 refl)
ends_so form offset (b ∷ left) (Some t) e = stops form offset (b ∷ left) e.2 ∙ ap (λ (o : ℕ). record { form = form; records = []; torn = Some o }) (sym e.0)

-- what is spelled so is read
pub is_read : (bytes : List ℕ) (c : Capture) → length bytes < 2 ^ 64 → IsSpelled bytes c → capture_of bytes ≡ Some c
is_read bytes c lt s =
    let spelled = flat_map (record_bytes c.form.order) c.records in
    let long : length bytes - 24 ≡ length spelled + length s.left = sym (length-drop 24 bytes) ∙ ap length s.spelled ∙ length-append spelled s.left in
    let again : capture_from c.form 24 (drop 24 bytes) ≡ c = ap (capture_from c.form 24) s.spelled ∙ records_again c.form 24 c.records s.left s.fits (omega arith) ∙ ap (behind c.records) (ends_so c.form (24 + length spelled) s.left c.torn s.ends) ∙ ap (λ (rs : List Record). record { form = c.form; records = rs; torn = c.torn }) (append-nil c.records) in
    rw s.header (ap (λ (d : Capture). Some d) again)

pub header_read : (rest : List ℕ) → form_of (header_bytes ++ rest) ≡ Some written_form
header_read rest =
    let long : leb 24 (length (header_bytes ++ rest)) ≡ true = le-leb _ _ (omega (arith, length-append header_bytes rest)) in
    rw long refl

-- what is written is read again, whatever follows it
pub is_written : (rs : List Record) (left : List ℕ) → AllByRecursion Fits rs → length (capture_bytes rs) < 2 ^ 64 → capture_of (capture_bytes rs ++ left) ≡ Some (behind rs (capture_from written_form (length (capture_bytes rs)) left))
is_written rs left fits lt =
    let spelled = flat_map written_bytes rs in
    let total : length (capture_bytes rs) ≡ 24 + length spelled = length-append header_bytes spelled in
    let again : capture_from written_form 24 (spelled ++ left) ≡ behind rs (capture_from written_form (24 + length spelled) left) = records_again written_form 24 rs left fits (omega arith) in
    ap (option_map (λ form. capture_from form 24 (spelled ++ left))) (header_read (spelled ++ left))
    ∙ ap (λ (d : Capture). Some d) again
    ∙ ap (λ (o : ℕ). Some (behind rs (capture_from written_form o left))) (sym total)
