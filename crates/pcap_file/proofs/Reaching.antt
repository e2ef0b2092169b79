-- What the bytes that were taken tell of those that are still to come.
use Rattle.std.proofs.Common.{◌≡◌, ◌≢◌, ℕ, suc, ◌+◌, ◌≤◌, ◌^◌, Bool, true, false, ◌&&◌, cond, leb, ltb, List, [], ◌∷◌, ◌++◌, length, take, drop, Option, Some, None, Ok, refl, sym, ap, ◌∙◌, arith}
use Rattle.std.specs.Option.{option_map}
use Rattle.std.proofs.lemmas.Bool.{le-leb}
use Rattle.std.proofs.lemmas.List.{append-nil, length-append, length-drop, drop-append-le, take-append-le}
use Rattle.byteorder.specs.Numbers.{big_from-append, little_from-append}
use Rattle.nf_files.specs.Told.{IsEmptyIfTold}
use Rattle.pcap_file.specs.declared.form.Endian.{Endian}
use Rattle.pcap_file.specs.declared.form.Endian.TheVariants.{Big, Little}
use Rattle.pcap_file.specs.declared.form.Form.{Form}
use Rattle.pcap_file.specs.declared.reader.Next.TheVariants.{Frame, End, Torn}
use Rattle.pcap_file.specs.Form.{number_in}
use Rattle.pcap_file.specs.Record.{Record, head_of}
use Rattle.pcap_file.specs.Capture.{Capture, captured_in, is_sized, is_whole, record_in, behind, capture_from}
use Rattle.pcap_file.specs.Held.{to_come, Filled}
use Rattle.pcap_file.specs.Reading.{IsReached, Steps}
use Rattle.pcap_file.proofs.Steps.{whole, steps, stops, ends}
use Rattle.pcap_file.proofs.Recording.{form_kept, frame_long, some_there, none_there}

pub number_front : (order : Endian) (xs ys : List ℕ) → 4 ≤ length xs → number_in order (xs ++ ys) ≡ number_in order xs
number_front Big xs ys le = big_from-append 4 xs ys le
number_front Little xs ys le = little_from-append 4 xs ys le

pub number_behind : (order : Endian) (n : ℕ) (xs ys : List ℕ) → n + 4 ≤ length xs → number_in order (drop n (xs ++ ys)) ≡ number_in order (drop n xs)
number_behind order n xs ys le = ap (number_in order) (drop-append-le n xs ys (omega arith)) ∙ number_front order (drop n xs) ys (omega (arith, length-drop n xs))

pub sized_front : (order : Endian) (offset : ℕ) (xs ys : List ℕ) → 16 ≤ length xs → is_sized order offset (xs ++ ys) ≡ is_sized order offset xs
sized_front order offset xs ys le = ap (λ (n : ℕ). leb n 262144 && ltb (offset + (16 + n)) (2 ^ 64)) (number_behind order 8 xs ys (omega arith))

-- whether a whole record is there, by the three tests
pub tests : (order : Endian) (offset : ℕ) (xs : List ℕ) (b d e : Bool) → leb 16 (length xs) ≡ b → is_sized order offset xs ≡ d → leb (16 + captured_in order xs) (length xs) ≡ e → is_whole order offset xs ≡ (b && (d && e))
tests order offset xs b d e p q r = rw (p, q, r) refl

-- the file ended
reached_at_end : (order : Endian) (offset : ℕ) (ahead : List ℕ) (o : Option (List ℕ)) → IsEmptyIfTold o → IsReached order offset ahead o
reached_at_end order offset ahead None e = tt
reached_at_end order offset ahead (Some rest) e = (ap (is_whole order offset) (ap (λ (r : List ℕ). ahead ++ r) e ∙ append-nil ahead), λ h. e)

pub some_nil : (xs : List ℕ) (n : ℕ) → suc n ≤ length xs → xs ≡ [] → ⊥
some_nil [] n le e = omega arith
some_nil (x ∷ xs) n le e = cc

pub reached_short : (order : Endian) (offset wanted : ℕ) (ahead : List ℕ) (o : Option (List ℕ)) → Filled wanted ahead o false → IsReached order offset ahead o
reached_short order offset wanted ahead o f = reached_at_end order offset ahead o f.1

a_size : (b : Bool) (n k : ℕ) → Some k ≡ cond b (Some n) None → (b ≡ true) × (n ≡ k)
a_size true n k e = (refl, cc)
a_size false n k e = absurd cc

some_is : (xs ys : List ℕ) → Some xs ≡ Some ys → xs ≡ ys
some_is xs ys e = cc

-- as many bytes as the record has are ahead
pub reached_whole : (order : Endian) (offset size : ℕ) (before ahead : List ℕ) (m o : Option (List ℕ)) → 16 ≤ length before → Some size ≡ cond (is_sized order offset before) (Some (16 + captured_in order before)) None → to_come ahead o ≡ to_come before m → size ≤ length ahead → IsReached order offset ahead o
reached_whole order offset size before ahead m None le e same long = tt
reached_whole order offset size before ahead None (Some rest) le e same long = absurd cc
reached_whole order offset size before ahead (Some more) (Some rest) le e same long =
    let s = a_size (is_sized order offset before) (16 + captured_in order before) size e in
    let bytes : ahead ++ rest ≡ before ++ more = some_is (ahead ++ rest) (before ++ more) same in
    let far : 16 ≤ length ahead = omega (arith, s.1) in
    let captured : captured_in order ahead ≡ captured_in order before = sym (number_behind order 8 ahead rest (omega arith)) ∙ ap (captured_in order) bytes ∙ number_behind order 8 before more (omega arith) in
    let sized : is_sized order offset (ahead ++ rest) ≡ true = ap (is_sized order offset) bytes ∙ sized_front order offset before more le ∙ s.0 in
    let here : is_sized order offset ahead ≡ true = sym (sized_front order offset ahead rest far) ∙ sized in
    let all : length (ahead ++ rest) ≡ length ahead + length rest = length-append ahead rest in
    let whole_there : is_whole order offset (ahead ++ rest) ≡ true = tests order offset (ahead ++ rest) true true true (le-leb _ _ (omega arith)) sized (le-leb _ _ (omega (arith, number_behind order 8 ahead rest (omega arith), s.1))) in
    let whole_here : is_whole order offset ahead ≡ true = tests order offset ahead true true true (le-leb _ _ far) here (le-leb _ _ (omega (arith, s.1))) in
    (whole_there ∙ sym whole_here, λ h. absurd (some_nil ahead 15 far h))

pub record_front : (order : Endian) (offset : ℕ) (xs ys : List ℕ) → is_whole order offset xs ≡ true → record_in order (xs ++ ys) ≡ record_in order xs
record_front order offset xs ys e =
    let w = whole order offset xs e in
    let captured = number_behind order 8 xs ys (omega arith) in
    let frame : take (captured_in order (xs ++ ys)) (drop 16 (xs ++ ys)) ≡ take (captured_in order xs) (drop 16 xs) =
    ap (λ (n : ℕ). take n (drop 16 (xs ++ ys))) captured
    ∙ ap (take (captured_in order xs)) (drop-append-le 16 xs ys (omega arith))
    ∙ take-append-le (captured_in order xs) (drop 16 xs) ys (omega (arith, length-drop 16 xs)) in
    rw (number_front order xs ys (omega arith), number_behind order 4 xs ys (omega arith), number_behind order 12 xs ys (omega arith), frame) refl

-- the record that stands ahead is the next one
pub step_frame : (form : Form) (offset : ℕ) (ahead : List ℕ) (o : Option (List ℕ)) (r : Record) → IsReached form.order offset ahead o → Some r ≡ cond (is_whole form.order offset ahead) (Some (record_in form.order ahead)) None
    → Steps (option_map (capture_from form offset) (to_come ahead o)) (option_map (capture_from form (offset + (16 + length r.frame))) (to_come (drop (16 + length r.frame) ahead) o)) r.frame (Ok (Frame (head_of form.unit r)))
step_frame form offset ahead None r reached there = tt
step_frame form offset ahead (Some rest) r reached there =
    let s = some_there (is_whole form.order offset ahead) (record_in form.order ahead) r there in
    let w = whole form.order offset ahead s.0 in
    let all = ahead ++ rest in
    let step = steps form offset all (reached.0 ∙ s.0) in
    let same : record_in form.order all ≡ r = record_front form.order offset ahead rest s.0 ∙ s.1 in
    let long : length (record_in form.order ahead).frame ≡ captured_in form.order ahead = frame_long form.order offset ahead s.0 in
    let size : 16 + captured_in form.order all ≡ 16 + length r.frame = omega (arith, number_behind form.order 8 ahead rest (omega arith), long, ap (λ (q : Record). length q.frame) s.1) in
    let after : drop (16 + length r.frame) all ≡ drop (16 + length r.frame) ahead ++ rest = drop-append-le (16 + length r.frame) ahead rest (omega (arith, long, ap (λ (q : Record). length q.frame) s.1)) in
    let first : capture_from form offset all ≡ behind (r ∷ []) (capture_from form (offset + (16 + length r.frame)) (drop (16 + length r.frame) ahead ++ rest)) =
    step ∙ ap (λ (q : Record). behind (q ∷ []) (capture_from form (offset + (16 + captured_in form.order all)) (drop (16 + captured_in form.order all) all))) same
    ∙ ap (λ (n : ℕ). behind (r ∷ []) (capture_from form (offset + n) (drop n all))) size
    ∙ ap (λ (bytes : List ℕ). behind (r ∷ []) (capture_from form (offset + (16 + length r.frame)) bytes)) after in
    record { next = r; first = first; frame_is = refl; head_is = ap (λ (f : Form). head_of f.unit r) (sym (form_kept form offset all)) }

-- nothing stands ahead
pub step_end : (form : Form) (offset : ℕ) (o : Option (List ℕ)) (frame : List ℕ) → IsReached form.order offset [] o → Steps (option_map (capture_from form offset) (to_come [] o)) (Some (record { form = form; records = []; torn = None })) frame (Ok End)
step_end form offset None frame reached = tt
step_end form offset (Some rest) frame reached =
    let none : capture_from form offset rest ≡ record { form = form; records = []; torn = None } = ap (capture_from form offset) (reached.1 refl) ∙ ends form offset in
    (ap (λ (c : Capture). c.records) none, ap (λ (c : Capture). c.torn) none)

-- what stands ahead is no whole record
pub step_torn : (form : Form) (offset : ℕ) (ahead : List ℕ) (o : Option (List ℕ)) (frame : List ℕ) → ahead ≢ [] → IsReached form.order offset ahead o → None ≡ cond (is_whole form.order offset ahead) (Some (record_in form.order ahead)) None
    → Steps (option_map (capture_from form offset) (to_come ahead o)) (Some (record { form = form; records = []; torn = Some offset })) frame (Ok (Torn offset))
step_torn form offset ahead None frame some reached there = tt
step_torn form offset [] (Some rest) frame some reached there = absurd (some refl)
step_torn form offset (b ∷ ahead) (Some rest) frame some reached there =
    let torn : capture_from form offset ((b ∷ ahead) ++ rest) ≡ record { form = form; records = []; torn = Some offset } = stops form offset ((b ∷ ahead) ++ rest) (reached.0 ∙ none_there (is_whole form.order offset (b ∷ ahead)) (record_in form.order (b ∷ ahead)) there) in
    (ap (λ (c : Capture). c.records) torn, ap (λ (c : Capture). c.torn) torn)

pub reached_filled : (order : Endian) (offset size : ℕ) (before ahead : List ℕ) (m o : Option (List ℕ)) (b : Bool) → 16 ≤ length before → Some size ≡ cond (is_sized order offset before) (Some (16 + captured_in order before)) None → to_come ahead o ≡ to_come before m → Filled size ahead o b → IsReached order offset ahead o
reached_filled order offset size before ahead m o true le e same filled = reached_whole order offset size before ahead m o le e same filled
reached_filled order offset size before ahead m o false le e same filled = reached_short order offset size ahead o filled
