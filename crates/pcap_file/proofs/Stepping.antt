-- One step of a reader, from what was taken.
use Rattle.std.proofs.Common.{◌≡◌, ◌≢◌, ℕ, ◌+◌, ◌<◌, ◌^◌, false, eqb, List, [], ◌∷◌, length, drop, cond, Option, Some, None, Ok, refl, sym, ap, subst, ◌∙◌, arith}
use Rattle.std.specs.Option.{option_map}
use Rattle.std.proofs.Math.Seq.{drop-length}
use Rattle.nf_files.specs.Told.{Told}
use Rattle.pcap_file.specs.declared.form.Endian.{Endian}
use Rattle.pcap_file.specs.declared.form.Form.{Form}
use Rattle.pcap_file.specs.declared.head.Head.{Head}
use Rattle.pcap_file.specs.declared.reader.Next.TheVariants.{Frame, End, Torn}
use Rattle.pcap_file.specs.declared.reader.State.{State}
use Rattle.pcap_file.specs.declared.reader.State.TheVariants.{Going}
use Rattle.pcap_file.specs.Record.{Record, head_of}
use Rattle.pcap_file.specs.Capture.{Capture, is_whole, record_in, capture_from}
use Rattle.pcap_file.specs.Held.{Held, Grows, to_come}
use Rattle.pcap_file.specs.Reading.{Reading, IsOnly, IsReached, Steps, left, left_in}
use Rattle.pcap_file.proofs.Reaching.{step_frame, step_end, step_torn}
use Rattle.pcap_file.proofs.Growing.{none_held_after}
use Rattle.pcap_file.proofs.Steps.{whole}
use Rattle.pcap_file.proofs.Recording.{frame_long, some_there}

abbrev pub held_of : Reading → Held
held_of r = record { file = r.file; bytes = [] }

-- what is left of a capture whose end was not found
going_left : (r : Reading) (grown : Held) (before now : Told) → r.state ≡ Going → Grows (held_of r) grown before now → left r before ≡ option_map (capture_from r.form r.offset) (to_come grown.bytes (now.rest r.file))
going_left r grown before now going grows =
    ap (λ (s : State). left_in s r.form r.offset (before.rest r.file)) going
    ∙ ap (option_map (capture_from r.form r.offset)) (sym (none_held_after [] (before.rest r.file) refl) ∙ sym grows.same_bytes)

pub frame_steps : (r : Reading) (grown : Held) (before now : Told) (q : Record) (size : ℕ) (items : List ℕ) (head : Head)
    → r.state ≡ Going → Grows (held_of r) grown before now → IsReached r.form.order r.offset grown.bytes (now.rest r.file)
    → Some q ≡ cond (is_whole r.form.order r.offset grown.bytes) (Some (record_in r.form.order grown.bytes)) None
    → length grown.bytes ≡ size → size ≡ 16 + length q.frame → items ≡ q.frame → head ≡ head_of r.form.unit q
    → Steps (left r before) (left (record { form = r.form; offset = r.offset + size; file = grown.file; state = r.state }) now) items (Ok (Frame head))
frame_steps r grown before now q size items head going grows reached there all sized frame told =
    let rest = now.rest r.file in
    let new : Reading = record { form = r.form; offset = r.offset + size; file = grown.file; state = r.state } in
    let n = 16 + length q.frame in
    let none : drop n grown.bytes ≡ [] = ap (λ (k : ℕ). drop k grown.bytes) (sym (all ∙ sized)) ∙ drop-length grown.bytes in
    let after : left new now ≡ option_map (capture_from r.form (r.offset + n)) (to_come (drop n grown.bytes) rest) =
    ap (λ (s : State). left_in s r.form (r.offset + size) (now.rest grown.file)) going
    ∙ ap (λ (f : ℕ). option_map (capture_from r.form (r.offset + size)) (now.rest f)) grows.same_file
    ∙ ap (λ (k : ℕ). option_map (capture_from r.form (r.offset + k)) rest) sized
    ∙ ap (option_map (capture_from r.form (r.offset + n))) (sym (none_held_after (drop n grown.bytes) rest none)) in
    let base = step_frame r.form r.offset grown.bytes rest q reached there in
    let one = subst (λ (c : Option Capture). Steps c (option_map (capture_from r.form (r.offset + n)) (to_come (drop n grown.bytes) rest)) q.frame (Ok (Frame (head_of r.form.unit q)))) (sym (going_left r grown before now going grows)) base in
    let two = subst (λ (c : Option Capture). Steps (left r before) c q.frame (Ok (Frame (head_of r.form.unit q)))) (sym after) one in
    let three = subst (λ (xs : List ℕ). Steps (left r before) (left new now) xs (Ok (Frame (head_of r.form.unit q)))) (sym frame) two in
    subst (λ (h : Head). Steps (left r before) (left new now) items (Ok (Frame h))) (sym told) three

-- what stands ahead is no whole record
pub torn_steps : (r : Reading) (grown : Held) (before now : Told) (items : List ℕ) → r.state ≡ Going → Grows (held_of r) grown before now → IsReached r.form.order r.offset grown.bytes (now.rest r.file)
    → None ≡ cond (is_whole r.form.order r.offset grown.bytes) (Some (record_in r.form.order grown.bytes)) None → grown.bytes ≢ []
    → Steps (left r before) (Some (record { form = r.form; records = []; torn = Some r.offset })) items (Ok (Torn r.offset))
torn_steps r grown before now items going grows reached there some =
    subst (λ (c : Option Capture). Steps c (Some (record { form = r.form; records = []; torn = Some r.offset })) items (Ok (Torn r.offset))) (sym (going_left r grown before now going grows))
    (step_torn r.form r.offset grown.bytes (now.rest r.file) items some reached there)

pub end_steps : (r : Reading) (grown : Held) (before now : Told) (items : List ℕ) → r.state ≡ Going → Grows (held_of r) grown before now → IsReached r.form.order r.offset grown.bytes (now.rest r.file) → grown.bytes ≡ []
    → Steps (left r before) (Some (record { form = r.form; records = []; torn = None })) items (Ok End)
end_steps r grown before now items going grows reached none =
    let empty : left r before ≡ option_map (capture_from r.form r.offset) (to_come [] (now.rest r.file)) = going_left r grown before now going grows ∙ ap (λ (xs : List ℕ). option_map (capture_from r.form r.offset) (to_come xs (now.rest r.file))) none in
    subst (λ (c : Option Capture). Steps c (Some (record { form = r.form; records = []; torn = None })) items (Ok End)) (sym empty)
    (step_end r.form r.offset (now.rest r.file) items (subst (λ (xs : List ℕ). IsReached r.form.order r.offset xs (now.rest r.file)) none reached))

-- the record that stands ahead ends before byte 2^64
pub ends_there : (form : Form) (offset : ℕ) (ahead : List ℕ) (q : Record) → Some q ≡ cond (is_whole form.order offset ahead) (Some (record_in form.order ahead)) None → offset + (16 + length q.frame) < 2 ^ 64
ends_there form offset ahead q there =
    let s = some_there (is_whole form.order offset ahead) (record_in form.order ahead) q there in
    let w = whole form.order offset ahead s.0 in
    let long = frame_long form.order offset ahead s.0 in
    subst (λ (x : Record). offset + (16 + length x.frame) < 2 ^ 64) s.1 (omega arith)

-- a record that is whole has all that was taken
pub all_held : (order : Endian) (offset : ℕ) (held : List ℕ) (q : Record) (size : ℕ) → IsOnly order offset held → Some q ≡ cond (is_whole order offset held) (Some (record_in order held)) None → size ≡ 16 + length q.frame → length held ≡ size
all_held order offset held q size only there sized =
    let s = some_there (is_whole order offset held) (record_in order held) q there in
    omega (arith, only s.0, frame_long order offset held s.0, ap (λ (x : Record). length x.frame) s.1)

pub some_held : (held : List ℕ) → false ≡ eqb (length held) 0 → held ≢ []
some_held [] e none = absurd cc
some_held (b ∷ held) e none = absurd cc
