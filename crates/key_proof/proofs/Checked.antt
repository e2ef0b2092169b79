-- What is due behind keys.
use Rattle.std.proofs.Common.{◌≡◌, ℕ, ◌+◌, ◌-◌, ◌*◌, true, false, refl, sym, ap, ◌∙◌, Bool, List, [], ◌∷◌, length, map, drop, Option, Some, None, arith}
use Rattle.std.specs.List.{range_with_len}
use Rattle.std.proofs.lemmas.List.FromFn.{length-map-range_with_len}
use Rattle.nf_base.specs.declared.keys.Keys.{Keys}
use Rattle.nf_base.specs.Text.{Function}
use Rattle.gf2_solve.specs.Sums.{bit}
use Rattle.key_rows.specs.declared.place.Object.{Object}
use Rattle.key_rows.specs.Rows.{bits_of}
use Rattle.key_rows.specs.Systems.{default_bits}
use Rattle.shard_rules.specs.Served.{own_plan}
use Rattle.certificate_laws.specs.Due.{Due, nots}
use Rattle.certificate_laws.specs.Certificates.{counted}
use Rattle.certificate_text.specs.declared.heading.Heading.{Heading}
use Rattle.certificate_text.specs.Pieces.{lines_of}
use Rattle.certificate_text.specs.Lines.{heading_in}
use Rattle.key_proof.specs.declared.reading.Cursor.{Cursor}
use Rattle.key_proof.specs.declared.subject.Subject.{Subject}
use Rattle.key_proof.specs.Judging.{wrong_port}
use Rattle.key_proof.specs.Faults.{ports_of, positions_in, spans_in, subject_of, trees_fault, keys_with, due_behind, key_or, keys_fault, proof_fault, rows_fault, heading_then, lines_fault, first_wrong}
use Rattle.key_proof.specs.Reading.{rest_at, AreRowsRead, AreKeysRead}

pub map_long : (f : ℕ → Bool) (n : ℕ) (xs : List Bool) → xs ≡ map f (range_with_len 0 n) → length xs ≡ n
map_long f n xs is = ap length is ∙ length-map-range_with_len f 0 n

pub due_is : (s : Subject) (keys : Keys) (own wanted counts : List Bool) (n : ℕ) (due : List Due) → n ≡ ports_of s → own ≡ bits_of n keys → wanted ≡ default_bits (ports_of s)
    → counts ≡ counted (positions_in s) (ports_of s) → length own ≡ 319 * n → due ≡ nots (bit counts) (length own) wanted own (length own) 0 → due ≡ due_behind s keys
due_is s keys own wanted counts n due same one two three long is =
    is
    ∙ ap (λ k. nots (bit counts) k wanted own k 0) (long ∙ ap (λ m. 319 * m) same)
    ∙ ap (λ (c : List Bool). nots (bit c) (319 * ports_of s) wanted own (319 * ports_of s) 0) three
    ∙ ap (λ (w : List Bool). nots (bit (counted (positions_in s) (ports_of s))) (319 * ports_of s) w own (319 * ports_of s) 0) two
    ∙ ap (λ (x : List Bool). nots (bit (counted (positions_in s) (ports_of s))) (319 * ports_of s) (default_bits (ports_of s)) x (319 * ports_of s) 0) (one ∙ ap (λ m. bits_of m keys) same)

-- ---- keys

pub keys_wrong : (objects : List Object) (s : Subject) (h : Heading) (rows : List (List ℕ)) (text : List ℕ) (start here : Cursor) (keys : List (List ℕ)) → AreKeysRead s h text start here keys false
    → Some here.number ≡ keys_fault objects s h rows start.number [] (ports_of s) (rest_at text start)
keys_wrong objects s h rows text start here keys read = sym (read objects rows)

pub port_wrong : (objects : List Object) (s : Subject) (h : Heading) (rows : List (List ℕ)) (text : List ℕ) (start here : Cursor) (keys : List (List ℕ)) (port number : ℕ) → AreKeysRead s h text start here keys true
    → Some port ≡ wrong_port objects h.card s.positions (keys_with h keys) → number ≡ here.number - ports_of s + port
    → Some number ≡ keys_fault objects s h rows start.number [] (ports_of s) (rest_at text start)
port_wrong objects s h rows text start here keys port number read wrong is =
    sym (read objects rows
    ∙ ap (λ o. key_or o here.number (ports_of s) (trees_fault s h rows (spans_in objects s h) here.number (due_behind s (keys_with h keys)) (rest_at text here))) (sym wrong)
    ∙ ap Some (sym is))

pub keys_right : (objects : List Object) (s : Subject) (h : Heading) (rows : List (List ℕ)) (text : List ℕ) (start here : Cursor) (keys : List (List ℕ)) (fault : Option ℕ) → AreKeysRead s h text start here keys true
    → None ≡ wrong_port objects h.card s.positions (keys_with h keys)
    → fault ≡ trees_fault s h rows (spans_in objects s h) here.number (due_behind s (keys_with h keys)) (rest_at text here)
    → fault ≡ keys_fault objects s h rows start.number [] (ports_of s) (rest_at text start)
keys_right objects s h rows text start here keys fault read none is =
    is
    ∙ sym (read objects rows
    ∙ ap (λ o. key_or o here.number (ports_of s) (trees_fault s h rows (spans_in objects s h) here.number (due_behind s (keys_with h keys)) (rest_at text here))) (sym none))

-- ---- rows

pub rows_wrong : (objects : List Object) (s : Subject) (h : Heading) (text : List ℕ) (start here : Cursor) (rows : List (List ℕ)) → AreRowsRead s h text start here rows false
    → Some here.number ≡ rows_fault objects s h [] start.number (rest_at text start)
rows_wrong objects s h text start here rows read = sym (read objects)

pub rows_right : (objects : List Object) (s : Subject) (h : Heading) (text : List ℕ) (start here : Cursor) (rows : List (List ℕ)) (fault : Option ℕ) → AreRowsRead s h text start here rows true
    → fault ≡ proof_fault objects s h rows here.number (rest_at text here) → fault ≡ rows_fault objects s h [] start.number (rest_at text start)
rows_right objects s h text start here rows fault read is = is ∙ sym (read objects)

-- ---- the whole

pub no_line : (f : Function) (text : List ℕ) → lines_of (drop 0 text) ≡ [] → Some 1 ≡ first_wrong f text
no_line f text is = sym (ap (lines_fault f) is)

pub no_heading : (f : Function) (text line : List ℕ) (more : List (List ℕ)) → lines_of (drop 0 text) ≡ line ∷ more → None ≡ heading_in line → Some 1 ≡ first_wrong f text
no_heading f text line more is none =
    sym (ap (lines_fault f) is ∙ ap (λ o. heading_then o (λ h. rows_fault (own_plan f).objects (subject_of f) h [] 2 more)) (sym none))

pub headed : (f : Function) (text line : List ℕ) (h : Heading) (cursor : Cursor) (objects : List Object) (s : Subject) (fault : Option ℕ) → lines_of (drop 0 text) ≡ line ∷ lines_of (drop (0 + length line + 1) text)
    → Some h ≡ heading_in line → cursor.at ≡ length line + 1 → cursor.number ≡ 2 → objects ≡ (own_plan f).objects → s ≡ subject_of f
    → fault ≡ rows_fault objects s h [] cursor.number (rest_at text cursor) → fault ≡ first_wrong f text
headed f text line h cursor objects s fault is found at number own same fault_is =
    let there : 0 + length line + 1 ≡ cursor.at = omega (arith, at) in
    fault_is
    ∙ ap (λ n. rows_fault objects s h [] n (rest_at text cursor)) number
    ∙ ap (λ (o : List Object). rows_fault o s h [] 2 (rest_at text cursor)) own
    ∙ ap (λ t. rows_fault (own_plan f).objects t h [] 2 (rest_at text cursor)) same
    ∙ sym (ap (lines_fault f) is
    ∙ ap (λ o. heading_then o (λ g. rows_fault (own_plan f).objects (subject_of f) g [] 2 (lines_of (drop (0 + length line + 1) text)))) (sym found)
    ∙ ap (λ k. rows_fault (own_plan f).objects (subject_of f) h [] 2 (lines_of (drop k text))) there)
