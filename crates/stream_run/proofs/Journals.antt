-- A journal's bytes determine what it tells.
use Rattle.std.proofs.Common.{◌≡◌, ◌≢◌, ℕ, ◌+◌, ◌%◌, ◌^◌, ◌≤◌, ◌<◌, false, eqb, List, [], ◌∷◌, ◌++◌, length, map, get_or, refl, sym, ap, ◌∙◌, append_assoc, arith}
use Rattle.std.specs.Prelude.{codes, decimal}
use Rattle.std.specs.List.{AllByRecursion, flat_map}
use Rattle.std.proofs.lemmas.List.{append_cancel_left, length-append}
use Rattle.std.proofs.lemmas.Bool.{eqb-false}
use Rattle.std.proofs.lemmas.Fmt.{decimal_by_steps, decimal_injective, decimal_nonempty}
use Rattle.nf_base.specs.declared.done.Action.{Action}
use Rattle.nf_base.specs.declared.done.Action.TheVariants.{Skip, Drop, To, Flood}
use Rattle.run_history.specs.Headings.{Heading}
use Rattle.run_history.specs.Line.{action_word, choices_word, more_choices, header_line}
use Rattle.run_history.specs.Reading.{heading_words}
use Rattle.run_history.proofs.Cards.{headings_one, heading_in_line}
use Rattle.stream_run.specs.Runs.{Run, Handled, handled_in}
use Rattle.stream_run.specs.Texts.{line_of}
use Rattle.stream_run.specs.Journals.{Entry, entry_of, entry_line, ActionFits, EntryFits, JournalsAreOne}
use Rattle.stream_run.proofs.Bytes.{are_lines}

-- ---- words and what stands between them

abbrev IsFree : ℕ → List ℕ → Type 0
IsFree sep xs = AllByRecursion (λ (c : ℕ). c ≢ sep) xs

cut : (sep : ℕ) (xs ys r s : List ℕ) → IsFree sep xs → IsFree sep ys → xs ++ (sep ∷ r) ≡ ys ++ (sep ∷ s) → (xs ≡ ys) × (r ≡ s)
cut sep [] [] r s h k e = (refl, cc)
cut sep [] (y ∷ ys) r s h k e = absurd (k.0 cc)
cut sep (x ∷ xs) [] r s h k e = absurd (h.0 cc)
cut sep (x ∷ xs) (y ∷ ys) r s h k e =
    let first : x ≡ y = cc in
    let rest : xs ++ (sep ∷ r) ≡ ys ++ (sep ∷ s) = cc in
    let more = cut sep xs ys r s h.1 k.1 rest in
    (ap (λ (c : ℕ). c ∷ xs) first ∙ ap (λ (t : List ℕ). y ∷ t) more.0, more.1)

free_both : (sep : ℕ) (xs ys : List ℕ) → IsFree sep xs → IsFree sep ys → IsFree sep (xs ++ ys)
free_both sep [] ys h k = k
free_both sep (x ∷ xs) ys h k = (h.0, free_both sep xs ys h.1 k)

abbrev AreDigits : List ℕ → Type 0
AreDigits xs = AllByRecursion (λ (c : ℕ). (48 ≤ c) × (c < 58)) xs

digits_push : (xs : List ℕ) (c : ℕ) → AreDigits xs → 48 ≤ c → c < 58 → AreDigits (xs ++ c ∷ [])
digits_push [] c h a b = ((a, b), tt)
digits_push (x ∷ xs) c h a b = (h.0, digits_push xs c h.1 a b)

digits_of : (n : ℕ) → n < 2 ^ 64 → AreDigits (decimal n)
digits_of n lt = decimal_by_steps (λ n ds. AreDigits ds) (λ n small. ((omega arith, omega arith), tt)) (λ n ds ge h. digits_push ds (48 + n % 10) h (omega arith) (omega arith)) n lt

free_digits : (sep : ℕ) (xs : List ℕ) → sep < 48 → AreDigits xs → IsFree sep xs
free_digits sep [] lt h = tt
free_digits sep (x ∷ xs) lt h = ((λ e. absurd (omega (arith, h.0.0))), free_digits sep xs lt h.1)

-- digits, and what can't go on with them
abbrev IsStop : List ℕ → Type 0
IsStop [] = Unit {0}
IsStop (c ∷ cs) = c < 48

span : (xs ys r s : List ℕ) → AreDigits xs → AreDigits ys → IsStop r → IsStop s → xs ++ r ≡ ys ++ s → (xs ≡ ys) × (r ≡ s)
span [] [] r s h k p q e = (refl, e)
span [] (y ∷ ys) [] s h k p q e = absurd cc
span [] (y ∷ ys) (c ∷ r) s h k p q e = let same : c ≡ y = cc in absurd (omega (arith, k.0.0, p))
span (x ∷ xs) [] r [] h k p q e = absurd cc
span (x ∷ xs) [] r (c ∷ s) h k p q e = let same : x ≡ c = cc in absurd (omega (arith, h.0.0, q))
span (x ∷ xs) (y ∷ ys) r s h k p q e =
    let first : x ≡ y = cc in
    let rest : xs ++ r ≡ ys ++ s = cc in
    let more = span xs ys r s h.1 k.1 p q rest in
    (ap (λ (c : ℕ). c ∷ xs) first ∙ ap (λ (t : List ℕ). y ∷ t) more.0, more.1)

-- ---- choices

abbrev AreShort : List ℕ → Type 0
AreShort picks = AllByRecursion (λ (i : ℕ). i < 2 ^ 64) picks

more_stop : (picks : List ℕ) → IsStop (more_choices picks)
more_stop [] = tt
more_stop (i ∷ picks) = omega arith

more_free : (picks : List ℕ) → AreShort picks → IsFree 10 (more_choices picks)
more_free [] h = tt
more_free (i ∷ picks) h = ((λ e. absurd (omega arith)), free_both 10 (decimal i) (more_choices picks) (free_digits 10 (decimal i) (omega arith) (digits_of i h.0)) (more_free picks h.1))

choices_free : (picks : List ℕ) → AreShort picks → IsFree 10 (choices_word picks)
choices_free [] h = ((λ e. absurd (omega arith)), tt)
choices_free (i ∷ picks) h = free_both 10 (decimal i) (more_choices picks) (free_digits 10 (decimal i) (omega arith) (digits_of i h.0)) (more_free picks h.1)

more_one : (a b : List ℕ) → AreShort a → AreShort b → more_choices a ≡ more_choices b → a ≡ b
more_one [] [] h k e = refl
more_one [] (j ∷ b) h k e = absurd cc
more_one (i ∷ a) [] h k e = absurd cc
more_one (i ∷ a) (j ∷ b) h k e =
    let rest : decimal i ++ more_choices a ≡ decimal j ++ more_choices b = cc in
    let two = span (decimal i) (decimal j) (more_choices a) (more_choices b) (digits_of i h.0) (digits_of j k.0) (more_stop a) (more_stop b) rest in
    ap (λ (n : ℕ). n ∷ a) (decimal_injective i j h.0 k.0 two.0) ∙ ap (λ (t : List ℕ). j ∷ t) (more_one a b h.1 k.1 two.1)

first_digit : (ds r : List ℕ) → AreDigits ds → 0 < length ds → 48 ≤ get_or (ds ++ r) 0 0
first_digit [] r h lt = absurd (omega arith)
first_digit (d ∷ ds) r h lt = h.0.0

choices_one : (a b : List ℕ) → AreShort a → AreShort b → choices_word a ≡ choices_word b → a ≡ b
choices_one [] [] h k e = refl
choices_one [] (j ∷ b) h k e = absurd (omega (arith, first_digit (decimal j) (more_choices b) (digits_of j k.0) (decimal_nonempty j k.0), ap (λ (t : List ℕ). get_or t 0 0) e))
choices_one (i ∷ a) [] h k e = absurd (omega (arith, first_digit (decimal i) (more_choices a) (digits_of i h.0) (decimal_nonempty i h.0), ap (λ (t : List ℕ). get_or t 0 0) e))
choices_one (i ∷ a) (j ∷ b) h k e =
    let two = span (decimal i) (decimal j) (more_choices a) (more_choices b) (digits_of i h.0) (digits_of j k.0) (more_stop a) (more_stop b) e in
    ap (λ (n : ℕ). n ∷ a) (decimal_injective i j h.0 k.0 two.0) ∙ ap (λ (t : List ℕ). j ∷ t) (more_one a b h.1 k.1 two.1)

-- ---- actions and modes

abbrev first_byte : List ℕ → ℕ
first_byte xs = get_or xs 0 0

other_byte : (c sep : ℕ) → eqb c sep ≡ false → c ≢ sep
other_byte c sep e = eqb-false c sep e

action_free : (a : Action) → ActionFits a → IsFree 32 (action_word a)
action_free Skip h = (other_byte 115 32 refl, (other_byte 107 32 refl, (other_byte 105 32 refl, (other_byte 112 32 refl, tt))))
action_free Drop h = (other_byte 100 32 refl, (other_byte 114 32 refl, (other_byte 111 32 refl, (other_byte 112 32 refl, tt))))
action_free Flood h = (other_byte 102 32 refl, (other_byte 108 32 refl, (other_byte 111 32 refl, (other_byte 111 32 refl, (other_byte 100 32 refl, tt)))))
action_free (To port) h = (other_byte 116 32 refl, (other_byte 111 32 refl, (other_byte 58 32 refl, free_digits 32 (decimal port) (omega arith) (digits_of port h))))

clash : {A : Type 0} (xs ys : List ℕ) → xs ≡ ys → eqb (first_byte xs) (first_byte ys) ≡ false → A
clash xs ys e ne = absurd (eqb-false (first_byte xs) (first_byte ys) ne (ap first_byte e))

action_one : (a b : Action) → ActionFits a → ActionFits b → action_word a ≡ action_word b → a ≡ b
action_one Skip Skip h k e = refl
action_one Skip Drop h k e = clash _ _ e refl
action_one Skip Flood h k e = clash _ _ e refl
action_one Skip (To q) h k e = clash _ _ e refl
action_one Drop Skip h k e = clash _ _ e refl
action_one Drop Drop h k e = refl
action_one Drop Flood h k e = clash _ _ e refl
action_one Drop (To q) h k e = clash _ _ e refl
action_one Flood Skip h k e = clash _ _ e refl
action_one Flood Drop h k e = clash _ _ e refl
action_one Flood Flood h k e = refl
action_one Flood (To q) h k e = clash _ _ e refl
action_one (To p) Skip h k e = clash _ _ e refl
action_one (To p) Drop h k e = clash _ _ e refl
action_one (To p) Flood h k e = clash _ _ e refl
action_one (To p) (To q) h k e = ap To (decimal_injective p q h k (append_cancel_left (codes "to:") (decimal p) (decimal q) e))

-- ---- lines

abbrev right_line : Entry → List ℕ → List ℕ
right_line e rest = decimal e.id.port ++ (32 ∷ (decimal e.id.seq ++ (32 ∷ (decimal e.worker ++ (32 ∷ (action_word e.action ++ (32 ∷ (choices_word e.picks ++ (10 ∷ rest)))))))))

line_right : (e : Entry) (rest : List ℕ) → entry_line e ++ rest ≡ right_line e rest
line_right e rest = simp append_assoc

entry_same : (p q n m v w : ℕ) (a b : Action) (c d : List ℕ) → p ≡ q → n ≡ m → v ≡ w → a ≡ b → c ≡ d
    → (let x : Entry = record { id = record { port = p; seq = n }; worker = v; action = a; picks = c } in x) ≡ record { id = record { port = q; seq = m }; worker = w; action = b; picks = d }
entry_same p q n m v w a b c d e f g h i = rw (e, f, g, h, i) refl

two_lines : (e f : Entry) (r s : List ℕ) → EntryFits e → EntryFits f → right_line e r ≡ right_line f s → (e ≡ f) × (r ≡ s)
two_lines e f r s h k eq =
    let ports = cut 32 (decimal e.id.port) (decimal f.id.port) _ _ (free_digits 32 (decimal e.id.port) (omega arith) (digits_of e.id.port h.port)) (free_digits 32 (decimal f.id.port) (omega arith) (digits_of f.id.port k.port)) eq in
    let seqs = cut 32 (decimal e.id.seq) (decimal f.id.seq) _ _ (free_digits 32 (decimal e.id.seq) (omega arith) (digits_of e.id.seq h.seq)) (free_digits 32 (decimal f.id.seq) (omega arith) (digits_of f.id.seq k.seq)) ports.1 in
    let workers = cut 32 (decimal e.worker) (decimal f.worker) _ _ (free_digits 32 (decimal e.worker) (omega arith) (digits_of e.worker h.worker)) (free_digits 32 (decimal f.worker) (omega arith) (digits_of f.worker k.worker)) seqs.1 in
    let actions = cut 32 (action_word e.action) (action_word f.action) _ _ (action_free e.action h.action) (action_free f.action k.action) workers.1 in
    let picks = cut 10 (choices_word e.picks) (choices_word f.picks) r s (choices_free e.picks h.picks) (choices_free f.picks k.picks) actions.1 in (
      entry_same e.id.port f.id.port e.id.seq f.id.seq e.worker f.worker e.action f.action e.picks f.picks
          (decimal_injective e.id.port f.id.port h.port k.port ports.0) (decimal_injective e.id.seq f.id.seq h.seq k.seq seqs.0) (decimal_injective e.worker f.worker h.worker k.worker workers.0)
          (action_one e.action f.action h.action k.action actions.0) (choices_one e.picks f.picks h.picks k.picks picks.0),
      picks.1,
    )

some_line : (e : Entry) (rest : List ℕ) → EntryFits e → [] ≡ entry_line e ++ rest → ⊥
some_line e rest h eq =
    let parts = length-append (decimal e.id.port) (32 ∷ (decimal e.id.seq ++ (32 ∷ (decimal e.worker ++ (32 ∷ (action_word e.action ++ (32 ∷ (choices_word e.picks ++ (10 ∷ rest))))))))) in
    omega (arith, parts, decimal_nonempty e.id.port h.port, ap (λ (t : List ℕ). length t) (eq ∙ line_right e rest))

lines_one : (es fs : List Entry) → AllByRecursion EntryFits es → AllByRecursion EntryFits fs → flat_map entry_line es ≡ flat_map entry_line fs → es ≡ fs
lines_one [] [] h k e = refl
lines_one [] (y ∷ fs) h k e = absurd (some_line y (flat_map entry_line fs) k.0 e)
lines_one (x ∷ es) [] h k e = absurd (some_line x (flat_map entry_line es) h.0 (sym e))
lines_one (x ∷ es) (y ∷ fs) h k e =
    let two = two_lines x y (flat_map entry_line es) (flat_map entry_line fs) h.0 k.0 (sym (line_right x (flat_map entry_line es)) ∙ e ∙ line_right y (flat_map entry_line fs)) in
    ap (λ (t : Entry). t ∷ es) two.0 ∙ ap (λ (t : List Entry). y ∷ t) (lines_one es fs h.1 k.1 two.1)

lines_of : (hs : List Handled) → flat_map line_of hs ≡ flat_map entry_line (map entry_of hs)
lines_of [] = refl
lines_of (h ∷ hs) = ap (λ (t : List ℕ). line_of h ++ t) (lines_of hs)

-- ---- whole journals

abbrev heading_of : Run → Heading
heading_of r = record { mode = r.mode; workers = r.workers; card = r.card }

header_right : (h : Heading) (rest : List ℕ) → header_line h.mode h.workers h.card ++ rest ≡ heading_words h ++ (10 ∷ rest)
header_right h rest = simp append_assoc

pub journals_one : JournalsAreOne
journals_one a b r s h k e =
    let hs = flat_map line_of (handled_in r) in
    let ks = flat_map line_of (handled_in s) in
    let all : heading_words (heading_of r) ++ (10 ∷ hs) ≡ heading_words (heading_of s) ++ (10 ∷ ks) =
    sym (header_right (heading_of r) hs) ∙ sym (are_lines a r) ∙ e ∙ are_lines b s ∙ header_right (heading_of s) ks in
    let two = cut 10 (heading_words (heading_of r)) (heading_words (heading_of s)) hs ks (heading_in_line (heading_of r) h.workers) (heading_in_line (heading_of s) k.workers) all in
    let same = headings_one (heading_of r) (heading_of s) h.workers k.workers two.0 in (
      ap (λ (x : Heading). x.mode) same,
      ap (λ (x : Heading). x.workers) same,
      ap (λ (x : Heading). x.card) same,
      lines_one (map entry_of (handled_in r)) (map entry_of (handled_in s)) h.entries k.entries (sym (lines_of (handled_in r)) ∙ two.1 ∙ lines_of (handled_in s)),
    )
