-- What the first line tells of a card, and that it tells the whole heading.
use Rattle.std.proofs.Common.{◌≡◌, ◌≢◌, ℕ, ◌<◌, ◌^◌, List, ◌∷◌, ◌++◌, get_or, refl, sym, ap, ◌∙◌, append-nil, arith}
use Rattle.std.specs.Prelude.{Option, Some, None, MatchOption, codes, decimal}
use Rattle.std.proofs.lemmas.List.{append_cancel_left}
use Rattle.std.proofs.lemmas.Fmt.{decimal_injective}
use Rattle.nf_base.specs.declared.card.TableSize.{TableSize}
use Rattle.nf_base.specs.declared.card.TableSize.TheVariants.{Entries128, Entries512}
use Rattle.nf_base.specs.declared.card.KeySize.{KeySize}
use Rattle.nf_base.specs.declared.card.KeySize.TheVariants.{Bytes40, Bytes52}
use Rattle.nf_base.specs.declared.card.Card.{Card}
use Rattle.nf_base.specs.Cards.{entries, key_bytes, usual_card}
use Rattle.run_history.specs.declared.version.Version.{Version}
use Rattle.run_history.specs.declared.version.Version.TheVariants.{First, Second}
use Rattle.run_history.specs.declared.line.Mode.{Mode}
use Rattle.run_history.specs.Headings.{Heading, version_of}
use Rattle.run_history.specs.Line.{journal_title, card_words, sizes_words, mode_word}
use Rattle.run_history.specs.Lines.{IsShort}
use Rattle.run_history.specs.Reading.{IsFree, Reads, IsKey, table_word, key_word, IsOtherCard, heading_end, heading_words}
use Rattle.run_history.proofs.Words.{same_cut, free_both, free_by_test, long_free, number_free, number_one, mode_free, mode_one, mode_in_line}
use Rattle.run_history.proofs.Cutting.{behind_one}

-- ---- sizes

pub entries_short : (t : TableSize) → IsShort (entries t)
entries_short Entries128 = omega arith
entries_short Entries512 = omega arith

pub bytes_short : (k : KeySize) → IsShort (key_bytes k)
bytes_short Bytes40 = omega arith
bytes_short Bytes52 = omega arith

entries_one : (s t : TableSize) → entries s ≡ entries t → s ≡ t
entries_one Entries128 Entries128 e = refl
entries_one Entries128 Entries512 e = absurd (omega arith)
entries_one Entries512 Entries128 e = absurd (omega arith)
entries_one Entries512 Entries512 e = refl

bytes_one : (k l : KeySize) → key_bytes k ≡ key_bytes l → k ≡ l
bytes_one Bytes40 Bytes40 e = refl
bytes_one Bytes40 Bytes52 e = absurd (omega arith)
bytes_one Bytes52 Bytes40 e = absurd (omega arith)
bytes_one Bytes52 Bytes52 e = refl

pub table_free : (t : TableSize) → IsFree 32 (table_word t)
table_free t = number_free 32 (entries t) (omega arith) (entries_short t)

card_same : (s t : TableSize) (k l : KeySize) → s ≡ t → k ≡ l → (let c : Card = record { table = s; key = k } in c) ≡ record { table = t; key = l }
card_same s t k l p q = rw (p, q) refl

-- the sizes of two cards are spelled in two ways
pub cards_one : (c d : Card) → card_words c ≡ card_words d → c ≡ d
cards_one c d e =
    let two = same_cut 32 (table_word c.table) (table_word d.table) (key_word c.key) (key_word d.key) (table_free c.table) (table_free d.table) e in
    card_same c.table d.table c.key d.key
    (entries_one c.table d.table (number_one _ _ (entries_short c.table) (entries_short d.table) two.0))
    (bytes_one c.key d.key (number_one _ _ (bytes_short c.key) (bytes_short d.key) two.1))

-- ---- the words of a card, read

pub no_such_table : (bytes rest : List ℕ) (n : ℕ) → IsShort n → decimal n ++ 32 ∷ rest ≡ bytes → ((t : TableSize) → entries t ≢ n) → (t : TableSize) (later : List ℕ) → table_word t ++ 32 ∷ later ≢ bytes
no_such_table bytes rest n small cut none t later e =
    none t (number_one _ _ (entries_short t) small (same_cut 32 (table_word t) (decimal n) later rest (table_free t) (number_free 32 n (omega arith) small) (e ∙ sym cut)).0)

pub key_read : (bytes : List ℕ) (n : ℕ) (r : Option KeySize) → IsShort n → decimal n ≡ bytes → MatchOption r ((k : KeySize) → key_bytes k ≢ n) (λ k. key_bytes k ≡ n) → Reads key_word IsKey bytes r
key_read bytes n None small is none = λ k h e. none k (number_one _ _ (bytes_short k) small (e ∙ sym is))
key_read bytes n (Some k) small is some = (tt, ap decimal some ∙ is)

pub no_key : (words rest : List ℕ) (t : TableSize) → table_word t ++ 32 ∷ rest ≡ words → ((k : KeySize) → Unit {0} → key_word k ≢ rest) → (c : Card) → IsOtherCard c → card_words c ≢ words
no_key words rest t cut none c h e = none c.key tt (behind_one 32 words (table_word c.table) (key_word c.key) (table_word t) rest (table_free c.table) (table_free t) cut e)

pub card_spelled : (words rest : List ℕ) (card : Card) → table_word card.table ++ 32 ∷ rest ≡ words → key_word card.key ≡ rest → card_words card ≡ words
card_spelled words rest card cut is = ap (λ (t : List ℕ). table_word card.table ++ 32 ∷ t) is ∙ cut

pub usual_is_none : (words : List ℕ) (card : Card) → card_words card ≡ words → version_of card ≡ First → (c : Card) → IsOtherCard c → card_words c ≢ words
usual_is_none words card is usual c h e =
    let same : c ≡ card = cards_one c card (e ∙ sym is) in
    absurd (let no : First ≡ Second = sym usual ∙ sym (ap version_of same) ∙ h in cc)

-- ---- headings

usual_of : (t : TableSize) (k : KeySize) → version_of (record { table = t; key = k }) ≡ First → (let c : Card = record { table = t; key = k } in c) ≡ usual_card
usual_of Entries128 Bytes40 e = refl
usual_of Entries128 Bytes52 e = absurd cc
usual_of Entries512 k e = absurd cc

-- version 1 tells one card
usual_one : (c : Card) → version_of c ≡ First → c ≡ usual_card
usual_one c e = usual_of c.table c.key e

heading_same : (a b : Mode) (v w : ℕ) (c d : Card) → a ≡ b → v ≡ w → c ≡ d → (let h : Heading = record { mode = a; workers = v; card = c } in h) ≡ record { mode = b; workers = w; card = d }
heading_same a b v w c d p q r = rw (p, q, r) refl

counts_one : (version : Version) (v w : ℕ) (c d : Card) → version_of c ≡ version → version_of d ≡ version → v < 2 ^ 64 → w < 2 ^ 64 → decimal v ++ sizes_words version c ≡ decimal w ++ sizes_words version d → (v ≡ w) × (c ≡ d)
counts_one First v w c d p q small less e =
    (decimal_injective v w small less (sym (append-nil (decimal v)) ∙ e ∙ append-nil (decimal w)), usual_one c p ∙ sym (usual_one d q))
counts_one Second v w c d p q small less e =
    let two = same_cut 32 (decimal v) (decimal w) (card_words c) (card_words d) (long_free 32 v (omega arith) small) (long_free 32 w (omega arith) less) e in
    (decimal_injective v w small less two.0, cards_one c d two.1)

-- what stands behind titles of one version tells one heading
pub ends_one : (version : Version) (g h : Heading) → version_of g.card ≡ version → version_of h.card ≡ version → g.workers < 2 ^ 64 → h.workers < 2 ^ 64 → heading_end g ≡ heading_end h → g ≡ h
ends_one version g h p q small less e =
    let two = same_cut 32 (mode_word g.mode) (mode_word h.mode) _ _ (mode_free g.mode) (mode_free h.mode) e in
    let all : decimal g.workers ++ sizes_words version g.card ≡ decimal h.workers ++ sizes_words version h.card =
    ap (λ (v : Version). decimal g.workers ++ sizes_words v g.card) (sym p) ∙ two.1 ∙ ap (λ (v : Version). decimal h.workers ++ sizes_words v h.card) q in
    let counts = counts_one version g.workers h.workers g.card h.card p q small less all in
    heading_same g.mode h.mode g.workers h.workers g.card h.card (mode_one g.mode h.mode two.0) counts.0 counts.1

pub title_first : (version : Version) (rest : List ℕ) → get_or (journal_title version ++ rest) 0 0 ≡ 109
unfolding journal_title
title_first First rest = refl
title_first Second rest = refl

pub titles_one : (v w : Version) (r s : List ℕ) → journal_title v ++ r ≡ journal_title w ++ s → v ≡ w
unfolding journal_title
titles_one First First r s e = refl
titles_one First Second r s e = absurd (omega (arith, ap (λ (t : List ℕ). get_or t 16 0) e))
titles_one Second First r s e = absurd (omega (arith, ap (λ (t : List ℕ). get_or t 16 0) e))
titles_one Second Second r s e = refl

-- the words of a first line tell its heading
pub headings_one : (g h : Heading) → g.workers < 2 ^ 64 → h.workers < 2 ^ 64 → heading_words g ≡ heading_words h → g ≡ h
headings_one g h small less e =
    let version = version_of h.card in
    let same : version_of g.card ≡ version = titles_one _ _ (heading_end g) (heading_end h) e in
    ends_one version g h same refl small less
    (append_cancel_left (journal_title version) _ _ (ap (λ (v : Version). journal_title v ++ heading_end g) (sym same) ∙ e))

-- ---- one line

title_in_line : (version : Version) → IsFree 10 (journal_title version)
unfolding journal_title
title_in_line First = free_by_test 10 (codes "maestro journal 1 ") refl
title_in_line Second = free_by_test 10 (codes "maestro journal 2 ") refl

space : (rest : List ℕ) → IsFree 10 rest → IsFree 10 (32 ∷ rest)
space rest h = ((λ e. absurd (omega arith)), h)

sizes_in_line : (version : Version) (c : Card) → IsFree 10 (sizes_words version c)
sizes_in_line First c = tt
sizes_in_line Second c =
    space (card_words c)
    (free_both 10 (table_word c.table) (32 ∷ key_word c.key) (number_free 10 (entries c.table) (omega arith) (entries_short c.table))
    (space (key_word c.key) (number_free 10 (key_bytes c.key) (omega arith) (bytes_short c.key))))

pub heading_in_line : (h : Heading) → h.workers < 2 ^ 64 → IsFree 10 (heading_words h)
heading_in_line h small =
    let version = version_of h.card in
    let counts : List ℕ = decimal h.workers ++ sizes_words version h.card in
    free_both 10 (journal_title version) (mode_word h.mode ++ 32 ∷ counts) (title_in_line version)
    (free_both 10 (mode_word h.mode) (32 ∷ counts) (mode_in_line h.mode)
    (space counts (free_both 10 (decimal h.workers) (sizes_words version h.card) (long_free 10 h.workers (omega arith) small) (sizes_in_line version h.card))))
