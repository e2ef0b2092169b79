-- What reading a line answers.
use Rattle.std.proofs.Common.{◌≡◌, ◌≢◌, ◌↔◌, ℕ, List, [], ◌∷◌, ◌++◌, refl, sym, ap, subst, ◌∙◌, append-nil, arith}
use Rattle.std.specs.Prelude.{Option, Some, None, IfSome, MatchOption, decimal}
use Rattle.std.proofs.lemmas.List.{append_cancel_left}
use denote.Ref.{Bor}
use Rattle.nf_base.specs.declared.card.Card.{Card}
use Rattle.nf_base.specs.Cards.{usual_card}
use Rattle.run_history.specs.declared.version.Version.{Version}
use Rattle.run_history.specs.declared.version.Version.TheVariants.{First, Second}
use Rattle.run_history.specs.declared.line.Mode.{Mode}
use Rattle.run_history.specs.declared.line.JournalLine.{JournalLine}
use Rattle.run_history.specs.Headings.{Heading, IsHeading, version_of}
use Rattle.run_history.specs.Line.{journal_title, card_words, sizes_words, mode_word, line_bytes}
use Rattle.run_history.specs.Lines.{IsShort, IsLine}
use Rattle.run_history.specs.Reading.{Reads, heading_end, heading_words, IsOtherCard, IsUsual, IsOther, line_words, IsBehindTitle, IsEnded}
use Rattle.run_history.proofs.Words.{same_cut, mode_free}
use Rattle.run_history.proofs.Fronts.{number_behind}
use Rattle.run_history.proofs.Cards.{ends_one, titles_one}
use Rattle.run_history.proofs.Unique.{line_ends, words_one, words_of_bytes}

abbrev heading_of : Mode → ℕ → Card → Heading
heading_of mode workers card = record { mode = mode; workers = workers; card = card }

-- a heading of version 1, or none
pub usual_read : (words behind : List ℕ) (mode : Mode) (workers : ℕ) (r : Option Heading) → mode_word mode ++ 32 ∷ behind ≡ words → IsShort workers → decimal workers ≡ behind
    → (let h = heading_of mode workers usual_card in MatchOption r (IsHeading h → ⊥) (λ g. (g ≡ h) × IsHeading h))
    → Reads heading_end IsUsual words r
usual_read words behind mode workers r cut small is told = by r told
  where
    whole : Heading
    whole = heading_of mode workers usual_card

    spelled : heading_end whole ≡ words
    spelled = ap (λ (t : List ℕ). mode_word mode ++ 32 ∷ t) (append-nil (decimal workers) ∙ is) ∙ cut

    by : (r : Option Heading) → MatchOption r (IsHeading whole → ⊥) (λ g. (g ≡ whole) × IsHeading whole) → Reads heading_end IsUsual words r
    by None none = λ a h e. none (subst IsHeading (ends_one First a whole h.usual refl (omega (arith, h.heading.most)) (omega (arith, small)) (e ∙ sym spelled)) h.heading)
    by (Some g) some = (
      record { heading = subst IsHeading (sym some.0) some.1; usual = ap (λ (h : Heading). version_of h.card) some.0 },
      ap heading_end some.0 ∙ spelled,
    )

-- what stands behind the mode in version 2
behind_mode : (words rest : List ℕ) (mode : Mode) → mode_word mode ++ 32 ∷ rest ≡ words → (a : Heading) → IsOther a → heading_end a ≡ words → decimal a.workers ++ 32 ∷ card_words a.card ≡ rest
behind_mode words rest mode cut a h e =
    ap (λ (v : Version). decimal a.workers ++ sizes_words v a.card) (sym h.other)
    ∙ (same_cut 32 (mode_word a.mode) (mode_word mode) _ rest (mode_free a.mode) (mode_free mode) (e ∙ sym cut)).1

pub no_workers : (words rest : List ℕ) (mode : Mode) → mode_word mode ++ 32 ∷ rest ≡ words → ((n : ℕ) (later : List ℕ) → IsShort n → decimal n ++ 32 ∷ later ≢ rest)
    → (a : Heading) → IsOther a → heading_end a ≢ words
no_workers words rest mode cut none a h e = none a.workers (card_words a.card) (omega (arith, h.heading.most)) (behind_mode words rest mode cut a h e)

pub no_card : (words rest behind : List ℕ) (mode : Mode) (workers : ℕ) → mode_word mode ++ 32 ∷ rest ≡ words → IsShort workers → decimal workers ++ 32 ∷ behind ≡ rest → ((c : Card) → IsOtherCard c → card_words c ≢ behind)
    → (a : Heading) → IsOther a → heading_end a ≢ words
no_card words rest behind mode workers cut small next none a h e =
    none a.card h.other (number_behind rest a.workers workers (card_words a.card) behind (omega (arith, h.heading.most)) small next (behind_mode words rest mode cut a h e))

-- a heading of version 2, or none
pub other_read : (words rest behind : List ℕ) (mode : Mode) (workers : ℕ) (card : Card) (r : Option Heading) → mode_word mode ++ 32 ∷ rest ≡ words → IsShort workers → decimal workers ++ 32 ∷ behind ≡ rest
    → IsOtherCard card → card_words card ≡ behind
    → (let h = heading_of mode workers card in MatchOption r (IsHeading h → ⊥) (λ g. (g ≡ h) × IsHeading h))
    → Reads heading_end IsOther words r
other_read words rest behind mode workers card r cut small next other is told = by r told
  where
    whole : Heading
    whole = heading_of mode workers card

    spelled : heading_end whole ≡ words
    spelled =
        ap (λ (v : Version). mode_word mode ++ 32 ∷ (decimal workers ++ sizes_words v card)) other
        ∙ ap (λ (t : List ℕ). mode_word mode ++ 32 ∷ t) (ap (λ (t : List ℕ). decimal workers ++ 32 ∷ t) is ∙ next)
        ∙ cut

    by : (r : Option Heading) → MatchOption r (IsHeading whole → ⊥) (λ g. (g ≡ whole) × IsHeading whole) → Reads heading_end IsOther words r
    by None none = λ a h e. none (subst IsHeading (ends_one Second a whole h.other other (omega (arith, h.heading.most)) (omega (arith, small)) (e ∙ sym spelled)) h.heading)
    by (Some g) some = (
      record { heading = subst IsHeading (sym some.0) some.1; other = ap (λ (h : Heading). version_of h.card) some.0 ∙ other },
      ap heading_end some.0 ∙ spelled,
    )

-- ---- the first line, by its title

pub usual_line_read : (words rest : List ℕ) (r : Option Heading) → journal_title First ++ rest ≡ words → Reads heading_end IsUsual rest r → Reads heading_words IsHeading words r
usual_line_read words rest None cut none = λ a h e.
    let same : version_of a.card ≡ First = titles_one _ _ (heading_end a) rest (e ∙ sym cut) in
    none a (record { heading = h; usual = same })
    (append_cancel_left (journal_title First) (heading_end a) rest (ap (λ (v : Version). journal_title v ++ heading_end a) (sym same) ∙ e ∙ sym cut))
usual_line_read words rest (Some g) cut some =
    (some.0.heading, ap (λ (v : Version). journal_title v ++ heading_end g) some.0.usual ∙ ap (λ (t : List ℕ). journal_title First ++ t) some.1 ∙ cut)

pub other_line_read : (words rest : List ℕ) (r : Option Heading) → journal_title Second ++ rest ≡ words → Reads heading_end IsOther rest r → Reads heading_words IsHeading words r
other_line_read words rest None cut none = λ a h e.
    let same : version_of a.card ≡ Second = titles_one _ _ (heading_end a) rest (e ∙ sym cut) in
    none a (record { heading = h; other = same })
    (append_cancel_left (journal_title Second) (heading_end a) rest (ap (λ (v : Version). journal_title v ++ heading_end a) (sym same) ∙ e ∙ sym cut))
other_line_read words rest (Some g) cut some =
    (some.0.heading, ap (λ (v : Version). journal_title v ++ heading_end g) some.0.other ∙ ap (λ (t : List ℕ). journal_title Second ++ t) some.1 ∙ cut)

no_title_of : (words : List ℕ) → ((rest : List ℕ) → journal_title First ++ rest ≢ words) → ((rest : List ℕ) → journal_title Second ++ rest ≢ words) → (version : Version) (rest : List ℕ) → journal_title version ++ rest ≢ words
no_title_of words usual other First rest e = usual rest e
no_title_of words usual other Second rest e = other rest e

pub no_title : (words : List ℕ) → ((rest : List ℕ) → journal_title First ++ rest ≢ words) → ((rest : List ℕ) → journal_title Second ++ rest ≢ words) → (a : Heading) → IsHeading a → heading_words a ≢ words
no_title words usual other a h e = no_title_of words usual other (version_of a.card) (heading_end a) e

pub is_behind_title : (version : Version) (bytes : List ℕ) (r : Option (Bor (List ℕ))) → MatchOption r ((rest : List ℕ) → bytes ≢ journal_title version ++ rest) (λ x. bytes ≡ journal_title version ++ x.now) → IsBehindTitle version bytes r
is_behind_title version bytes None h = λ rest e. h rest (sym e)
is_behind_title version bytes (Some rest) h = sym h

pub is_ended : (bytes : List ℕ) (r : Option (Bor (List ℕ))) → MatchOption r ((words : List ℕ) → bytes ≢ words ++ 10 ∷ []) (λ x. bytes ≡ x.now ++ 10 ∷ []) → IsEnded bytes r
is_ended bytes None h = λ words e. h words (sym e)
is_ended bytes (Some words) h = sym h

-- the answer to a line's bytes
pub record IsAnswer (bytes : List ℕ) (r : Option JournalLine) : Type 0 where
  pub some : IfSome r (λ line. line_bytes line ≡ bytes)
  pub none : (r ≡ None) ↔ ((line : JournalLine) → IsLine line → line_bytes line ≢ bytes)
  pub inverts : (line : JournalLine) → IsLine line → line_bytes line ≡ bytes → r ≡ Some line

bytes_are : (bytes words : List ℕ) (line : JournalLine) → words ++ 10 ∷ [] ≡ bytes → line_words line ≡ words → line_bytes line ≡ bytes
bytes_are bytes words line cut e = line_ends line ∙ ap (λ (t : List ℕ). t ++ 10 ∷ []) e ∙ cut

words_are : (bytes words : List ℕ) (line : JournalLine) → words ++ 10 ∷ [] ≡ bytes → line_bytes line ≡ bytes → line_words line ≡ words
words_are bytes words line cut e = words_of_bytes line words (e ∙ sym cut)

pub line_answer : (bytes words : List ℕ) (r : Option JournalLine) → words ++ 10 ∷ [] ≡ bytes → Reads line_words IsLine words r → IsAnswer bytes r
line_answer bytes words None cut none = record {
  some = tt;
  none = (λ is line h e. none line h (words_are bytes words line cut e), λ all. refl);
  inverts = λ line h e. absurd (none line h (words_are bytes words line cut e));
}
line_answer bytes words (Some l) cut some = record {
  some = bytes_are bytes words l cut some.1;
  none = (λ is. absurd cc, λ all. absurd (all l some.0 (bytes_are bytes words l cut some.1)));
  inverts = λ line h e. ap Some (words_one l line some.0 h (some.1 ∙ sym (words_are bytes words line cut e)));
}

pub no_answer : (bytes : List ℕ) → ((words : List ℕ) → words ++ 10 ∷ [] ≢ bytes) → IsAnswer bytes None
no_answer bytes none = record {
  some = tt;
  none = (λ is line h e. none (line_words line) (sym (line_ends line) ∙ e), λ all. refl);
  inverts = λ line h e. absurd (none (line_words line) (sym (line_ends line) ∙ e));
}
