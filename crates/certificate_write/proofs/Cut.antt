-- The words of what is written.
use Rattle.std.proofs.Common.{◌≡◌, ℕ, ◌/◌, ◌%◌, ◌<◌, ◌≤◌, ◌^◌, refl, ap, ◌∙◌, List, [], ◌∷◌, ◌++◌, All, length, map, get_or, append-nil, inl, inr, arith}
use Rattle.std.specs.Prelude.{codes, decimal}
use Rattle.std.proofs.lemmas.Bool.{cases_lt}
use Rattle.std.proofs.lemmas.List.{get_or_past}
use Rattle.std.proofs.lemmas.List.Elements.{All-head, All-tail}
use Rattle.certificate_laws.specs.declared.line.Term.{Term}
use Rattle.certificate_laws.specs.declared.line.Term.TheVariants.{Row, Bit}
use Rattle.certificate_text.specs.Pieces.{IsFree, pieces}
use Rattle.certificate_text.proofs.Cutting.{pieces_cut, pieces_free}
use Rattle.certificate_write.specs.Texts.{bit_text, term_text, terms_text}
use Rattle.certificate_write.specs.Sayable.{IsPlace, IsTerm}
use Rattle.certificate_write.proofs.Frees.{free_both, free_by_test, number_free}

-- a word in front of others
pub next : (front rest : List ℕ) (words : List (List ℕ)) → IsFree 32 front → pieces 32 rest ≡ words → pieces 32 (front ++ 32 ∷ rest) ≡ front ∷ words
next front rest words free is = pieces_cut 32 (front ++ 32 ∷ rest) front rest free refl ∙ ap (λ ws. front ∷ ws) is

-- a port that has a position is one of four
pub port_there : (positions : List ℕ) (place : ℕ) → length positions ≤ 4 → IsPlace positions place → place / 319 < length positions
port_there positions place few is = elim (cases_lt (place / 319) (length positions)) [
  | inl there ↦ there
  | inr past ↦ (let none = get_or_past positions (place / 319) 0 past in absurd (omega (arith, is, none)))
]

pub port_short : (positions : List ℕ) (place : ℕ) → length positions ≤ 4 → IsPlace positions place → place / 319 < 2 ^ 32
port_short positions place few is = let there = port_there positions place few is in omega (arith, there, few)

pub position_short : (place : ℕ) → place % 319 < 2 ^ 32
position_short place = omega arith

pub bit_words : (positions : List ℕ) (place : ℕ) → length positions ≤ 4 → IsPlace positions place → pieces 32 (bit_text (codes " ") place) ≡ decimal (place / 319) ∷ decimal (place % 319) ∷ []
bit_words positions place few is =
    next (decimal (place / 319)) (decimal (place % 319)) (decimal (place % 319) ∷ []) (number_free 32 (place / 319) (omega arith) (port_short positions place few is))
    (pieces_free 32 (decimal (place % 319)) (number_free 32 (place % 319) (omega arith) (position_short place)))

pub bit_parts : (positions : List ℕ) (place : ℕ) → length positions ≤ 4 → IsPlace positions place → pieces 46 (bit_text (codes ".") place) ≡ decimal (place / 319) ∷ decimal (place % 319) ∷ []
bit_parts positions place few is =
    pieces_cut 46 (decimal (place / 319) ++ 46 ∷ decimal (place % 319)) (decimal (place / 319)) (decimal (place % 319)) (number_free 46 (place / 319) (omega arith) (port_short positions place few is)) refl
    ∙ ap (λ ws. decimal (place / 319) ∷ ws) (pieces_free 46 (decimal (place % 319)) (number_free 46 (place % 319) (omega arith) (position_short place)))

pub bit_free : (sep : ℕ) (between positions : List ℕ) (place : ℕ) → sep < 48 → IsFree sep between → length positions ≤ 4 → IsPlace positions place → IsFree sep (bit_text between place)
bit_free sep between positions place less free few is =
    free_both sep (decimal (place / 319)) (between ++ decimal (place % 319)) (number_free sep (place / 319) less (port_short positions place few is))
    (free_both sep between (decimal (place % 319)) free (number_free sep (place % 319) less (position_short place)))

-- a term is one word
pub term_free : (sep : ℕ) (positions : List ℕ) (t : Term) → sep < 46 → length positions ≤ 4 → IsTerm positions t → IsFree sep (term_text t)
term_free sep positions (Row k) less few is = free_both sep (codes "r") (decimal k) ((λ e. absurd (omega (arith, e, less))), tt) (number_free sep k (omega (arith, less)) is)
term_free sep positions (Bit place) less few is =
    free_both sep (codes "b") (bit_text (codes ".") place) ((λ e. absurd (omega (arith, e, less))), tt)
    (bit_free sep (codes ".") positions place (omega (arith, less)) ((λ e. absurd (omega (arith, e, less))), tt) few is)

-- and terms are so many words behind the first
pub terms_words : (positions : List ℕ) (front : List ℕ) (terms : List Term) → length positions ≤ 4 → IsFree 32 front → All (IsTerm positions) terms → pieces 32 (front ++ terms_text terms) ≡ front ∷ map term_text terms
terms_words positions front [] few free are = ap (pieces 32) (append-nil front) ∙ pieces_free 32 front free
terms_words positions front (t ∷ terms) few free are =
    next front (term_text t ++ terms_text terms) (term_text t ∷ map term_text terms) free
    (terms_words positions (term_text t) terms few (term_free 32 positions t (omega arith) few (All-head (IsTerm positions) t terms are)) (All-tail (IsTerm positions) t terms are))

pub terms_free : (positions : List ℕ) (terms : List Term) → length positions ≤ 4 → All (IsTerm positions) terms → IsFree 10 (terms_text terms)
terms_free positions [] few are = tt
terms_free positions (t ∷ terms) few are =
    free_both 10 (codes " ") (term_text t ++ terms_text terms) (free_by_test 10 (codes " ") refl)
    (free_both 10 (term_text t) (terms_text terms) (term_free 10 positions t (omega arith) few (All-head (IsTerm positions) t terms are)) (terms_free positions terms few (All-tail (IsTerm positions) t terms are)))
