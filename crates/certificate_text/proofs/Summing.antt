-- The terms of a sum, one by one.
use Rattle.std.proofs.Common.{◌≡◌, ℕ, List, [], ◌∷◌, ◌++◌, refl, sym, ap, ◌∙◌, Option, Some, None}
use Rattle.std.specs.Option.{option_map, option_and_then}
use Rattle.certificate_laws.specs.declared.line.Term.{Term}
use Rattle.certificate_text.specs.Pieces.{IsFree, pieces}
use Rattle.certificate_text.specs.Words.{and_then}
use Rattle.certificate_text.specs.Lines.{term_in, terms_in}
use Rattle.certificate_text.proofs.Cutting.{pieces_cut, pieces_free}

-- Behind these terms, those of the rest follow.
pub record AreBefore (positions bytes : List ℕ) (terms : List Term) (rest : List ℕ) : Type 0 where
  pub same : terms_in positions (pieces 32 bytes) ≡ option_map (λ ts. terms ++ ts) (terms_in positions (pieces 32 rest))

nothing_before : (o : Option (List Term)) → o ≡ option_map (λ ts. [] ++ ts) o
nothing_before None = refl
nothing_before (Some ts) = refl

pub terms_none : (positions bytes : List ℕ) → AreBefore positions bytes [] bytes
terms_none positions bytes = record { same = nothing_before (terms_in positions (pieces 32 bytes)) }

append_one : (xs : List Term) (t : Term) (ys : List Term) → xs ++ (t ∷ ys) ≡ (xs ++ t ∷ []) ++ ys
append_one [] t ys = refl
append_one (x ∷ xs) t ys = ap (λ l. x ∷ l) (append_one xs t ys)

one_more : (terms : List Term) (t : Term) (o : Option (List Term)) → option_map (λ ts. terms ++ ts) (option_map (λ ts. t ∷ ts) o) ≡ option_map (λ ts. (terms ++ t ∷ []) ++ ts) o
one_more terms t None = refl
one_more terms t (Some ts) = ap Some (append_one terms t ts)

pub terms_more : (positions bytes rest front more : List ℕ) (terms : List Term) (t : Term) → AreBefore positions bytes terms rest → IsFree 32 front → front ++ 32 ∷ more ≡ rest → Some t ≡ term_in positions front
    → AreBefore positions bytes (terms ++ t ∷ []) more
terms_more positions bytes rest front more terms t before free is found = record {
  same = before.same
      ∙ ap (λ (ws : List (List ℕ)). option_map (λ ts. terms ++ ts) (terms_in positions ws)) (pieces_cut 32 rest front more free is)
      ∙ ap (λ (o : Option Term). option_map (λ ts. terms ++ ts) (and_then o (λ t. option_map (λ ts. t ∷ ts) (terms_in positions (pieces 32 more))))) (sym found)
      ∙ one_more terms t (terms_in positions (pieces 32 more));
}

pub terms_bad : (positions bytes rest front more : List ℕ) (terms : List Term) → AreBefore positions bytes terms rest → IsFree 32 front → front ++ 32 ∷ more ≡ rest → None ≡ term_in positions front
    → None ≡ terms_in positions (pieces 32 bytes)
terms_bad positions bytes rest front more terms before free is none =
    sym (before.same
    ∙ ap (λ (ws : List (List ℕ)). option_map (λ ts. terms ++ ts) (terms_in positions ws)) (pieces_cut 32 rest front more free is)
    ∙ ap (λ (o : Option Term). option_map (λ ts. terms ++ ts) (and_then o (λ t. option_map (λ ts. t ∷ ts) (terms_in positions (pieces 32 more))))) (sym none))

pub terms_last : (positions bytes rest : List ℕ) (terms : List Term) (t : Term) → AreBefore positions bytes terms rest → IsFree 32 rest → Some t ≡ term_in positions rest
    → Some (terms ++ t ∷ []) ≡ terms_in positions (pieces 32 bytes)
terms_last positions bytes rest terms t before free found =
    sym (before.same
    ∙ ap (λ (ws : List (List ℕ)). option_map (λ ts. terms ++ ts) (terms_in positions ws)) (pieces_free 32 rest free)
    ∙ ap (λ (o : Option Term). option_map (λ ts. terms ++ ts) (and_then o (λ t. option_map (λ ts. t ∷ ts) (Some [])))) (sym found))

pub terms_worse : (positions bytes rest : List ℕ) (terms : List Term) → AreBefore positions bytes terms rest → IsFree 32 rest → None ≡ term_in positions rest
    → None ≡ terms_in positions (pieces 32 bytes)
terms_worse positions bytes rest terms before free none =
    sym (before.same
    ∙ ap (λ (ws : List (List ℕ)). option_map (λ ts. terms ++ ts) (terms_in positions ws)) (pieces_free 32 rest free)
    ∙ ap (λ (o : Option Term). option_map (λ ts. terms ++ ts) (and_then o (λ t. option_map (λ ts. t ∷ ts) (Some [])))) (sym none))
