-- Bytes that belong to the piece before only move the place.
use Rattle.std.proofs.Common.{◌≡◌, ◌∙◌, ◌-◌, ◌≤◌, ◌∷◌, ◌++◌, ℕ, zero, suc, Option, Some, None, List, [], length, take, drop, get_or, refl, ap, sym, append_assoc, arith}
use Rattle.std.proofs.lemmas.List.{take_all}
use Rattle.nf_tokens.specs.declared.token.Place.{Place}
use Rattle.nf_tokens.specs.declared.token.Token.{Token}
use Rattle.nf_tokens.specs.declared.token.Placed.{Placed}
use Rattle.nf_tokens.specs.declared.lexer.Kind.{Kind}
use Rattle.nf_tokens.specs.declared.lexer.Piece.{Piece}
use Rattle.nf_tokens.specs.Tokens.{tokens_of, token_of, behind, behind_all, with_token, piece, piece_at}

pub skips : (n : ℕ) (at : Place) (bs : List ℕ) → tokens_of n at bs ≡ tokens_of 0 (behind_all at (take n bs)) (drop n bs)
skips zero at bs = refl
skips (suc n) at [] = refl
skips (suc n) at (b ∷ bs) = skips n (behind at b) bs

token_first : (t : Option Token) (at : Place) (ts : List Placed) → with_token t at ts ≡ with_token t at [] ++ ts
token_first None at ts = refl
token_first (Some t) at ts = refl

-- the piece at the front, and what is behind it
pub one_piece : (out : List Placed) (at : Place) (b : ℕ) (bs : List ℕ) (p : Piece) → p ≡ piece_at b bs → 1 ≤ p.len →
    (out ++ with_token (token_of p.kind (take p.len (b ∷ bs))) at []) ++ tokens_of 0 (behind_all at (take p.len (b ∷ bs))) (drop p.len (b ∷ bs)) ≡ out ++ tokens_of 0 at (b ∷ bs)
one_piece out at b bs p same some = one_of p.len p.kind refl some
  where
    one_of : (n : ℕ) (kind : Kind) → p ≡ piece n kind → 1 ≤ n →
        (out ++ with_token (token_of kind (take n (b ∷ bs))) at []) ++ tokens_of 0 (behind_all at (take n (b ∷ bs))) (drop n (b ∷ bs)) ≡ out ++ tokens_of 0 at (b ∷ bs)
    one_of zero kind e some' = absurd (omega arith)
    one_of (suc n) kind e some' =
        let e1 : suc n - 1 ≡ n = omega arith in
        let q : piece_at b bs ≡ piece (suc n) kind = sym same ∙ e in
        let t = token_of kind (take (suc n) (b ∷ bs)) in
        append_assoc out (with_token t at []) (tokens_of 0 (behind_all at (take (suc n) (b ∷ bs))) (drop (suc n) (b ∷ bs)))
        ∙ ap (λ x. out ++ x) (sym (token_first t at (tokens_of 0 (behind_all at (take (suc n) (b ∷ bs))) (drop (suc n) (b ∷ bs))))
        ∙ ap (with_token t at) (sym (skips n (behind at b) bs) ∙ ap (λ k. tokens_of k (behind at b) bs) (sym e1))
        ∙ sym (ap (λ x. with_token (token_of x.kind (take x.len (b ∷ bs))) at (tokens_of (x.len - 1) (behind at b) bs)) q))

pub front_piece : (out : List Placed) (at : Place) (rest : List ℕ) (p : Piece) → 1 ≤ length rest → p ≡ piece_at (get_or rest 0 0) (take (length rest - 1) (drop 1 rest)) → 1 ≤ p.len →
    (out ++ with_token (token_of p.kind (take p.len rest)) at []) ++ tokens_of 0 (behind_all at (take p.len rest)) (drop p.len rest) ≡ out ++ tokens_of 0 at rest
front_piece out at [] p one same some = absurd (omega arith)
front_piece out at (b ∷ bs) p one same some =
    let all : take (suc (length bs) - 1) bs ≡ bs = take_all (suc (length bs) - 1) bs (omega arith) in
    one_piece out at b bs p (same ∙ ap (piece_at b) all) some
