-- Bytes up to a separator, and what that says of pieces and lines.
use Rattle.std.proofs.Common.{◌≡◌, ◌≢◌, ℕ, zero, suc, ◌+◌, ◌-◌, ◌*◌, ◌<◌, ◌≤◌, ◌==◌, List, [], ◌∷◌, ◌++◌, length, take, drop, get_or, refl, sym, ap, subst, ◌∙◌, if◌then◌else◌, arith, add-one, Option, Some, None, slice_get}
use Rattle.std.proofs.lemmas.Bool.{eq-eqb, ne_eqb}
use Rattle.std.proofs.lemmas.List.{take_all, length-drop}
use Rattle.certificate_text.specs.Pieces.{IsFree, in_first, pieces, in_line, lines_of}

free_next : (sep : ℕ) (bytes : List ℕ) (i : ℕ) → i < length bytes → IsFree sep (take i bytes) → get_or bytes i 0 ≢ sep → IsFree sep (take (suc i) bytes)
free_next sep [] i lt h ne = absurd (omega arith)
free_next sep (b ∷ bytes) zero lt h ne = (ne, tt)
free_next sep (b ∷ bytes) (suc i) lt h ne = (h.0, free_next sep bytes i (omega arith) h.1 ne)

pub free_more : (sep : ℕ) (bytes : List ℕ) (i : ℕ) → i < length bytes → IsFree sep (take i bytes) → get_or bytes i 0 ≢ sep → IsFree sep (take (i + 1) bytes)
free_more sep bytes i lt h ne = rw (add-one i) (free_next sep bytes i lt h ne)

pub free_whole : (sep : ℕ) (bytes : List ℕ) (n : ℕ) → length bytes ≤ n → IsFree sep (take n bytes) → IsFree sep bytes
free_whole sep bytes n le h = rw (take_all n bytes le) at h

cut_next : (sep : ℕ) (bytes : List ℕ) (i : ℕ) → i < length bytes → get_or bytes i 0 ≡ sep → take i bytes ++ sep ∷ drop (suc i) bytes ≡ bytes
cut_next sep [] i lt e = absurd (omega arith)
cut_next sep (b ∷ bytes) zero lt e = ap (λ (c : ℕ). c ∷ bytes) (sym e)
cut_next sep (b ∷ bytes) (suc i) lt e = ap (λ (t : List ℕ). b ∷ t) (cut_next sep bytes i (omega arith) e)

pub cut_there : (sep : ℕ) (bytes : List ℕ) (i : ℕ) → i < length bytes → get_or bytes i 0 ≡ sep → take i bytes ++ sep ∷ drop (i + 1) bytes ≡ bytes
cut_there sep bytes i lt e = rw (add-one i) (cut_next sep bytes i lt e)

-- the pieces of bytes that a separator cuts
pieces_front : (sep : ℕ) (front rest : List ℕ) → IsFree sep front → pieces sep (front ++ sep ∷ rest) ≡ front ∷ pieces sep rest
pieces_front sep [] rest free = ap (λ b. if b then [] ∷ pieces sep rest else in_first sep (pieces sep rest)) (eq-eqb sep sep refl)
pieces_front sep (c ∷ front) rest free =
    ap (λ b. if b then [] ∷ pieces sep (front ++ sep ∷ rest) else in_first c (pieces sep (front ++ sep ∷ rest))) (ne_eqb c sep free.0)
    ∙ ap (in_first c) (pieces_front sep front rest free.1)

pub pieces_cut : (sep : ℕ) (bytes front rest : List ℕ) → IsFree sep front → front ++ sep ∷ rest ≡ bytes → pieces sep bytes ≡ front ∷ pieces sep rest
pieces_cut sep bytes front rest free is = ap (pieces sep) (sym is) ∙ pieces_front sep front rest free

pub pieces_free : (sep : ℕ) (bytes : List ℕ) → IsFree sep bytes → pieces sep bytes ≡ bytes ∷ []
pieces_free sep [] free = refl
pieces_free sep (c ∷ bytes) free =
    ap (λ b. if b then [] ∷ pieces sep bytes else in_first c (pieces sep bytes)) (ne_eqb c sep free.0)
    ∙ ap (in_first c) (pieces_free sep bytes free.1)

-- the piece of a number
drop_one : (k : ℕ) (xs : List (List ℕ)) (x : List ℕ) (rest : List (List ℕ)) → drop k xs ≡ x ∷ rest → drop (suc k) xs ≡ rest
drop_one zero xs x rest is = ap (drop 1) is
drop_one (suc k) [] x rest is = cc
drop_one (suc k) (y ∷ ys) x rest is = drop_one k ys x rest is

pub piece_more : (sep k : ℕ) (bytes front rest more : List ℕ) → drop k (pieces sep bytes) ≡ pieces sep rest → IsFree sep front → front ++ sep ∷ more ≡ rest → drop (k + 1) (pieces sep bytes) ≡ pieces sep more
piece_more sep k bytes front rest more so free is = ap (λ m. drop m (pieces sep bytes)) (add-one k) ∙ drop_one k (pieces sep bytes) front (pieces sep more) (so ∙ pieces_cut sep rest front more free is)

at_drop : (k : ℕ) (xs : List (List ℕ)) (x : List ℕ) (rest : List (List ℕ)) → drop k xs ≡ x ∷ rest → slice_get xs k ≡ Some x
at_drop zero xs x rest is = ap (λ (l : List (List ℕ)). slice_get l 0) is
at_drop (suc k) [] x rest is = cc
at_drop (suc k) (y ∷ ys) x rest is = at_drop k ys x rest is

past_drop : (k n : ℕ) (xs : List (List ℕ)) (x : List ℕ) → drop k xs ≡ x ∷ [] → k < n → slice_get xs n ≡ None
past_drop zero zero xs x is more = absurd (omega (arith, more))
past_drop zero (suc n) xs x is more = ap (λ (l : List (List ℕ)). slice_get l (suc n)) is
past_drop (suc k) zero xs x is more = absurd (omega (arith, more))
past_drop (suc k) (suc n) [] x is more = refl
past_drop (suc k) (suc n) (y ∷ ys) x is more = past_drop k n ys x is (omega (arith, more))

pub piece_none : (sep k n : ℕ) (bytes rest : List ℕ) → drop k (pieces sep bytes) ≡ pieces sep rest → IsFree sep rest → k < n → slice_get (pieces sep bytes) n ≡ None
piece_none sep k n bytes rest so free more = past_drop k n (pieces sep bytes) rest (so ∙ pieces_free sep rest free) more

pub piece_cut : (sep k n : ℕ) (bytes front rest more : List ℕ) → drop k (pieces sep bytes) ≡ pieces sep rest → k ≡ n → IsFree sep front → front ++ sep ∷ more ≡ rest → slice_get (pieces sep bytes) n ≡ Some front
piece_cut sep k n bytes front rest more so all free is = ap (slice_get (pieces sep bytes)) (sym all) ∙ at_drop k (pieces sep bytes) front (pieces sep more) (so ∙ pieces_cut sep rest front more free is)

pub piece_last : (sep k n : ℕ) (bytes rest : List ℕ) → drop k (pieces sep bytes) ≡ pieces sep rest → k ≡ n → IsFree sep rest → slice_get (pieces sep bytes) n ≡ Some rest
piece_last sep k n bytes rest so all free = ap (slice_get (pieces sep bytes)) (sym all) ∙ at_drop k (pieces sep bytes) rest [] (so ∙ pieces_free sep rest free)

-- the lines of a text that an LF cuts
pub lines_cut : (front rest : List ℕ) → IsFree 10 front → lines_of (front ++ 10 ∷ rest) ≡ front ∷ lines_of rest
lines_cut [] rest free = refl
lines_cut (c ∷ front) rest free =
    ap (λ b. if b then [] ∷ lines_of (front ++ 10 ∷ rest) else in_line c (lines_of (front ++ 10 ∷ rest))) (ne_eqb c 10 free.0)
    ∙ ap (in_line c) (lines_cut front rest free.1)

pub lines_free : (bytes : List ℕ) → IsFree 10 bytes → lines_of bytes ≡ []
lines_free [] free = refl
lines_free (c ∷ bytes) free =
    ap (λ b. if b then [] ∷ lines_of bytes else in_line c (lines_of bytes)) (ne_eqb c 10 free.0)
    ∙ ap (in_line c) (lines_free bytes free.1)

drop_front : (front rest : List ℕ) → drop (suc (length front)) (front ++ 10 ∷ rest) ≡ rest
drop_front [] rest = refl
drop_front (c ∷ front) rest = drop_front front rest

drop_none : (k : ℕ) → drop {A = ℕ} k [] ≡ []
drop_none zero = refl
drop_none (suc k) = refl

drop_more : (n m : ℕ) (xs : List ℕ) → drop (n + m) xs ≡ drop m (drop n xs)
drop_more zero m xs = ap (λ k. drop k xs) (let same : 0 + m ≡ m = omega arith in same)
drop_more (suc n) m [] = drop_none (suc n + m) ∙ sym (drop_none m)
drop_more (suc n) m (x ∷ xs) = ap (λ k. drop k (x ∷ xs)) (let same : suc n + m ≡ suc (n + m) = omega arith in same) ∙ drop_more n m xs

-- a line and what stands behind it
pub line_there : (text front rest : List ℕ) (from : ℕ) → IsFree 10 front → front ++ 10 ∷ rest ≡ drop from text
    → lines_of (drop from text) ≡ front ∷ lines_of (drop (from + length front + 1) text)
line_there text front rest from free is =
    let behind : from + length front + 1 ≡ from + suc (length front) = omega arith in
    let more : drop (from + length front + 1) text ≡ rest = ap (λ k. drop k text) behind ∙ drop_more from (suc (length front)) text ∙ ap (drop (suc (length front))) (sym is) ∙ drop_front front rest in
    ap lines_of (sym is) ∙ lines_cut front rest free ∙ ap (λ (l : List ℕ). front ∷ lines_of l) (sym more)

long_front : (front rest bytes : List ℕ) → front ++ 10 ∷ rest ≡ bytes → length front < length bytes
long_front [] rest bytes is = subst (λ (l : List ℕ). 0 < length l) is (omega arith)
long_front (c ∷ front) rest bytes is = subst (λ (l : List ℕ). suc (length front) < length l) is (let less = long_front front rest (front ++ 10 ∷ rest) refl in omega (arith, less))

long_drop : (n : ℕ) (xs : List ℕ) → n ≤ length xs → length (drop n xs) + n ≡ length xs
long_drop zero xs within = omega arith
long_drop (suc n) [] within = absurd (omega (arith, within))
long_drop (suc n) (x ∷ xs) within = let rest = long_drop n xs (omega (arith, within)) in omega (arith, rest)

pub line_within : (text front rest : List ℕ) (from : ℕ) → front ++ 10 ∷ rest ≡ drop from text → from ≤ length text → from + length front < length text
line_within text front rest from is within = omega (arith, long_front front rest (drop from text) is, long_drop from text within)

-- what stands behind the first word
pub behind_first : (bytes front rest : List ℕ) → IsFree 32 front → front ++ 32 ∷ rest ≡ bytes → drop 1 (pieces 32 bytes) ≡ pieces 32 rest
behind_first bytes front rest free is = ap (drop 1) (pieces_cut 32 bytes front rest free is)

pub behind_none : (bytes : List ℕ) → IsFree 32 bytes → drop 1 (pieces 32 bytes) ≡ []
behind_none bytes free = ap (drop 1) (pieces_free 32 bytes free)

-- a slice up to the end
pub slice_whole : (text : List ℕ) (from : ℕ) → take (length text - from) (drop from text) ≡ drop from text
slice_whole text from = take_all (length text - from) (drop from text) (let long = length-drop from text in omega (arith, long))
