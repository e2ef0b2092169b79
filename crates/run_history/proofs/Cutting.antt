-- Words that are read from the front of bytes, up to a separator.
use Rattle.std.proofs.Common.{◌≡◌, ◌≢◌, ℕ, zero, suc, ◌+◌, ◌<◌, ◌≤◌, List, [], ◌∷◌, ◌++◌, length, take, drop, get_or, sym, ap, subst, ◌∙◌, arith, add-one}
use Rattle.std.proofs.lemmas.List.{take_all}
use Rattle.run_history.specs.Reading.{IsFree}
use Rattle.run_history.proofs.Words.{same_cut, not_free}

free_next : (sep : ℕ) (bytes : List ℕ) (i : ℕ) → i < length bytes → IsFree sep (take i bytes) → get_or bytes i 0 ≢ sep → IsFree sep (take (suc i) bytes)
free_next sep [] i lt h ne = absurd (omega arith)
free_next sep (b ∷ bytes) zero lt h ne = (ne, tt)
free_next sep (b ∷ bytes) (suc i) lt h ne = (h.0, free_next sep bytes i (omega arith) h.1 ne)

pub free_more : (sep : ℕ) (bytes : List ℕ) (i : ℕ) → i < length bytes → IsFree sep (take i bytes) → get_or bytes i 0 ≢ sep → IsFree sep (take (i + 1) bytes)
free_more sep bytes i lt h ne = rw (add-one i) (free_next sep bytes i lt h ne)

pub free_whole : (sep : ℕ) (bytes : List ℕ) (n : ℕ) → length bytes ≤ n → IsFree sep (take n bytes) → IsFree sep bytes
free_whole sep bytes n le h = rw (take_all n bytes le) at h

cut_next : (sep : ℕ) (bytes : List ℕ) (i : ℕ) → i < length bytes → get_or bytes i 0 ≡ sep → take i bytes ++ sep ∷ drop (suc i) bytes ≡ bytes
cut_next sep [] i lt e = absurd (omega arith)
cut_next sep (b ∷ bytes) zero lt e = ap (λ (c : ℕ). c ∷ bytes) (sym e)
cut_next sep (b ∷ bytes) (suc i) lt e = ap (λ (t : List ℕ). b ∷ t) (cut_next sep bytes i (omega arith) e)

pub cut_there : (sep : ℕ) (bytes : List ℕ) (i : ℕ) → i < length bytes → get_or bytes i 0 ≡ sep → take i bytes ++ sep ∷ drop (i + 1) bytes ≡ bytes
cut_there sep bytes i lt e = rw (add-one i) (cut_next sep bytes i lt e)

-- bytes with no separator begin with no word that one ends
pub no_front : (sep : ℕ) (bytes word rest : List ℕ) → IsFree sep bytes → word ++ sep ∷ rest ≢ bytes
no_front sep bytes word rest free e = not_free sep word rest (let P : List ℕ → Type 0 = λ bs. IsFree sep bs in subst P (sym e) free)

-- where the word up to the separator is another, so is what the bytes begin with
pub other_front : (sep : ℕ) (bytes word rest front behind : List ℕ) → IsFree sep word → IsFree sep front → front ++ sep ∷ behind ≡ bytes → word ≢ front → word ++ sep ∷ rest ≢ bytes
other_front sep bytes word rest front behind free other cut ne e = ne (same_cut sep word front rest behind free other (e ∙ sym cut)).0

-- what stands behind one word stands behind the other
pub behind_one : (sep : ℕ) (bytes word rest front behind : List ℕ) → IsFree sep word → IsFree sep front → front ++ sep ∷ behind ≡ bytes → word ++ sep ∷ rest ≡ bytes → rest ≡ behind
behind_one sep bytes word rest front behind free other cut e = (same_cut sep word front rest behind free other (e ∙ sym cut)).1
