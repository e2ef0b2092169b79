-- What is given to a file in several writes.
use Rattle.std.proofs.Common.{◌≡◌, ◌≢◌, ℕ, zero, suc, ◌+◌, List, [], ◌∷◌, ◌++◌, take, drop, Option, Some, None, sym, ap, subst, ◌∙◌, append_assoc, arith, refl, append-nil}
use Rattle.nf_files.specs.Told.{Told, IsToldAs, IsEmptyIfTold}
use Rattle.nf_files.specs.Pieces.{Gains, Takes}
use Rattle.nf_files.specs.Writes.{Writes}

pub gains_more : (a b : List ℕ) (o m n : Option (List ℕ)) → Gains a o m → Gains b m n → Gains (a ++ b) o n
gains_more a b None None None p q = tt
gains_more a b None None (Some z) p q = q
gains_more a b None (Some y) n p q = absurd p
gains_more a b (Some x) None n p q = absurd p
gains_more a b (Some x) (Some y) None p q = q
gains_more a b (Some x) (Some y) (Some z) p q = q ∙ ap (λ (w : List ℕ). w ++ b) p ∙ append_assoc x a b

-- two pieces, one after the other, are one piece
pub writes_more : (o m n : Told) (file : ℕ) (a b : List ℕ) → Writes o m file a → Writes m n file b → Writes o n file (a ++ b)
writes_more o m n file a b p q = record {
  gained = gains_more a b (o.given file) (m.given file) (n.given file) p.gained q.gained;
  current = λ k now. q.current k (p.current k now);
  contents = λ k other. q.contents k (subst (λ (w : Option (List ℕ)). w ≢ Some k) (sym (p.names file)) other) ∙ p.contents k other;
  rests = λ g. q.rests g ∙ p.rests g;
  givens = λ g other. q.givens g other ∙ p.givens g other;
  names = λ g. q.names g ∙ p.names g;
  kinds = λ g. q.kinds g ∙ p.kinds g;
  latest_same = λ k. q.latest_same k ∙ p.latest_same k;
  next_same = q.next_same ∙ p.next_same;
}

gains_none : (o : Option (List ℕ)) → Gains [] o o
gains_none None = tt
gains_none (Some x) = sym (append-nil x)

-- nothing was written
pub writes_none : (o : Told) (file : ℕ) → Writes o o file []
writes_none o file = record {
  gained = gains_none (o.given file);
  current = λ k now. now;
  contents = λ k other. refl;
  rests = λ g. refl;
  givens = λ g other. refl;
  names = λ g. refl;
  kinds = λ g. refl;
  latest_same = λ k. refl;
  next_same = refl;
}

-- what was taken before the end is all that there was
pub took_all : (bytes : List ℕ) (o n : Option (List ℕ)) → Takes bytes o n → IsEmptyIfTold n → IsToldAs bytes o
took_all bytes None None t e = tt
took_all bytes None (Some y) t e = absurd t
took_all bytes (Some x) None t e = absurd t
took_all bytes (Some x) (Some y) t e = t ∙ ap (λ (w : List ℕ). bytes ++ w) e ∙ append-nil bytes

take_none : (n : ℕ) → take {A = ℕ} n [] ≡ []
take_none zero = refl
take_none (suc n) = refl

drop_none : (n : ℕ) → drop {A = ℕ} n [] ≡ []
drop_none zero = refl
drop_none (suc n) = refl

-- two fronts, one after the other, are one front
fronts : (xs : List ℕ) (a b n : ℕ) → n ≡ a + b → take a xs ++ take b (drop a xs) ≡ take n xs
fronts [] a b n e = rw (take_none a, drop_none a, take_none b, take_none n) refl
fronts (x ∷ xs) zero b n e = let same : b ≡ n = omega arith in ap (λ k. take k (x ∷ xs)) same
fronts (x ∷ xs) (suc a) b zero e = absurd (omega arith)
fronts (x ∷ xs) (suc a) b (suc n) e = ap (λ (ys : List ℕ). x ∷ ys) (fronts xs a b n (omega arith))

pub front_more : (xs : List ℕ) (a b : ℕ) → take a xs ++ take b (drop a xs) ≡ take (a + b) xs
front_more xs a b = fronts xs a b (a + b) refl
