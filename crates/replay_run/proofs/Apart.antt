-- Captures, a journal and outputs, of which no file stands twice.
use Rattle.std.proofs.Common.{◌≡◌, ◌≢◌, ℕ, zero, suc, ◌+◌, ◌<◌, ◌∙◌, List, [], ◌∷◌, ◌++◌, length, Some, refl, sym, subst, arith}
use Rattle.std.specs.List.{All, AllByRecursion, slice_get}
use Rattle.std.proofs.lemmas.List.Elements.{All-from_recursion}
use Rattle.std.proofs.lemmas.Option.{slice_get_within}
use Rattle.nf_files.specs.Told.{Told}
use Rattle.packet_feed.specs.Told.{IsApart}
use Rattle.packet_feed.proofs.Standing.{at_file}
use Rattle.replay_run.specs.Given.{AreBeside, AreRead}
use Rattle.replay_run.specs.Turns.{AreClear}

got_left : (xs ys : List ℕ) (k f : ℕ) → slice_get xs k ≡ Some f → slice_get (xs ++ ys) k ≡ Some f
got_left [] ys k f e = absurd cc
got_left (x ∷ xs) ys zero f e = e
got_left (x ∷ xs) ys (suc k) f e = got_left xs ys k f e

got_right : (xs ys : List ℕ) (k j f : ℕ) → j ≡ length xs + k → slice_get ys k ≡ Some f → slice_get (xs ++ ys) j ≡ Some f
got_right [] ys k j f is e = let same : j ≡ k = omega (arith, is) in subst (λ (n : ℕ). slice_get ys n ≡ Some f) (sym same) e
got_right (x ∷ xs) ys k zero f is e = absurd (omega (arith, is))
got_right (x ∷ xs) ys k (suc j) f is e = got_right xs ys k j f (omega (arith, is)) e

by_place : (P : ℕ → Type 0) (xs : List ℕ) → ((k x : ℕ) → slice_get xs k ≡ Some x → P x) → AllByRecursion P xs
by_place P [] h = tt
by_place P (x ∷ xs) h = (h 0 x refl, by_place P xs (λ k y e. h (suc k) y e))

all_by_place : (P : ℕ → Type 0) (xs : List ℕ) → ((k x : ℕ) → slice_get xs k ≡ Some x → P x) → All P xs
all_by_place P xs h = All-from_recursion P xs (by_place P xs h)

other_side : (xs ys : List ℕ) (j k a b : ℕ) → IsApart (xs ++ ys) → slice_get xs j ≡ Some a → slice_get ys k ≡ Some b → a ≢ b
other_side xs ys j k a b apart p q =
    let inside : j < length xs = slice_get_within xs j a p in
    apart j (length xs + k) a b (got_left xs ys j a p) (got_right xs ys k (length xs + k) b refl q) (λ same. absurd (omega (arith, same, inside)))

pub apart_right : (xs ys : List ℕ) → IsApart (xs ++ ys) → IsApart ys
apart_right xs ys apart i j f g p q ne = apart (length xs + i) (length xs + j) f g (got_right xs ys i (length xs + i) f refl p) (got_right xs ys j (length xs + j) g refl q) (λ same. ne (omega (arith, same)))

pub clear_of : (xs ys : List ℕ) → IsApart (xs ++ ys) → AreClear xs ys
clear_of xs ys apart = record {
  ahead = λ k f e. all_by_place (λ x. x ≢ f) xs (λ j x p. other_side xs ys j k x f apart p e);
  behind = λ k x e. all_by_place (λ f. f ≢ x) ys (λ j f p same. other_side xs ys k j x f apart e p (sym same));
}

pub without : (xs : List ℕ) (file : ℕ) (ys : List ℕ) → AreClear xs (file ∷ ys) → AreClear xs ys
without xs file ys h = record {
  ahead = λ k f e. h.ahead (suc k) f e;
  behind = λ k x e. all_by_place (λ f. f ≢ x) ys (λ j f p. at_file (λ g. g ≢ x) (file ∷ ys) (suc j) f p (h.behind k x e));
}

pub not_left : (xs : List ℕ) (file : ℕ) (ys : List ℕ) → AreClear xs (file ∷ ys) → All (λ x. x ≢ file) xs
not_left xs file ys h = h.ahead 0 file refl

pub not_right : (file : ℕ) (ys : List ℕ) → IsApart (file ∷ ys) → All (λ f. f ≢ file) ys
not_right file ys apart = all_by_place (λ f. f ≢ file) ys (λ k f e. apart (suc k) 0 f file e refl (λ same. absurd (omega (arith, same))))

pub tail_apart : (file : ℕ) (ys : List ℕ) → IsApart (file ∷ ys) → IsApart ys
tail_apart file ys apart i j f g p q ne = apart (suc i) (suc j) f g p q (λ same. ne (omega (arith, same)))

-- ---- files that are read beside one another

pub are_beside : (captures : List ℕ) (journal : ℕ) (outputs : List ℕ) (told : Told) → AreRead captures journal outputs told → AreBeside captures outputs told
are_beside captures journal outputs told h = record {
  opened = h.opened_outputs;
  apart = tail_apart journal outputs (apart_right captures (journal ∷ outputs) h.apart);
  clear = without captures journal outputs (clear_of captures (journal ∷ outputs) h.apart);
  few = h.few;
}

pub no_capture : (captures : List ℕ) (journal : ℕ) (outputs : List ℕ) (told : Told) → AreRead captures journal outputs told → All (λ (f : ℕ). f ≢ journal) captures
no_capture captures journal outputs told h = not_left captures journal outputs (clear_of captures (journal ∷ outputs) h.apart)

pub no_output : (captures : List ℕ) (journal : ℕ) (outputs : List ℕ) (told : Told) → AreRead captures journal outputs told → All (λ (f : ℕ). f ≢ journal) outputs
no_output captures journal outputs told h = not_right journal outputs (apart_right captures (journal ∷ outputs) h.apart)

-- files stay open
pub beside_on : (captures outputs : List ℕ) (old new : Told) → ((g : ℕ) → new.kind g ≡ old.kind g) → AreBeside captures outputs old → AreBeside captures outputs new
beside_on captures outputs old new kinds h = record { opened = λ k file e. kinds file ∙ h.opened k file e; apart = h.apart; clear = h.clear; few = h.few }
