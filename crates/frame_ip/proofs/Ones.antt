-- One's complement sums under an update.
use Rattle.std.proofs.Common.{◌≡◌, ℕ, zero, suc, ◌+◌, ◌-◌, ◌*◌, ◌/◌, ◌<◌, ◌≤◌, Bool, true, false, cond, eqb, List, [], ◌∷◌, ◌++◌, slice_index, Option, Some, None, inl, inr, refl, subst, arith}
use Rattle.std.specs.List.{AllByRecursion}
use Rattle.std.proofs.lemmas.Bool.{cases_lt, lt-ltb, le-ltb, eqb-true}
use Rattle.nf_base.specs.declared.done.Edits.{Edits}
use Rattle.frame_ip.specs.Bytes.{number_at}
use Rattle.frame_ip.specs.Writes.{Write, port_words, ports}
use Rattle.frame_ip.specs.Checksum.{halves, folded, fold, changes, updated, udp_checksum}
use Rattle.frame_ip.specs.Sums.{old_words, new_words, KeepsRight}

-- what a folded sum is: the sum less a multiple of 65535, within 16 bits, and 0 for 0 alone
record Folds (sum result : ℕ) : Type 0 where
  pub times : ℕ
  pub same : result + 65535 * times ≡ sum
  pub small : result < 65536
  pub positive : 0 < sum → 0 < result

one_more : (sum result : ℕ) → 65536 ≤ sum → Folds (halves sum) result → Folds sum result
one_more sum result large f = record {
  times = f.times + sum / 65536;
  same = omega (arith, f.same);
  small = f.small;
  positive = λ p. f.positive (omega arith);
}

folds_within : (most sum : ℕ) → sum ≤ most → Folds sum (folded most sum)
unfolding folded
folds_within zero sum le = record { times = 0; same = omega arith; small = omega arith; positive = λ p. omega arith }
folds_within (suc most) sum le = elim (cases_lt sum 65536) [
  | inl small ↦ rw (lt-ltb sum 65536 small) (record { times = 0; same = omega arith; small = small; positive = λ p. p })
  | inr large ↦ rw (le-ltb sum 65536 large) (one_more sum (folded most (halves sum)) large (folds_within most (halves sum) (omega arith)))
]

folds : (sum : ℕ) → Folds sum (fold sum)
folds sum = folds_within sum sum (omega arith)

-- each word has 16 bits
abbrev pub AreWords : List ℕ → List Write → Type 0
AreWords frame ws = AllByRecursion (λ w. (number_at frame w.at 2 < 65536) × (w.word < 65536)) ws

-- the changes are new words less old ones, and a multiple of 65535
record Exchanges (frame : List ℕ) (ws : List Write) : Type 0 where
  pub times : ℕ
  pub same : changes frame ws + old_words frame ws ≡ new_words ws + 65535 * times

one_change : (b : Bool) (old new : ℕ) → eqb old new ≡ b → old < 65536 → (t : ℕ) × (cond b 0 ((65535 - old) + new) + old ≡ new + 65535 * t)
one_change true old new e lt = (0, omega (arith, eqb-true old new e))
one_change false old new e lt = (1, omega arith)

exchanges : (frame : List ℕ) (ws : List Write) → AreWords frame ws → Exchanges frame ws
exchanges frame [] words = record { times = 0; same = omega arith }
exchanges frame (w ∷ ws) words =
    let one = one_change (eqb (number_at frame w.at 2) w.word) (number_at frame w.at 2) w.word refl words.0.0 in
    let more = exchanges frame ws words.1 in
    record { times = one.0 + more.times; same = omega (arith, one.1, more.same) }

-- a sum of one more than nothing that is a multiple of 65535 folds to 0xffff
is_right : (sum times : ℕ) → 0 < sum → sum ≡ 65535 * times → fold sum ≡ 65535
is_right sum times some is = let f = folds sum in omega (arith, f.same, f.small, f.positive some)

pub keeps : (frame : List ℕ) (at : ℕ) (ws : List Write) → AreWords frame ws → number_at frame at 2 < 65536 → KeepsRight frame ws (number_at frame at 2) (updated frame at ws)
keeps frame at ws words small others some right =
    let old = number_at frame at 2 in
    let before = folds (others + (old_words frame ws + old)) in
    let out = folds ((65535 - old) + changes frame ws) in
    let e = exchanges frame ws words in
    is_right (others + (new_words ws + updated frame at ws)) ((before.times + 1 + out.times) - e.times) (omega arith)
    (omega (arith, before.same, right, out.same, out.small, e.same))

-- ---- the words of edits

abbrev pub AreBytes : List ℕ → Type 0
AreBytes frame = (i : ℕ) → slice_index frame i < 256

pub word_small : (frame : List ℕ) (at : ℕ) → AreBytes frame → number_at frame at 2 < 65536
word_small frame at bytes = omega (arith, bytes (at + 0), bytes (at + 1))

pub words_more : (frame : List ℕ) (a b : List Write) → AreWords frame a → AreWords frame b → AreWords frame (a ++ b)
words_more frame [] b p q = q
words_more frame (w ∷ a) b p q = (p.0, words_more frame a b p.1 q)

pub port_is : (frame : List ℕ) (at : ℕ) (value : Option ℕ) → AreBytes frame → AreWords frame (port_words at value)
port_is frame at None bytes = tt
port_is frame at (Some v) bytes = ((word_small frame at bytes, omega arith), tt)

pub ports_are : (e : Edits) (frame : List ℕ) (s : ℕ) → AreBytes frame → AreWords frame (ports e s)
ports_are e frame s bytes = words_more frame (port_words s e.src_port) (port_words (s + 2) e.dst_port) (port_is frame s e.src_port bytes) (port_is frame (s + 2) e.dst_port bytes)

-- 0xffff counts as 0
right_more : (sum : ℕ) → fold sum ≡ 65535 → fold (sum + 65535) ≡ 65535
right_more sum right =
    let f = folds sum in
    is_right (sum + 65535) (f.times + 2) (omega arith) (omega (arith, f.same, right))

sent : (frame : List ℕ) (ws : List Write) (old new : ℕ) (b : Bool) → eqb new 0 ≡ b → KeepsRight frame ws old new → KeepsRight frame ws old (cond b 65535 new)
sent frame ws old new true is kept others some right =
    let zero : new ≡ 0 = eqb-true new 0 is in
    let before = kept others some right in
    let same : others + (new_words ws + new) + 65535 ≡ others + (new_words ws + 65535) = omega arith in
    subst (λ (n : ℕ). fold n ≡ 65535) same (right_more (others + (new_words ws + new)) before)
sent frame ws old new false is kept others some right = kept others some right

udp_kept : (frame : List ℕ) (ws : List Write) (old new : ℕ) (b : Bool) → eqb old 0 ≡ b → (old ≡ 0 → ⊥) → KeepsRight frame ws old new → KeepsRight frame ws old (cond b 0 (cond (eqb new 0) 65535 new))
udp_kept frame ws old new true is some kept = absurd (some (eqb-true old 0 is))
udp_kept frame ws old new false is some kept = sent frame ws old new (eqb new 0) refl kept

pub by_protocol : (frame : List ℕ) (ws : List Write) (old new : ℕ) (b : Bool) → (b ≡ true → old ≡ 0 → ⊥) → KeepsRight frame ws old new → KeepsRight frame ws old (cond b (udp_checksum old new) new)
by_protocol frame ws old new true some kept = udp_kept frame ws old new (eqb old 0) refl (some refl) kept
by_protocol frame ws old new false some kept = kept
