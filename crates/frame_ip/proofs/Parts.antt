-- Sums of the words of a part of a frame, into which a word is written.
use Rattle.std.proofs.Common.{◌≡◌, ◌≢◌, ℕ, zero, suc, ◌+◌, ◌-◌, ◌*◌, ◌/◌, ◌%◌, ◌<◌, ◌≤◌, List, [], ◌∷◌, length, take, drop, set, get_or, refl, ap, sym, subst, ◌∙◌, add-zero, arith}
use Rattle.std.proofs.lemmas.List.{length-set, length-take, length-drop, get_or-set_same, get_or-set_other, get_or-take, get_or-drop, take-set-le, drop-set-lt, drop-set-add}
use Rattle.frame_ip.specs.Bytes.{number_at}
use Rattle.frame_ip.specs.Writes.{Write, put}
use Rattle.frame_ip.specs.Sums.{word_sum, part}

-- twice a number, which computes
abbrev pub double : ℕ → ℕ
double zero = zero
double (suc k) = suc (suc (double k))

-- a word is written at an even place of some bytes
sum_put : (xs : List ℕ) (k high low : ℕ) → double k + 1 < length xs → word_sum (set (set xs (double k) high) (suc (double k)) low) + (get_or xs (double k) 0 * 256 + get_or xs (suc (double k)) 0) ≡ word_sum xs + (high * 256 + low)
unfolding word_sum
sum_put [] k high low lt = absurd (omega arith)
sum_put (a ∷ []) k high low lt = absurd (omega arith)
sum_put (a ∷ b ∷ xs) zero high low lt = omega arith
sum_put (a ∷ b ∷ xs) (suc k) high low lt = let more = sum_put xs k high low (omega arith) in omega (arith, more)

pub word_is : (f : List ℕ) (at : ℕ) → number_at f at 2 ≡ get_or f at 0 * 256 + get_or f (at + 1) 0
word_is f at = ap (λ (n : ℕ). (0 * 256 + get_or f n 0) * 256 + get_or f (at + 1) 0) (add-zero at) ∙ omega arith

take_set : (c : ℕ) (xs : List ℕ) (i v : ℕ) → i < c → take c (set xs i v) ≡ set (take c xs) i v
take_set zero xs i v lt = absurd (omega arith)
take_set (suc c) [] i v lt = refl
take_set (suc c) (x ∷ xs) zero v lt = refl
take_set (suc c) (x ∷ xs) (suc i) v lt = ap (λ (r : List ℕ). x ∷ r) (take_set c xs i v (omega arith))

-- a byte of the part is written
part_set : (s c : ℕ) (f : List ℕ) (i v : ℕ) → i < c → part s c (set f (s + i) v) ≡ set (part s c f) i v
part_set s c f i v lt = ap (take c) (drop-set-add s f i v) ∙ take_set c (drop s f) i v lt

-- a byte behind the part is written
part_past : (s c : ℕ) (f : List ℕ) (i v : ℕ) → s + c ≤ i → part s c (set f i v) ≡ part s c f
part_past s c f i v le =
    let e : i ≡ s + (i - s) = omega arith in
    ap (λ (n : ℕ). part s c (set f n v)) e ∙ ap (take c) (drop-set-add s f (i - s) v) ∙ take-set-le c (drop s f) (i - s) v (omega arith)

part_read : (s c : ℕ) (f : List ℕ) (i : ℕ) → i < c → get_or (part s c f) i 0 ≡ get_or f (s + i) 0
part_read s c f i lt = get_or-take c (drop s f) i 0 lt ∙ get_or-drop s f i 0

part_long : (s c : ℕ) (f : List ℕ) → s + c ≤ length f → length (part s c f) ≡ c
part_long s c f le = omega (arith, length-take c (drop s f), length-drop s f)

part_put_at : (s c : ℕ) (f : List ℕ) (k word : ℕ) → double k + 2 ≤ c → s + c ≤ length f
    → word_sum (part s c (put (record { at = s + double k; word = word }) f)) + number_at f (s + double k) 2 ≡ word_sum (part s c f) + word
part_put_at s c f k word le long =
    let i = double k in
    let xs = part s c f in
    let high = word / 256 in
    let low = word % 256 in
    let next : (s + i) + 1 ≡ s + suc i = omega arith in
    let is : part s c (put (record { at = s + i; word = word }) f) ≡ set (set xs i high) (suc i) low =
    ap (λ (n : ℕ). part s c (set (set f (s + i) high) n low)) next ∙ part_set s c (set f (s + i) high) (suc i) low (omega arith) ∙ ap (λ (ys : List ℕ). set ys (suc i) low) (part_set s c f i high (omega arith)) in
    let old : number_at f (s + i) 2 ≡ get_or xs i 0 * 256 + get_or xs (suc i) 0 =
    word_is f (s + i) ∙ ap (λ (n : ℕ). get_or f (s + i) 0 * 256 + get_or f n 0) next ∙ ap (λ (n : ℕ). get_or f (s + i) 0 * 256 + n) (sym (part_read s c f (suc i) (omega arith))) ∙ ap (λ (n : ℕ). n * 256 + get_or xs (suc i) 0) (sym (part_read s c f i (omega arith))) in
    let sum = sum_put xs k high low (omega (arith, part_long s c f long)) in
    omega (arith, ap word_sum is, old, sum)

-- a word is written at an even place of the part
pub part_put : (s c : ℕ) (f : List ℕ) (w : Write) (k : ℕ) → w.at ≡ s + double k → w.at + 2 ≤ s + c → s + c ≤ length f
    → word_sum (part s c (put w f)) + number_at f w.at 2 ≡ word_sum (part s c f) + w.word
part_put s c f w k e le long =
    subst (λ (n : ℕ). word_sum (part s c (put (record { at = n; word = w.word }) f)) + number_at f n 2 ≡ word_sum (part s c f) + w.word) (sym e) (part_put_at s c f k w.word (omega arith) long)

-- a word is written in front of the part
pub part_below : (s c : ℕ) (f : List ℕ) (w : Write) → w.at + 2 ≤ s → part s c (put w f) ≡ part s c f
part_below s c f w le = ap (take c) (drop-set-lt s (set f w.at (w.word / 256)) (w.at + 1) (w.word % 256) (omega arith) ∙ drop-set-lt s f w.at (w.word / 256) (omega arith))

-- a word is written behind the part
pub part_above : (s c : ℕ) (f : List ℕ) (w : Write) → s + c ≤ w.at → part s c (put w f) ≡ part s c f
part_above s c f w le = part_past s c (set f w.at (w.word / 256)) (w.at + 1) (w.word % 256) (omega arith) ∙ part_past s c f w.at (w.word / 256) le

first_counts : (xs : List ℕ) → 256 * get_or xs 0 0 ≤ word_sum xs
unfolding word_sum
first_counts [] = omega arith
first_counts (a ∷ []) = omega arith
first_counts (a ∷ b ∷ xs) = omega arith

-- the first byte of a part counts in its sum
pub part_first : (s c : ℕ) (f : List ℕ) → 0 < c → 256 * get_or f s 0 ≤ word_sum (part s c f)
part_first s c f some =
    let same : get_or (part s c f) 0 0 ≡ get_or f s 0 = part_read s c f 0 some ∙ ap (λ (n : ℕ). get_or f n 0) (add-zero s) in
    omega (arith, first_counts (part s c f), same)

-- a byte where nothing is written stays
pub byte_stays : (f : List ℕ) (w : Write) (j : ℕ) → j ≢ w.at → j ≢ w.at + 1 → get_or (put w f) j 0 ≡ get_or f j 0
byte_stays f w j p q = get_or-set_other (set f w.at (w.word / 256)) (w.at + 1) j (w.word % 256) 0 q ∙ get_or-set_other f w.at j (w.word / 256) 0 p

pub put_long : (f : List ℕ) (w : Write) → length (put w f) ≡ length f
put_long f w = length-set (set f w.at (w.word / 256)) (w.at + 1) (w.word % 256) ∙ length-set f w.at (w.word / 256)

-- a word that was written is read
pub word_read : (f : List ℕ) (w : Write) → w.at + 2 ≤ length f → number_at (put w f) w.at 2 ≡ w.word
word_read f w le =
    let mid = set f w.at (w.word / 256) in
    let low : get_or (put w f) (w.at + 1) 0 ≡ w.word % 256 = get_or-set_same mid (w.at + 1) (w.word % 256) 0 (omega (arith, length-set f w.at (w.word / 256))) in
    let high : get_or (put w f) w.at 0 ≡ w.word / 256 = get_or-set_other mid (w.at + 1) w.at (w.word % 256) 0 (λ e. omega arith) ∙ get_or-set_same f w.at (w.word / 256) 0 (omega arith) in
    omega (arith, word_is (put w f) w.at, low, high)
