-- Words and the bytes that part them.
use Rattle.std.proofs.Common.{◌≡◌, ℕ, ◌+◌, ◌%◌, ◌^◌, ◌≤◌, ◌<◌, Bool, true, false, not, ◌&&◌, eqb, List, [], ◌∷◌, ◌++◌, length, get_or, refl, ap, ◌∙◌, arith}
use Rattle.std.specs.Prelude.{codes, decimal}
use Rattle.std.specs.List.{AllByRecursion}
use Rattle.std.proofs.lemmas.List.{append_cancel_left}
use Rattle.std.proofs.lemmas.Bool.{eqb-false, not-true, and_parts}
use Rattle.std.proofs.lemmas.Fmt.{decimal_by_steps, decimal_injective, decimal_nonempty}
use Rattle.nf_base.specs.declared.done.Action.{Action}
use Rattle.nf_base.specs.declared.done.Action.TheVariants.{Skip, Drop, To, Flood}
use Rattle.run_history.specs.declared.line.Mode.{Mode}
use Rattle.run_history.specs.declared.line.Mode.TheVariants.{One, Shard, Lock}
use Rattle.run_history.specs.Line.{action_word, mode_word}
use Rattle.run_history.specs.Lines.{IsShort, IsAction}
use Rattle.run_history.specs.Reading.{IsFree}

pub same_cut : (sep : ℕ) (xs ys r s : List ℕ) → IsFree sep xs → IsFree sep ys → xs ++ (sep ∷ r) ≡ ys ++ (sep ∷ s) → (xs ≡ ys) × (r ≡ s)
same_cut sep [] [] r s h k e = (refl, cc)
same_cut sep [] (y ∷ ys) r s h k e = absurd (k.0 cc)
same_cut sep (x ∷ xs) [] r s h k e = absurd (h.0 cc)
same_cut sep (x ∷ xs) (y ∷ ys) r s h k e =
    let first : x ≡ y = cc in
    let rest : xs ++ (sep ∷ r) ≡ ys ++ (sep ∷ s) = cc in
    let more = same_cut sep xs ys r s h.1 k.1 rest in
    (ap (λ (c : ℕ). c ∷ xs) first ∙ ap (λ (t : List ℕ). y ∷ t) more.0, more.1)

-- a separator stands where words end
pub not_free : (sep : ℕ) (xs r : List ℕ) → IsFree sep (xs ++ (sep ∷ r)) → ⊥
not_free sep [] r h = h.0 refl
not_free sep (x ∷ xs) r h = not_free sep xs r h.1

pub free_both : (sep : ℕ) (xs ys : List ℕ) → IsFree sep xs → IsFree sep ys → IsFree sep (xs ++ ys)
free_both sep [] ys h k = k
free_both sep (x ∷ xs) ys h k = (h.0, free_both sep xs ys h.1 k)

-- ---- numbers

abbrev AreDigits : List ℕ → Type 0
AreDigits xs = AllByRecursion (λ (c : ℕ). (48 ≤ c) × (c < 58)) xs

digits_push : (xs : List ℕ) (c : ℕ) → AreDigits xs → 48 ≤ c → c < 58 → AreDigits (xs ++ c ∷ [])
digits_push [] c h a b = ((a, b), tt)
digits_push (x ∷ xs) c h a b = (h.0, digits_push xs c h.1 a b)

digits_of : (n : ℕ) → n < 2 ^ 64 → AreDigits (decimal n)
digits_of n lt = decimal_by_steps (λ n ds. AreDigits ds) (λ n small. ((omega arith, omega arith), tt)) (λ n ds ge h. digits_push ds (48 + n % 10) h (omega arith) (omega arith)) n lt

digits_free : (sep : ℕ) (xs : List ℕ) → sep < 48 → AreDigits xs → IsFree sep xs
digits_free sep [] lt h = tt
digits_free sep (x ∷ xs) lt h = ((λ e. absurd (omega (arith, h.0.0))), digits_free sep xs lt h.1)

pub long_free : (sep n : ℕ) → sep < 48 → n < 2 ^ 64 → IsFree sep (decimal n)
long_free sep n lt small = digits_free sep (decimal n) lt (digits_of n small)

pub number_free : (sep n : ℕ) → sep < 48 → IsShort n → IsFree sep (decimal n)
number_free sep n lt small = long_free sep n lt (omega arith)

pub number_one : (m n : ℕ) → IsShort m → IsShort n → decimal m ≡ decimal n → m ≡ n
number_one m n h k e = decimal_injective m n (omega arith) (omega arith) e

first_digit : (ds r : List ℕ) → AreDigits ds → 0 < length ds → 48 ≤ get_or (ds ++ r) 0 0
first_digit [] r h lt = absurd (omega arith)
first_digit (d ∷ ds) r h lt = h.0.0

pub first_of_number : (n : ℕ) (r : List ℕ) → IsShort n → 48 ≤ get_or (decimal n ++ r) 0 0
first_of_number n r small = first_digit (decimal n) r (digits_of n (omega arith)) (decimal_nonempty n (omega arith))

last_digit : (ds r : List ℕ) → AreDigits ds → 0 < length ds → get_or (ds ++ r) 0 0 < 58
last_digit [] r h lt = absurd (omega arith)
last_digit (d ∷ ds) r h lt = h.0.1

pub below_colon : (n : ℕ) (r : List ℕ) → IsShort n → get_or (decimal n ++ r) 0 0 < 58
below_colon n r small = last_digit (decimal n) r (digits_of n (omega arith)) (decimal_nonempty n (omega arith))

-- ---- words that are written out

abbrev pub lacks : ℕ → List ℕ → Bool
lacks sep [] = true
lacks sep (c ∷ cs) = not (eqb c sep) && lacks sep cs

pub free_by_test : (sep : ℕ) (xs : List ℕ) → lacks sep xs ≡ true → IsFree sep xs
free_by_test sep [] h = tt
free_by_test sep (c ∷ cs) h =
    let both = and_parts (not (eqb c sep)) (lacks sep cs) h in
    (eqb-false c sep (not-true (eqb c sep) both.0), free_by_test sep cs both.1)

-- ---- actions and modes

abbrev first_byte : List ℕ → ℕ
first_byte xs = get_or xs 0 0

pub action_free : (a : Action) → IsAction a → IsFree 32 (action_word a)
action_free Skip h = free_by_test 32 (codes "skip") refl
action_free Drop h = free_by_test 32 (codes "drop") refl
action_free Flood h = free_by_test 32 (codes "flood") refl
action_free (To port) h = free_both 32 (codes "to:") (decimal port) (free_by_test 32 (codes "to:") refl) (number_free 32 port (omega arith) h)

pub action_in_line : (a : Action) → IsAction a → IsFree 10 (action_word a)
action_in_line Skip h = free_by_test 10 (codes "skip") refl
action_in_line Drop h = free_by_test 10 (codes "drop") refl
action_in_line Flood h = free_by_test 10 (codes "flood") refl
action_in_line (To port) h = free_both 10 (codes "to:") (decimal port) (free_by_test 10 (codes "to:") refl) (number_free 10 port (omega arith) h)

clash : {A : Type 0} (xs ys : List ℕ) → xs ≡ ys → eqb (first_byte xs) (first_byte ys) ≡ false → A
clash xs ys e ne = absurd (eqb-false (first_byte xs) (first_byte ys) ne (ap first_byte e))

pub action_one : (a b : Action) → IsAction a → IsAction b → action_word a ≡ action_word b → a ≡ b
action_one Skip Skip h k e = refl
action_one Skip Drop h k e = clash _ _ e refl
action_one Skip Flood h k e = clash _ _ e refl
action_one Skip (To q) h k e = clash _ _ e refl
action_one Drop Skip h k e = clash _ _ e refl
action_one Drop Drop h k e = refl
action_one Drop Flood h k e = clash _ _ e refl
action_one Drop (To q) h k e = clash _ _ e refl
action_one Flood Skip h k e = clash _ _ e refl
action_one Flood Drop h k e = clash _ _ e refl
action_one Flood Flood h k e = refl
action_one Flood (To q) h k e = clash _ _ e refl
action_one (To p) Skip h k e = clash _ _ e refl
action_one (To p) Drop h k e = clash _ _ e refl
action_one (To p) Flood h k e = clash _ _ e refl
action_one (To p) (To q) h k e = ap To (number_one p q h k (append_cancel_left (codes "to:") (decimal p) (decimal q) e))

pub mode_free : (m : Mode) → IsFree 32 (mode_word m)
mode_free One = free_by_test 32 (codes "one") refl
mode_free Shard = free_by_test 32 (codes "shard") refl
mode_free Lock = free_by_test 32 (codes "lock") refl

pub mode_in_line : (m : Mode) → IsFree 10 (mode_word m)
mode_in_line One = free_by_test 10 (codes "one") refl
mode_in_line Shard = free_by_test 10 (codes "shard") refl
mode_in_line Lock = free_by_test 10 (codes "lock") refl

pub mode_one : (a b : Mode) → mode_word a ≡ mode_word b → a ≡ b
mode_one One One e = refl
mode_one One Shard e = clash _ _ e refl
mode_one One Lock e = clash _ _ e refl
mode_one Shard One e = clash _ _ e refl
mode_one Shard Shard e = refl
mode_one Shard Lock e = clash _ _ e refl
mode_one Lock One e = clash _ _ e refl
mode_one Lock Shard e = clash _ _ e refl
mode_one Lock Lock e = refl
