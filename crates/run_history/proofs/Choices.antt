-- Choices that are read index by index.
use Rattle.std.proofs.Common.{◌≡◌, ◌≢◌, ℕ, ◌<◌, ◌≤◌, Bool, true, false, List, [], ◌∷◌, ◌++◌, length, get_or, refl, sym, ap, subst, ◌∙◌, append_assoc, append-nil, length-append, arith}
use Rattle.std.specs.Prelude.{decimal}
use Rattle.std.specs.List.{AllByRecursion}
use Rattle.run_history.specs.Line.{choices_word, more_choices}
use Rattle.run_history.specs.Lines.{IsShort, AreChoices}
use Rattle.run_history.specs.Reading.{IsFree, PutsIndex, ReadsIndices, listed}
use Rattle.run_history.proofs.Words.{same_cut, not_free, free_both, number_free, number_one, first_of_number}

abbrev pub AreShort : List ℕ → Type 0
AreShort picks = AllByRecursion IsShort picks

comma_free : (n : ℕ) → IsShort n → IsFree 44 (decimal n)
comma_free n h = number_free 44 n (omega arith) h

pub short_more : (picks : List ℕ) (n : ℕ) → AreShort picks → IsShort n → AreShort (picks ++ n ∷ [])
short_more [] n h k = (k, tt)
short_more (i ∷ picks) n h k = (h.0, short_more picks n h.1 k)

listed_behind : (i : ℕ) (is rest : List ℕ) → listed (i ∷ is) ++ rest ≡ decimal i ++ 44 ∷ (listed is ++ rest)
listed_behind i is rest = append_assoc (decimal i) (44 ∷ listed is) rest

-- one more index with its comma
pub listed_more : (picks : List ℕ) (n : ℕ) (rest : List ℕ) → listed (picks ++ n ∷ []) ++ rest ≡ listed picks ++ (decimal n ++ 44 ∷ rest)
listed_more [] n rest = append_assoc (decimal n) (44 ∷ []) rest
listed_more (i ∷ picks) n rest =
    listed_behind i (picks ++ n ∷ []) rest
    ∙ ap (λ (t : List ℕ). decimal i ++ 44 ∷ t) (listed_more picks n rest)
    ∙ sym (listed_behind i picks (decimal n ++ 44 ∷ rest))

two_more : (i j : ℕ) (is : List ℕ) → choices_word (i ∷ j ∷ is) ≡ decimal i ++ 44 ∷ choices_word (j ∷ is)
two_more i j is = refl

-- the last index
pub listed_last : (picks : List ℕ) (n : ℕ) → choices_word (picks ++ n ∷ []) ≡ listed picks ++ decimal n
listed_last [] n = append-nil (decimal n)
listed_last (i ∷ []) n = ap (λ (t : List ℕ). decimal i ++ 44 ∷ t) (append-nil (decimal n)) ∙ sym (append_assoc (decimal i) (44 ∷ []) (decimal n))
listed_last (i ∷ j ∷ picks) n =
    two_more i j (picks ++ n ∷ [])
    ∙ ap (λ (t : List ℕ). decimal i ++ 44 ∷ t) (listed_last (j ∷ picks) n)
    ∙ sym (listed_behind i (j ∷ picks) (decimal n))

-- what is left of indices behind the first few
pub record Left (picks rest : List ℕ) (all : List ℕ) : Type 0 where
  pub first : ℕ
  pub others : List ℕ
  pub is : all ≡ picks ++ first ∷ others
  pub spelled : rest ≡ choices_word (first ∷ others)
  pub short : IsShort first
  pub shorts : AreShort others

one_alone : (i a : ℕ) (is rest : List ℕ) → IsShort a → listed (i ∷ is) ++ rest ≡ choices_word (a ∷ []) → ⊥
one_alone i a is rest h e =
    let all : decimal i ++ 44 ∷ (listed is ++ rest) ≡ decimal a = sym (listed_behind i is rest) ∙ e ∙ append-nil (decimal a) in
    not_free 44 (decimal i) (listed is ++ rest) (let P : List ℕ → Type 0 = λ bs. IsFree 44 bs in subst P (sym all) (comma_free a h))

pub left_of : (picks rest : List ℕ) (a : ℕ) (later : List ℕ) → AreShort picks → IsShort a → AreShort later → listed picks ++ rest ≡ choices_word (a ∷ later) → Left picks rest (a ∷ later)
left_of [] rest a later h k l e = record { first = a; others = later; is = refl; spelled = e; short = k; shorts = l }
left_of (i ∷ is) rest a [] h k l e = absurd (one_alone i a is rest k e)
left_of (i ∷ is) rest a (b ∷ bs) h k l e =
    let two = same_cut 44 (decimal i) (decimal a) (listed is ++ rest) (choices_word (b ∷ bs)) (comma_free i h.0) (comma_free a k) (sym (listed_behind i is rest) ∙ e) in
    let more = left_of is rest b bs h.1 l.0 l.1 two.1 in
    record {
      first = more.first;
      others = more.others;
      is = ap (λ (n : ℕ). n ∷ (b ∷ bs)) (sym (number_one i a h.0 k two.0)) ∙ ap (λ (t : List ℕ). i ∷ t) more.is;
      spelled = more.spelled;
      short = more.short;
      shorts = more.shorts;
    }

-- ---- why no indices are spelled

pub no_last : (word picks rest : List ℕ) → AreShort picks → listed picks ++ rest ≡ word → IsFree 44 rest → ((n : ℕ) → IsShort n → decimal n ≢ rest)
    → (a : ℕ) (later : List ℕ) → AreChoices (a ∷ later) → choices_word (a ∷ later) ≢ word
no_last word picks rest h cut free none a later k e = let left = left_of picks rest a later h k.short.0 k.short.1 (cut ∙ sym e) in at_end left.first left.others left.short left.spelled
  where
    at_end : (n : ℕ) (others : List ℕ) → IsShort n → rest ≡ choices_word (n ∷ others) → ⊥
    at_end n [] p q = none n p (sym (q ∙ append-nil (decimal n)))
    at_end n (m ∷ more) p q = not_free 44 (decimal n) (choices_word (m ∷ more)) (let P : List ℕ → Type 0 = λ bs. IsFree 44 bs in subst P q free)

pub no_index : (word picks rest index more : List ℕ) → AreShort picks → listed picks ++ rest ≡ word → IsFree 44 index → index ++ 44 ∷ more ≡ rest → ((n : ℕ) → IsShort n → decimal n ≢ index)
    → (a : ℕ) (later : List ℕ) → AreChoices (a ∷ later) → choices_word (a ∷ later) ≢ word
no_index word picks rest index more h cut free next none a later k e = let left = left_of picks rest a later h k.short.0 k.short.1 (cut ∙ sym e) in in_front left.first left.others left.short left.spelled
  where
    in_front : (n : ℕ) (others : List ℕ) → IsShort n → rest ≡ choices_word (n ∷ others) → ⊥
    in_front n [] p q = not_free 44 index more (let P : List ℕ → Type 0 = λ bs. IsFree 44 bs in subst P (sym (next ∙ q ∙ append-nil (decimal n))) (comma_free n p))
    in_front n (m ∷ others) p q = none n p (sym (same_cut 44 index (decimal n) more (choices_word (m ∷ others)) free (comma_free n p) (next ∙ q)).0)

pub too_many : (word picks rest : List ℕ) → AreShort picks → listed picks ++ rest ≡ word → 16 ≤ length picks
    → (a : ℕ) (later : List ℕ) → AreChoices (a ∷ later) → choices_word (a ∷ later) ≢ word
too_many word picks rest h cut many a later k e =
    let left = left_of picks rest a later h k.short.0 k.short.1 (cut ∙ sym e) in
    absurd (omega (arith, k.few, ap (λ (t : List ℕ). length t) left.is, length-append picks (left.first ∷ left.others)))

-- ---- what was read

pub all_read : (word picks rest : List ℕ) (n : ℕ) → AreShort picks → length picks < 16 → listed picks ++ rest ≡ word → IsShort n → decimal n ≡ rest → AreChoices (picks ++ n ∷ []) × (choices_word (picks ++ n ∷ []) ≡ word)
all_read word picks rest n h few cut k e = (
  record { few = omega (arith, length-append picks (n ∷ [])); short = short_more picks n h k },
  listed_last picks n ∙ ap (λ (t : List ℕ). listed picks ++ t) e ∙ cut,
)

pub one_read : (word picks rest index more : List ℕ) (n : ℕ) → listed picks ++ rest ≡ word → index ++ 44 ∷ more ≡ rest → decimal n ≡ index → listed (picks ++ n ∷ []) ++ more ≡ word
one_read word picks rest index more n cut next e = listed_more picks n more ∙ ap (λ (t : List ℕ). listed picks ++ (t ++ 44 ∷ more)) e ∙ ap (λ (t : List ℕ). listed picks ++ t) next ∙ cut

pub last_read : (word picks rest new : List ℕ) (b : Bool) → AreShort picks → length picks < 16 → listed picks ++ rest ≡ word → IsFree 44 rest → PutsIndex rest picks new b → ReadsIndices word new b
last_read word picks rest new true h few cut free put =
    let P : List ℕ → Type 0 = λ ps. AreChoices ps × (choices_word ps ≡ word) in
    subst P (sym put.3) (all_read word picks rest put.0 h few cut put.1 put.2)
last_read word picks rest new false h few cut free put = no_last word picks rest h cut free put.0

-- ---- choices with one spelling are one

dash_other : (b : ℕ) (bs : List ℕ) → IsShort b → choices_word [] ≡ choices_word (b ∷ bs) → ⊥
dash_other b bs h e = omega (arith, first_of_number b (more_choices bs) h, ap (λ (t : List ℕ). get_or t 0 0) e)

pub choices_one : (a b : List ℕ) → AreShort a → AreShort b → choices_word a ≡ choices_word b → a ≡ b
choices_one [] [] h k e = refl
choices_one [] (b ∷ bs) h k e = absurd (dash_other b bs k.0 e)
choices_one (a ∷ more) [] h k e = absurd (dash_other a more h.0 (sym e))
choices_one (a ∷ []) (b ∷ []) h k e = ap (λ (n : ℕ). n ∷ []) (number_one a b h.0 k.0 (sym (append-nil (decimal a)) ∙ e ∙ append-nil (decimal b)))
choices_one (a ∷ []) (b ∷ c ∷ cs) h k e = absurd (one_alone b a [] (choices_word (c ∷ cs)) h.0 (listed_behind b [] (choices_word (c ∷ cs)) ∙ sym e))
choices_one (a ∷ c ∷ cs) (b ∷ []) h k e = absurd (one_alone a b [] (choices_word (c ∷ cs)) k.0 (listed_behind a [] (choices_word (c ∷ cs)) ∙ e))
choices_one (a ∷ x ∷ xs) (b ∷ y ∷ ys) h k e =
    let two = same_cut 44 (decimal a) (decimal b) (choices_word (x ∷ xs)) (choices_word (y ∷ ys)) (comma_free a h.0) (comma_free b k.0) e in
    ap (λ (n : ℕ). n ∷ (x ∷ xs)) (number_one a b h.0 k.0 two.0) ∙ ap (λ (t : List ℕ). b ∷ t) (choices_one (x ∷ xs) (y ∷ ys) h.1 k.1 two.1)

in_line_more : (picks : List ℕ) → AreShort picks → IsFree 10 (more_choices picks)
in_line_more [] h = tt
in_line_more (i ∷ picks) h = ((λ e. absurd (omega arith)), free_both 10 (decimal i) (more_choices picks) (number_free 10 i (omega arith) h.0) (in_line_more picks h.1))

pub choices_in_line : (picks : List ℕ) → AreShort picks → IsFree 10 (choices_word picks)
choices_in_line [] h = ((λ e. absurd (omega arith)), tt)
choices_in_line (i ∷ picks) h = free_both 10 (decimal i) (more_choices picks) (number_free 10 i (omega arith) h.0) (in_line_more picks h.1)
