-- Trees line by line.
use Rattle.std.proofs.Common.{◌≡◌, ℕ, zero, suc, ◌+◌, ◌<◌, ◌≤◌, ◌==◌, ◌&&◌, ◌≢◌, nat_lt, refl, sym, ap, ◌∙◌, inl, inr, Bool, true, false, List, [], ◌∷◌, ◌++◌, length, All, Option, Some, None, get_or, arith, if◌then◌else◌, subst}
use Rattle.std.proofs.lemmas.Bool.{and_parts, cases_Bool, cases_eq, false≢true}
use Rattle.std.proofs.lemmas.List.Elements.{All-nil, All-cons, All-head, All-tail}
use Rattle.std.proofs.lemmas.Option.{none-some, same_Some}
use Rattle.gf2_solve.specs.Sums.{plus, bit, sum_of}
use Rattle.certificate_laws.specs.declared.line.Term.{Term}
use Rattle.certificate_laws.specs.declared.line.Line.{Line}
use Rattle.certificate_laws.specs.declared.line.Line.TheVariants as line
use Rattle.certificate_laws.specs.declared.line.Span.{Span}
use Rattle.certificate_laws.specs.Fixed.{with_bit, fixed_before, HasFixed}
use Rattle.certificate_laws.specs.Terms.{alone, is_sum}
use Rattle.certificate_laws.specs.Trees.{Split, Clash, Zero, are_zero, zeros_of, is_span, checks, Meets, IsRefuted}
use Rattle.certificate_laws.specs.Due.{Due, Naming, Whole, Clashing, Zeros, with_zeros, after_tree, after_sum, after_name, after, nots, and_then, after_all, sum_lines, lines_of, LinesRefute, LinesRefuteAll, TreesAreTaken}
use Rattle.certificate_laws.proofs.Adding.{sum_is, sum_of-alone}
use Rattle.certificate_laws.proofs.Refuting.{of_span, split_refutes, clash_refutes}
use Rattle.certificate_laws.proofs.Leaves.{both_true}

-- so many places from one on are 0 in each solution of the rows that has the fixed bits
pub record AreZero (rows : List (List Bool)) (fixed : List (Option Bool)) (place count : ℕ) : Type 0 where
  pub zero_there : (x : List Bool) → All (λ row. sum_of row x ≡ false) rows → HasFixed fixed x → (i : ℕ) → i < count → bit x (place + i) ≡ false

-- what it says that something is no longer due
Means : List (List Bool) → List Span → Due → Type 0
Means rows spans (Naming place) = Unit {0}
Means rows spans (Whole fixed) = IsRefuted rows spans fixed
Means rows spans (Clashing fixed) = IsRefuted rows spans fixed
Means rows spans (Zeros fixed place further) = AreZero rows fixed place (suc further)

-- the sums of a span, where they are the first of what is due
zeros_first : (rows : List (List Bool)) (spans : List Span) (fixed : List (Option Bool)) (place count : ℕ) (due : List Due)
    → All (Means rows spans) (with_zeros fixed place count due) → AreZero rows fixed place count × All (Means rows spans) due
unfolding Means
zeros_first rows spans fixed place zero due all = (record { zero_there = λ x sums has i below. absurd (omega (arith, below)) }, all)
zeros_first rows spans fixed place (suc further) due all =
    (All-head (Means rows spans) (Zeros fixed place further) due all, All-tail (Means rows spans) (Zeros fixed place further) due all)

span_refutes : (rows : List (List Bool)) (spans : List Span) (fixed : List (Option Bool)) (span : Span) → is_span spans span ≡ true
    → AreZero rows fixed span.first span.count → IsRefuted rows spans fixed
span_refutes rows spans fixed span within zeros = record {
  none = λ x admissible has.
      let meets : Meets x span = of_span (Meets x) spans span within admissible.met in
      false≢true (sym (zeros.zero_there x admissible.sums has meets.offset meets.within) ∙ meets.one);
}

one_zero : (rows : List (List Bool)) (fixed : List (Option Bool)) (place further : ℕ) (terms : List Term) → is_sum rows fixed terms (alone place) false ≡ true
    → AreZero rows fixed (suc place) further → AreZero rows fixed place (suc further)
one_zero rows fixed place further terms is more = record { zero_there = λ x sums has i below. at x i below (more.zero_there x sums has) (sum_is rows fixed x terms (alone place) false sums has is) }
  where
    at : (x : List Bool) (j : ℕ) → j < suc further → ((k : ℕ) → k < further → bit x (suc place + k) ≡ false) → sum_of (alone place) x ≡ false → bit x (place + j) ≡ false
    at x zero within rest here = let same : place + 0 ≡ place = omega arith in ap (bit x) same ∙ sym (sum_of-alone place x) ∙ here
    at x (suc j) within rest here = let same : place + suc j ≡ suc place + j = omega arith in ap (bit x) same ∙ rest j (omega (arith, within))

-- a sum line
sum_taken : (rows : List (List Bool)) (spans : List Span) (fixed : List (Option Bool)) (row : List Bool) (wanted : Bool) (due next : List Due) (line : Line) (first : Due)
    → ((terms : List Term) → is_sum rows fixed terms row wanted ≡ true → All (Means rows spans) due → Means rows spans first × All (Means rows spans) next)
    → (rest : List Due) → after_sum rows fixed row wanted due line ≡ Some rest → All (Means rows spans) rest → Means rows spans first × All (Means rows spans) next
sum_taken rows spans fixed row wanted due next (line.Split place) first holds rest is all = absurd (none-some rest is)
sum_taken rows spans fixed row wanted due next line.Clash first holds rest is all = absurd (none-some rest is)
sum_taken rows spans fixed row wanted due next (line.Zero span) first holds rest is all = absurd (none-some rest is)
sum_taken rows spans fixed row wanted due next (line.Not place) first holds rest is all = absurd (none-some rest is)
sum_taken rows spans fixed row wanted due next (line.Row named) first holds rest is all = absurd (none-some rest is)
sum_taken rows spans fixed row wanted due next (line.Key port key) first holds rest is all = absurd (none-some rest is)
sum_taken rows spans fixed row wanted due next (line.Sum terms) first holds rest is all = elim (cases_Bool (is_sum rows fixed terms row wanted)) [
  | inl good ↦ holds terms good (subst (All (Means rows spans)) (sym (same_Some due rest (sym (ap (λ t. if t then Some due else None) good) ∙ is))) all)
  | inr bad ↦ absurd (none-some rest (sym (ap (λ t. if t then Some due else None) bad) ∙ is))
]

tree_taken : (rows : List (List Bool)) (spans : List Span) (fixed : List (Option Bool)) (due : List Due) (line : Line) (rest : List Due)
    → after_tree rows spans fixed due line ≡ Some rest → All (Means rows spans) rest → IsRefuted rows spans fixed × All (Means rows spans) due
unfolding Means
tree_taken rows spans fixed due (line.Split place) rest is all =
    let off : Due = Whole (with_bit place false fixed) in
    let on : Due = Whole (with_bit place true fixed) in
    elim (cases_Bool (nat_lt place (length fixed))) [
      | inl within ↦
          let here : All (Means rows spans) (off ∷ on ∷ due) = subst (All (Means rows spans)) (sym (same_Some (off ∷ on ∷ due) rest (sym (ap (λ t. if t then Some (off ∷ on ∷ due) else None) within) ∙ is))) all in
          let more : All (Means rows spans) (on ∷ due) = All-tail (Means rows spans) off (on ∷ due) here in
          (split_refutes rows spans fixed place (All-head (Means rows spans) off (on ∷ due) here) (All-head (Means rows spans) on due more), All-tail (Means rows spans) on due more)
      | inr past ↦ absurd (none-some rest (sym (ap (λ t. if t then Some (off ∷ on ∷ due) else None) past) ∙ is))
    ]
tree_taken rows spans fixed due line.Clash rest is all =
    let here : All (Means rows spans) (Clashing fixed ∷ due) = subst (All (Means rows spans)) (sym (same_Some (Clashing fixed ∷ due) rest is)) all in
    (All-head (Means rows spans) (Clashing fixed) due here, All-tail (Means rows spans) (Clashing fixed) due here)
tree_taken rows spans fixed due (line.Zero span) rest is all =
    elim (cases_Bool (is_span spans span)) [
      | inl within ↦
          let here : All (Means rows spans) (with_zeros fixed span.first span.count due) =
          subst (All (Means rows spans)) (sym (same_Some (with_zeros fixed span.first span.count due) rest (sym (ap (λ t. if t then Some (with_zeros fixed span.first span.count due) else None) within) ∙ is))) all in
          let both = zeros_first rows spans fixed span.first span.count due here in
          (span_refutes rows spans fixed span within both.0, both.1)
      | inr past ↦ absurd (none-some rest (sym (ap (λ t. if t then Some (with_zeros fixed span.first span.count due) else None) past) ∙ is))
    ]
tree_taken rows spans fixed due (line.Sum terms) rest is all = absurd (none-some rest is)
tree_taken rows spans fixed due (line.Not place) rest is all = absurd (none-some rest is)
tree_taken rows spans fixed due (line.Row row) rest is all = absurd (none-some rest is)
tree_taken rows spans fixed due (line.Key port key) rest is all = absurd (none-some rest is)

-- a line that names a bit
name_taken : (rows : List (List Bool)) (spans : List Span) (place : ℕ) (due : List Due) (line : Line) (rest : List Due) → after_name place due line ≡ Some rest → All (Means rows spans) rest → All (Means rows spans) due
name_taken rows spans place due (line.Not other) rest is all = elim (cases_Bool (other == place)) [
  | inl good ↦ subst (All (Means rows spans)) (sym (same_Some due rest (sym (ap (λ t. if t then Some due else None) good) ∙ is))) all
  | inr bad ↦ absurd (none-some rest (sym (ap (λ t. if t then Some due else None) bad) ∙ is))
]
name_taken rows spans place due (line.Split other) rest is all = absurd (none-some rest is)
name_taken rows spans place due line.Clash rest is all = absurd (none-some rest is)
name_taken rows spans place due (line.Zero span) rest is all = absurd (none-some rest is)
name_taken rows spans place due (line.Sum terms) rest is all = absurd (none-some rest is)
name_taken rows spans place due (line.Row row) rest is all = absurd (none-some rest is)
name_taken rows spans place due (line.Key port key) rest is all = absurd (none-some rest is)

-- Where all that is due behind a line holds, all that was due before it does.
line_taken : (rows : List (List Bool)) (spans : List Span) (due : List Due) (line : Line) (rest : List Due) → after rows spans due line ≡ Some rest → All (Means rows spans) rest → All (Means rows spans) due
unfolding Means
line_taken rows spans [] line rest is all = absurd (none-some rest is)
line_taken rows spans (Naming place ∷ due) line rest is all = All-cons (Means rows spans) (Naming place) due tt (name_taken rows spans place due line rest is all)
line_taken rows spans (Whole fixed ∷ due) line rest is all =
    let both = tree_taken rows spans fixed due line rest is all in
    All-cons (Means rows spans) (Whole fixed) due both.0 both.1
line_taken rows spans (Clashing fixed ∷ due) line rest is all =
    let both = sum_taken rows spans fixed [] true due due line (Clashing fixed) (λ terms good more. (clash_refutes rows spans fixed terms good, more)) rest is all in
    All-cons (Means rows spans) (Clashing fixed) due both.0 both.1
line_taken rows spans (Zeros fixed place further ∷ due) line rest is all =
    let both = sum_taken rows spans fixed (alone place) false (with_zeros fixed (suc place) further due) due line (Zeros fixed place further)
    (λ terms good more. let parts = zeros_first rows spans fixed (suc place) further due more in (one_zero rows fixed place further terms good parts.0, parts.1)) rest is all in
    All-cons (Means rows spans) (Zeros fixed place further) due both.0 both.1

lines_taken : (rows : List (List Bool)) (spans : List Span) (due : List Due) (lines : List Line) → after_all rows spans due lines ≡ Some [] → All (Means rows spans) due
lines_taken rows spans due [] is = subst (All (Means rows spans)) (sym (same_Some due [] is)) (All-nil (Means rows spans))
lines_taken rows spans due (line ∷ lines) is = go (after rows spans due line) refl is (λ rest. lines_taken rows spans rest lines)
  where
    go : (next : Option (List Due)) → after rows spans due line ≡ next → and_then next (λ rest. after_all rows spans rest lines) ≡ Some [] → ((rest : List Due) → after_all rows spans rest lines ≡ Some [] → All (Means rows spans) rest)
        → All (Means rows spans) due
    go None there is more = absurd (none-some [] is)
    go (Some rest) there is more = line_taken rows spans due line rest there (more rest is)

pub lines_refute : LinesRefute
unfolding Means
lines_refute rows spans fixed lines is = All-head (Means rows spans) (Whole fixed) [] (lines_taken rows spans (Whole fixed ∷ []) lines is)

other_bit : (a b : Bool) → a ≢ b → plus a b ≡ true
other_bit false false other = absurd (other refl)
other_bit false true other = refl
other_bit true false other = refl
other_bit true true other = absurd (other refl)

-- each bit that is named is refuted
all_refuted : (counts : ℕ → Bool) (rows : List (List Bool)) (spans : List Span) (n : ℕ) (wanted x : List Bool) (count place : ℕ) → All (Means rows spans) (nots counts n wanted x count place)
    → (i : ℕ) → place ≤ i → i < place + count → counts i ≡ true → bit x i ≢ bit wanted i → IsRefuted rows spans (with_bit i (bit wanted i) (fixed_before counts n x i))
unfolding Means
all_refuted counts rows spans n wanted x zero place all i from below there other = absurd (omega (arith, from, below))
all_refuted counts rows spans n wanted x (suc count) place all i from below there other =
    elim (cases_Bool (counts place && plus (bit x place) (bit wanted place))) [
      | inl named ↦
          let tree : Due = Whole (with_bit place (bit wanted place) (fixed_before counts n x place)) in
          let rest : List Due = nots counts n wanted x count (suc place) in
          let here : All (Means rows spans) (Naming place ∷ tree ∷ rest) = subst (All (Means rows spans)) (ap (λ t. if t then Naming place ∷ tree ∷ rest else rest) named) all in
          let more : All (Means rows spans) (tree ∷ rest) = All-tail (Means rows spans) (Naming place) (tree ∷ rest) here in
          elim (cases_eq i place) [
            | inl same ↦ subst (λ (j : ℕ). IsRefuted rows spans (with_bit j (bit wanted j) (fixed_before counts n x j))) (sym same) (All-head (Means rows spans) tree rest more)
            | inr later ↦ all_refuted counts rows spans n wanted x count (suc place) (All-tail (Means rows spans) tree rest more) i (omega (arith, from, later)) (omega (arith, below)) there other
          ]
      | inr left ↦
          let tree : Due = Whole (with_bit place (bit wanted place) (fixed_before counts n x place)) in
          let rest : List Due = nots counts n wanted x count (suc place) in
          let here : All (Means rows spans) rest = subst (All (Means rows spans)) (ap (λ t. if t then Naming place ∷ tree ∷ rest else rest) left) all in
          elim (cases_eq i place) [
            | inl same ↦ absurd (false≢true (sym left ∙ both_true (counts place) (plus (bit x place) (bit wanted place)) (ap counts (sym same) ∙ there)
                (ap (λ j. plus (bit x j) (bit wanted j)) (sym same) ∙ other_bit (bit x i) (bit wanted i) other)))
            | inr later ↦ all_refuted counts rows spans n wanted x count (suc place) here i (omega (arith, from, later)) (omega (arith, below)) there other
          ]
    ]

pub lines_refute_all : LinesRefuteAll
lines_refute_all counts rows spans n wanted x lines is = record {
  each = λ i below there other. all_refuted counts rows spans n wanted x n 0 (lines_taken rows spans (nots counts n wanted x n 0) lines is) i (omega arith) (omega (arith, below)) there other;
}

-- lines behind one another
pub after_both : (rows : List (List Bool)) (spans : List Span) (due : List Due) (lines more : List Line) (next : List Due) → after_all rows spans due lines ≡ Some next
    → after_all rows spans due (lines ++ more) ≡ after_all rows spans next more
after_both rows spans due [] more next is = ap (λ d. after_all rows spans d more) (same_Some due next is)
after_both rows spans due (line ∷ lines) more next is = go (after rows spans due line) is (λ rest. after_both rows spans rest lines more next)
  where
    go : (o : Option (List Due)) → and_then o (λ rest. after_all rows spans rest lines) ≡ Some next → ((rest : List Due) → after_all rows spans rest lines ≡ Some next → after_all rows spans rest (lines ++ more) ≡ after_all rows spans next more)
        → and_then o (λ rest. after_all rows spans rest (lines ++ more)) ≡ after_all rows spans next more
    go None is both = absurd (none-some next is)
    go (Some rest) is both = both rest is

sums_taken : (rows : List (List Bool)) (spans : List Span) (fixed : List (Option Bool)) (count place : ℕ) (sums : List (List Term)) (due : List Due) → are_zero rows fixed count place sums ≡ true
    → after_all rows spans (with_zeros fixed place count due) (sum_lines sums) ≡ Some due
sums_taken rows spans fixed zero place [] due is = refl
sums_taken rows spans fixed zero place (s ∷ sums) due is = absurd (false≢true is)
sums_taken rows spans fixed (suc count) place [] due is = absurd (false≢true is)
sums_taken rows spans fixed (suc count) place (s ∷ sums) due is =
    let parts = and_parts (is_sum rows fixed s (alone place) false) (are_zero rows fixed count (suc place) sums) is in
    ap (λ t. and_then (if t then Some (with_zeros fixed (suc place) count due) else None) (λ next. after_all rows spans next (sum_lines sums))) parts.0
    ∙ sums_taken rows spans fixed count (suc place) sums due parts.1

pub trees_are_taken : TreesAreTaken
trees_are_taken rows spans fixed (Split place off on) due is =
    let inside = and_parts (nat_lt place (length fixed)) (checks rows spans (with_bit place false fixed) off && checks rows spans (with_bit place true fixed) on) is in
    let parts = and_parts (checks rows spans (with_bit place false fixed) off) (checks rows spans (with_bit place true fixed) on) inside.1 in
    ap (λ t. and_then (if t then Some (Whole (with_bit place false fixed) ∷ Whole (with_bit place true fixed) ∷ due) else None) (λ next. after_all rows spans next (lines_of off ++ lines_of on))) inside.0
    ∙ after_both rows spans (Whole (with_bit place false fixed) ∷ Whole (with_bit place true fixed) ∷ due) (lines_of off) (lines_of on) (Whole (with_bit place true fixed) ∷ due)
    (trees_are_taken rows spans (with_bit place false fixed) off (Whole (with_bit place true fixed) ∷ due) parts.0)
    ∙ trees_are_taken rows spans (with_bit place true fixed) on due parts.1
trees_are_taken rows spans fixed (Clash terms) due is =
    ap (λ t. and_then (if t then Some due else None) (λ next. after_all rows spans next [])) is
trees_are_taken rows spans fixed (Zero span sums) due is =
    let parts = and_parts (is_span spans span) (zeros_of rows fixed span sums) is in
    ap (λ t. and_then (if t then Some (with_zeros fixed span.first span.count due) else None) (λ next. after_all rows spans next (sum_lines sums))) parts.0
    ∙ sums_taken rows spans fixed span.count span.first sums due parts.1
