-- One way is left of a path that comes to tests alone, each of which can go one way alone.
use Rattle.std.proofs.Common.{◌≡◌, ◌<◌, ◌≤◌, ◌+◌, arith, ℕ, zero, suc, Bool, true, false, ◌||◌, List, [], ◌∷◌, ◌++◌, length, slice_get, get_or, min, Option, Some, None, is_some, refl, ap, ◌∙◌, sym, subst, inl, inr, if◌then◌else◌}
use Rattle.std.proofs.lemmas.Bool.{cases_eq, cases_lt}
use Rattle.std.proofs.lemmas.List.{get_or_past, get_or-set_same, get_or-set_other, get_or_append_left, get_or_push, length_push}
use Rattle.std.proofs.lemmas.Option.{slice_get-get_or}
use Rattle.nf_base.specs.Paths.{Branch, Hits, Misses}
use Rattle.path_walk.specs.declared.line.Line.{Line}
use Rattle.path_walk.specs.declared.line.Line.TheVariants as line
use Rattle.path_walk.specs.declared.test.FieldIs.{FieldIs}
use Rattle.path_walk.specs.Tests.{TestText}
use Rattle.path_walk.specs.Feasible.{differ, equals_of}
use Rattle.path_walk.specs.Trees.{Tree, Leaf}
use Rattle.path_walk.specs.Lines.{child, grown, trees, tree_at, IsBelow, IsLaid}
use Rattle.path_walk.specs.Known.{Marks, mark_at, excludes, told_mark, is_told, AreTold}
use Rattle.path_walk.specs.Numbering.{text_at}
use Rattle.path_walk.specs.Walks.{ahead, tested, leaves}
use Rattle.path_walk.specs.Counts.{IsPlain, ArePlain, AreAhead}
use Rattle.path_walk.proofs.Lines.{length_trees, tree_is}
use Rattle.path_walk.proofs.Points.{length_ahead}

-- a text that went some way has gone it after one test more
kept : (m : Marks) (n k : ℕ) (o : Option FieldIs) (b : Bool) → is_some (mark_at m k) ≡ true → is_some (mark_at (told_mark m n o b) k) ≡ true
kept m n k o b e = elim (cases_eq k n) [
  | inr q ↦ ap is_some (get_or-set_other m.marks n k (Some b) None q) ∙ e
  | inl q ↦ elim (cases_lt n (length m.marks)) [
    | inl h ↦ ap (λ (x : ℕ). is_some (mark_at (told_mark m n o b) x)) q ∙ ap is_some (get_or-set_same m.marks n (Some b) None h)
    | inr h ↦
        let none : is_some (mark_at m k) ≡ false = ap is_some (get_or_past m.marks k None (omega (arith, q, h))) in cc
  ]
]

either : (a b x : Bool) → (a ≡ true → b ≡ true) → (a || x) ≡ true → (b || x) ≡ true
either true b x f e = ap (λ (y : Bool). y || x) (f refl)
either false true x f e = refl
either false false x f e = e

-- a test that fails says of no field what number it is
excludes_same : (m : Marks) (n : ℕ) (o x : Option FieldIs) → excludes x (told_mark m n o false) ≡ excludes x m
excludes_same m n o None = refl
excludes_same m n o (Some x) = refl

-- texts that can go one way alone can so after one that fails
still : (texts : List TestText) (m : Marks) (count n : ℕ) (o : Option FieldIs) → AreTold texts m count → AreTold texts (told_mark m n o false) count
still texts m count n o told = record {
  each = λ k h.
      ap (λ x. is_some (mark_at (told_mark m n o false) k) || x) (excludes_same m n o (equals_of (text_at texts k)))
      ∙ either (is_some (mark_at m k)) (is_some (mark_at (told_mark m n o false) k)) (excludes (equals_of (text_at texts k)) m) (kept m n k o false) (told.each k h);
}

one_of : (b : Bool) (xs ys : List (List Branch)) → length xs ≡ 1 → length ys ≡ 1 → length (if b then ahead Hits xs else ahead Misses ys) ≡ 1
one_of true xs ys h m = length_ahead Hits xs ∙ h
one_of false xs ys h m = length_ahead Misses ys ∙ m

-- along a tree there is one path, as long as each text can go one way alone
abbrev HasOne : List TestText → ℕ → Tree ℕ → Type 0
HasOne texts count t = (m : Marks) → AreTold texts m count → length (leaves texts t m) ≡ 1

-- a test whose text can go one way alone
one_tested : (texts : List TestText) (count : ℕ) (m : Marks) (n : ℕ) (exchanged : Bool) (hit miss : Tree ℕ) → AreTold texts m count → n < count → HasOne texts count hit → HasOne texts count miss →
    length (tested exchanged (mark_at m n) (excludes (equals_of (text_at texts n)) m) m (told_mark m n (equals_of (text_at texts n))) (λ k. ahead Hits (leaves texts hit k)) (λ k. ahead Misses (leaves texts miss k))) ≡ 1
one_tested texts count m n exchanged hit miss told within h k = split (mark_at m n) (excludes (equals_of (text_at texts n)) m) (told.each n within)
  where
    split : (o : Option Bool) (other : Bool) → (is_some o || other) ≡ true →
        length (tested exchanged o other m (told_mark m n (equals_of (text_at texts n))) (λ k. ahead Hits (leaves texts hit k)) (λ k. ahead Misses (leaves texts miss k))) ≡ 1
    split (Some holds) other e = one_of (differ exchanged holds) (leaves texts hit m) (leaves texts miss m) (h m told) (k m told)
    split None true e =
        let later = still texts m count n (equals_of (text_at texts n)) told in
        let after = told_mark m n (equals_of (text_at texts n)) false in
        one_of (differ exchanged false) (leaves texts hit after) (leaves texts miss after) (h after later) (k after later)
    split None false e = cc

-- where those that a line goes on at have one way left, it has one
at_plain : (texts : List TestText) (ls : List (Line ℕ)) (count : ℕ) (l : Line ℕ) (at : ℕ) → IsBelow at l → IsPlain count l → ((k : ℕ) → k < at → HasOne texts count (tree_at ls k)) → HasOne texts count (grown l (trees [] ls))
at_plain texts ls count line.Stop at below plain one m told = refl
at_plain texts ls count (line.Free hit miss) at below plain one m told = absurd plain
at_plain texts ls count (line.Test n exchanged hit miss) at below plain one m told =
    one_tested texts count m n exchanged (child (trees [] ls) hit) (child (trees [] ls) miss) told plain (one hit below.0) (one miss below.1)
at_plain texts ls count (line.Make made taken full) at below plain one m told = absurd plain

past_lines : (texts : List TestText) (ls : List (Line ℕ)) (count at : ℕ) → length ls ≤ at → HasOne texts count (tree_at ls at)
past_lines texts ls count at h m told =
    let n = length_trees [] ls in
    let k : length (trees [] ls) ≤ at = omega arith in
    ap (λ t. length (leaves texts t m)) (get_or_past (trees [] ls) at Leaf k)

below_bound : (texts : List TestText) (ls : List (Line ℕ)) (count plain : ℕ) → IsLaid ls → ArePlain count ls plain → plain ≤ length ls →
    (bound at : ℕ) → at < bound → at < plain → HasOne texts count (tree_at ls at)
below_bound texts ls count plain laid are within zero at b p m told = absurd (omega arith)
below_bound texts ls count plain laid are within (suc bound) at b p m told =
    let e = slice_get-get_or ls at line.Stop (omega arith) in
    let l = get_or ls at line.Stop in
    ap (λ t. length (leaves texts t m)) (tree_is ls at l laid e)
    ∙ at_plain texts ls count l at (laid.at at l e) (are.at at l p e)
    (λ k h. below_bound texts ls count plain laid are within bound k (omega arith) (omega arith)) m told

-- a point among plain lines, whose texts can go one way alone
pub one_left : (texts : List TestText) (ls : List (Line ℕ)) (count plain : ℕ) (m : Marks) (at : ℕ) → IsLaid ls → ArePlain count ls plain → AreTold texts m count → at < plain → length (leaves texts (tree_at ls at) m) ≡ 1
one_left texts ls count plain m at laid are told p = elim (cases_lt at (length ls)) [
  | inr h ↦ past_lines texts ls count at h m told
  | inl h ↦
      let cut : ArePlain count ls (min plain (length ls)) = record { at = λ i l k e. are.at i l (omega arith) e } in
      below_bound texts ls count (min plain (length ls)) laid cut (omega arith) (suc at) at (omega arith) (omega arith) m told
]

-- one text more
pub told_more : (texts : List TestText) (m : Marks) (count : ℕ) → AreTold texts m count → is_told texts m count ≡ true → AreTold texts m (count + 1)
told_more texts m count told e = record {
  each = λ n h. elim (cases_eq n count) [
    | inl q ↦ ap (is_told texts m) q ∙ e
    | inr q ↦ told.each n (omega (arith, q, h))
  ];
}

-- a higher count, and one line more
plain_by : (m n : ℕ) (l : Line ℕ) → m ≤ n → IsPlain m l → IsPlain n l
plain_by m n line.Stop h p = tt
plain_by m n (line.Free hit miss) h p = absurd p
plain_by m n (line.Test x exchanged hit miss) h p = let j : x < m = p in omega arith
plain_by m n (line.Make made taken full) h p = absurd p

pub plain_more : (ls xs : List (Line ℕ)) (m n i : ℕ) (d : Line ℕ) → xs ≡ ls → ArePlain m ls i → m ≤ n → IsPlain n (get_or xs i d) → i < length xs → ArePlain n ls (i + 1)
plain_more ls xs m n i d same are h p w = record {
  at = λ k x b s. elim (cases_eq k i) [
    | inl q ↦
        let e : Some x ≡ Some (get_or xs i d) = sym s ∙ ap (slice_get ls) q ∙ ap (λ ys. slice_get ys i) (sym same) ∙ slice_get-get_or xs i d w in
        let is : get_or xs i d ≡ x = cc in
        subst (λ y. IsPlain n y) is p
    | inr q ↦ plain_by m n x h (are.at k x (omega (arith, q, b)) s)
  ];
}

pub ahead_more : (ls : List (Line ℕ)) (counts : List ℕ) (n i : ℕ) → AreAhead ls counts → length counts ≡ i → ArePlain n ls (i + 1) → AreAhead ls (counts ++ n ∷ [])
ahead_more ls counts n i are len p = record {
  at = λ k h. elim (cases_eq k i) [
    | inl q ↦
        let e : get_or (counts ++ n ∷ []) k 0 ≡ n = get_or_push counts n 0 k (len ∙ sym q) in
        let is : i + 1 ≡ suc k = omega (arith, q) in
        subst (λ c. ArePlain c ls (suc k)) (sym e) (subst (λ j. ArePlain n ls j) is p)
    | inr q ↦
        let l = length_push counts n in
        let b : k < length counts = omega (arith, q, h, l, len) in
        subst (λ c. ArePlain c ls (suc k)) (sym (get_or_append_left counts (n ∷ []) 0 k b)) (are.at k b)
  ];
}
