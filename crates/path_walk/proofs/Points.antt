-- How many paths are left, as points wait and go on.
use Rattle.std.proofs.Common.{◌≡◌, ◌<◌, ◌≤◌, ◌+◌, arith, ℕ, Bool, true, false, not, List, [], ◌∷◌, ◌++◌, length, slice_get, Some, None, refl, ap, ap₂, sym, ◌∙◌, subst}
use Rattle.std.proofs.lemmas.List.{length-map, length-append, get_or_past}
use Rattle.nf_base.specs.Paths.{Branch, Hits, Misses}
use Rattle.path_walk.specs.declared.counting.Point.{Point}
use Rattle.path_walk.specs.declared.line.Line.{Line}
use Rattle.path_walk.specs.declared.walk.NumberedTest.{NumberedTest}
use Rattle.path_walk.specs.Tests.{TestText}
use Rattle.path_walk.specs.Trees.{Tree, Leaf}
use Rattle.path_walk.specs.Lines.{child, grown, trees, IsLaid}
use Rattle.path_walk.specs.Known.{Marks, known_seen, excludes, told_mark}
use Rattle.path_walk.specs.Walks.{ahead, tested, leaves, test_leaves}
use Rattle.path_walk.specs.Counts.{count_at, count_of, count_waiting, count_left, PointWaits, TestCounts, CountSteps, CountGoesOn, CountEnds, CountAdvances}
use Rattle.path_walk.proofs.Lines.{length_trees, tree_is}
use Rattle.path_walk.proofs.Walking.{some_leaves}

pub length_ahead : (b : Branch) (ps : List (List Branch)) → length (ahead b ps) ≡ length ps
length_ahead b ps = length-map ps (λ (path : List Branch). b ∷ path)

length_two : (b d : Branch) (xs ys : List (List Branch)) → length (ahead b xs ++ ahead d ys) ≡ length xs + length ys
length_two b d xs ys = length-append (ahead b xs) (ahead d ys) ∙ ap₂ (λ m n. m + n) (length_ahead b xs) (length_ahead d ys)

pub waiting_behind : (texts : List TestText) (trees : List (Tree ℕ)) (ps : List Point) (p : Point) → count_waiting texts trees (ps ++ p ∷ []) ≡ count_of texts trees p + count_waiting texts trees ps
waiting_behind texts trees [] p = refl
waiting_behind texts trees (x ∷ ps) p = let e = waiting_behind texts trees ps p in omega arith

-- a point more waits
pub point_waits : (ps all : List Point) (p : Point) (m : Marks) (at : ℕ) → all ≡ ps ++ p ∷ [] → p.at ≡ at → known_seen p.known ≡ m → PointWaits m at ps all
point_waits ps all p m at e a k = λ texts trees.
    ap (count_waiting texts trees) e ∙ waiting_behind texts trees ps p ∙ ap₂ (λ x i. count_at texts trees x i + count_waiting texts trees ps) k a

-- both ways of a test, the miss of which waits
pub counts_both : (t : NumberedTest) (old new : Point) (olds news : List Point) → excludes t.equals (known_seen old.known) ≡ false →
    PointWaits (told_mark (known_seen old.known) t.number t.equals t.exchanged) t.miss olds news → new.at ≡ t.hit → known_seen new.known ≡ told_mark (known_seen old.known) t.number t.equals (not t.exchanged) →
    TestCounts None t old olds new news
counts_both t old new olds news none w a k = record {
  left = λ texts trees.
      let m = known_seen old.known in
      let told = told_mark m t.number t.equals in
      let hits = λ (x : Marks). ahead Hits (leaves texts (child trees t.hit) x) in
      let misses = λ (x : Marks). ahead Misses (leaves texts (child trees t.miss) x) in
      let e : count_of texts trees new ≡ count_at texts trees (told (not t.exchanged)) t.hit = ap₂ (count_at texts trees) k a in
      let f = w texts trees in
      let n = length_two Hits Misses (leaves texts (child trees t.hit) (told (not t.exchanged))) (leaves texts (child trees t.miss) (told t.exchanged)) in
      let g : length (test_leaves texts trees None t m) ≡ length (hits (told (not t.exchanged)) ++ misses (told t.exchanged)) = ap (λ b. length (tested t.exchanged None b m told hits misses)) none in
      omega arith;
  falls = λ n x y. subst (λ z. z < n) (sym a) x;
}

-- a point past all lines
pub count_past : (texts : List TestText) (ls : List (Line ℕ)) (old : Point) (ps : List Point) → length ls ≤ old.at → CountEnds texts (trees [] ls) old ps ps
count_past texts ls old ps h = record {
  others = refl;
  ends =
      let n = length_trees [] ls in
      let k : length (trees [] ls) ≤ old.at = omega arith in
      ap (λ t. length (leaves texts t (known_seen old.known))) (get_or_past (trees [] ls) old.at Leaf k);
}

pub count_line : (texts : List TestText) (ls : List (Line ℕ)) (l : Line ℕ) (goes : Bool) (old : Point) (olds : List Point) (new : Point) (news : List Point) → IsLaid ls → slice_get ls old.at ≡ Some l →
    CountSteps goes texts l old olds new news → CountAdvances goes texts (trees [] ls) old olds new news
count_line texts ls l true old olds new news laid e h = record {
  left = h.left (trees [] ls) ∙ ap (λ t. length (leaves texts t (known_seen old.known)) + count_waiting texts (trees [] ls) olds) (sym (tree_is ls old.at l laid e));
  falls = h.falls old.at (laid.at old.at l e);
}
count_line texts ls l false old olds new news laid e h = record {
  others = h.2;
  ends = ap (λ t. length (leaves texts t (known_seen old.known))) (tree_is ls old.at l laid e ∙ ap (λ x. grown x (trees [] ls)) h.0);
}

pub counts_on : (goes : Bool) (texts : List TestText) (trees : List (Tree ℕ)) (old : Point) (olds : List Point) (new : Point) (news : List Point) → goes ≡ true → CountAdvances goes texts trees old olds new news → CountGoesOn texts trees old olds new news
counts_on true texts trees old olds new news e h = h
counts_on false texts trees old olds new news e h = cc

pub counts_end : (goes : Bool) (texts : List TestText) (trees : List (Tree ℕ)) (old : Point) (olds : List Point) (new : Point) (news : List Point) → goes ≡ false → CountAdvances goes texts trees old olds new news → CountEnds texts trees old olds news
counts_end true texts trees old olds new news e h = cc
counts_end false texts trees old olds new news e h = h

-- each point has a path
pub some_counted : (texts : List TestText) (trees : List (Tree ℕ)) (ps : List Point) → length ps ≤ count_waiting texts trees ps
some_counted texts trees [] = omega arith
some_counted texts trees (p ∷ ps) =
    let h = some_counted texts trees ps in
    let k = some_leaves texts (child trees p.at) (known_seen p.known) in
    omega arith

pub more_counted : (texts : List TestText) (trees : List (Tree ℕ)) (p : Point) (ps : List Point) → length ps < count_left texts trees p ps
more_counted texts trees p ps =
    let h = some_counted texts trees ps in
    let k = some_leaves texts (child trees p.at) (known_seen p.known) in
    omega arith
