-- The paths that are left, as walks wait and go on.
use Rattle.std.proofs.Common.{◌≡◌, ◌<◌, ◌≤◌, ◌+◌, arith, ℕ, Bool, true, false, not, List, [], ◌∷◌, ◌++◌, length, map, get_or, zero, suc, slice_get, Option, Some, None, if◌then◌else◌, refl, ap, ap₂, sym, ◌∙◌, subst}
use mathlib.Core.Bool.{beq}
use Rattle.std.proofs.Common.{Result, Ok, Err}
use Rattle.std.specs.Result.{IsErrAnd, IfErr}
use Rattle.path_walk.specs.declared.fault.WalkFault.{WalkFault}
use Rattle.path_walk.specs.declared.fault.WalkFault.TheVariants.{TooManyPaths}
use Rattle.std.proofs.lemmas.List.{append_assoc, map-append, length-map, length-append, get_or_past}
use Rattle.nf_base.specs.Paths.{Branch, Hits, Misses, Makes, IsTaken, IsFull}
use Rattle.path_walk.specs.declared.branch.Branch as rust
use Rattle.path_walk.specs.declared.walk.Walk.{Walk}
use Rattle.path_walk.specs.declared.line.Line.{Line}
use Rattle.path_walk.specs.declared.line.Line.TheVariants as line
use Rattle.path_walk.specs.Tests.{TestText}
use Rattle.path_walk.specs.Feasible.{differ, equals_of}
use Rattle.path_walk.specs.Trees.{Tree, Leaf, Free, Tested, Made}
use Rattle.path_walk.specs.Lines.{child, grown, trees, tree_at, IsLaid}
use Rattle.path_walk.proofs.Lines.{length_trees, tree_is}
use Rattle.path_walk.specs.Known.{Marks, known_seen, mark_at, excludes, told_mark}
use Rattle.path_walk.specs.Branches.{branch_seen}
use Rattle.path_walk.specs.Walks.{ahead, behind, one_way, tested, leaves, paths_at, paths_of, paths_waiting, paths_left, Went, Waits, TestGoesOn, GoesOn, Steps, WalksOn, WalkEnds, Advances}
use Rattle.path_walk.specs.declared.walk.NumberedTest.{NumberedTest}
use Rattle.path_walk.specs.declared.known.Known.{Known}
use Rattle.path_walk.specs.Numbering.{text_at}

pub behind_ahead : (bs : List Branch) (b : Branch) (ps : List (List Branch)) → behind bs (ahead b ps) ≡ behind (bs ++ b ∷ []) ps
behind_ahead bs b [] = refl
behind_ahead bs b (p ∷ ps) = ap₂ (λ x xs. x ∷ xs) (sym (append_assoc bs (b ∷ []) p)) (behind_ahead bs b ps)

pub behind_append : (bs : List Branch) (xs ys : List (List Branch)) → behind bs (xs ++ ys) ≡ behind bs xs ++ behind bs ys
behind_append bs xs ys = map-append (λ path. bs ++ path) xs ys

pub waiting_push : (texts : List TestText) (trees : List (Tree ℕ)) (ws : List Walk) (w : Walk) → paths_waiting texts trees (ws ++ w ∷ []) ≡ paths_of texts trees w ++ paths_waiting texts trees ws
waiting_push texts trees [] w = sym (nil (paths_of texts trees w))
  where
    nil : (xs : List (List Branch)) → xs ++ [] ≡ xs
    nil [] = refl
    nil (x ∷ xs) = ap (λ ys. x ∷ ys) (nil xs)
waiting_push texts trees (x ∷ ws) w =
    ap (λ ps. ps ++ paths_of texts trees x) (waiting_push texts trees ws w) ∙ append_assoc (paths_of texts trees w) (paths_waiting texts trees ws) (paths_of texts trees x)

-- one branch more
pub went : (old new : Walk) (b : rust.Branch) (at : ℕ) → new.at ≡ at → known_seen new.known ≡ known_seen old.known → new.branches.items ≡ old.branches.items ++ b ∷ [] → Went old new (branch_seen b) at
went old new b at a k e = record { to = a; same = k; more = ap (map branch_seen) e ∙ map-append branch_seen old.branches.items (b ∷ []) }

pub gone : (texts : List TestText) (trees : List (Tree ℕ)) (old new : Walk) (b : Branch) (at : ℕ) → Went old new b at → paths_of texts trees new ≡ paths_at texts trees (map branch_seen old.branches.items ++ b ∷ []) (known_seen old.known) at
gone texts trees old new b at h =
    ap (λ x. behind x (leaves texts (child trees new.at) (known_seen new.known))) h.more
    ∙ ap (λ x. behind (map branch_seen old.branches.items ++ b ∷ []) (leaves texts (child trees new.at) x)) h.same
    ∙ ap (λ x. behind (map branch_seen old.branches.items ++ b ∷ []) (leaves texts (child trees x) (known_seen old.known))) h.to

pub waits : (ws all : List Walk) (old w : Walk) (b : Branch) (at : ℕ) → all ≡ ws ++ w ∷ [] → Went old w b at → Waits (map branch_seen old.branches.items ++ b ∷ []) (known_seen old.known) at ws all
waits ws all old w b at e h = λ texts trees.
    ap (paths_waiting texts trees) e
    ∙ waiting_push texts trees ws w
    ∙ ap (λ ps. ps ++ paths_waiting texts trees ws) (gone texts trees old w b at h)

abbrev join : List (List Branch) → List (List Branch) → List (List Branch)
join xs ys = xs ++ ys

-- two ways of a line, the second of which waits
pub two_ways : (texts : List TestText) (trees : List (Tree ℕ)) (bs : List Branch) (m k : Marks) (b d : Branch) (at to : ℕ) (new : Walk) (olds news : List Walk) →
    paths_of texts trees new ≡ paths_at texts trees (bs ++ b ∷ []) m at → Waits (bs ++ d ∷ []) k to olds news →
    paths_left texts trees new news ≡ behind bs (ahead b (leaves texts (child trees at) m) ++ ahead d (leaves texts (child trees to) k)) ++ paths_waiting texts trees olds
two_ways texts trees bs m k b d at to new olds news e w =
    let xs = leaves texts (child trees at) m in
    let ys = leaves texts (child trees to) k in
    ap₂ join (e ∙ sym (behind_ahead bs b xs)) (w texts trees ∙ ap (λ ps. ps ++ paths_waiting texts trees olds) (sym (behind_ahead bs d ys)))
    ∙ sym (append_assoc (behind bs (ahead b xs)) (behind bs (ahead d ys)) (paths_waiting texts trees olds))
    ∙ ap (λ ps. ps ++ paths_waiting texts trees olds) (sym (behind_append bs (ahead b xs) (ahead d ys)))

pub goes_free : (texts : List TestText) (old new : Walk) (olds news : List Walk) (hit miss : ℕ) → Waits (map branch_seen old.branches.items ++ Misses ∷ []) (known_seen old.known) miss olds news → Went old new Hits hit → GoesOn texts (line.Free hit miss) old olds new news
goes_free texts old new olds news hit miss w h = record {
  left = λ trees. let m = known_seen old.known in two_ways texts trees (map branch_seen old.branches.items) m m Hits Misses hit miss new olds news (gone texts trees old new Hits hit h) w;
  falls = λ n k. subst (λ x. x < n) (sym h.to) k.0;
}

pub goes_make : (texts : List TestText) (old new : Walk) (olds mids news : List Walk) (made taken full : ℕ) → Waits (map branch_seen old.branches.items ++ IsFull ∷ []) (known_seen old.known) full olds mids →
    Waits (map branch_seen old.branches.items ++ IsTaken ∷ []) (known_seen old.known) taken mids news → Went old new Makes made → GoesOn texts (line.Make made taken full) old olds new news
goes_make texts old new olds mids news made taken full w v h = record {
  left = λ trees.
      let bs = map branch_seen old.branches.items in
      let m = known_seen old.known in
      let xs = leaves texts (child trees made) m in
      let ys = leaves texts (child trees taken) m in
      let zs = leaves texts (child trees full) m in
      let rest = paths_waiting texts trees olds in
      ap₂ join (gone texts trees old new Makes made h ∙ sym (behind_ahead bs Makes xs))
      (v texts trees ∙ ap₂ join (sym (behind_ahead bs IsTaken ys)) (w texts trees ∙ ap (λ ps. ps ++ rest) (sym (behind_ahead bs IsFull zs))))
      ∙ ap (λ ps. behind bs (ahead Makes xs) ++ ps) (sym (append_assoc (behind bs (ahead IsTaken ys)) (behind bs (ahead IsFull zs)) rest))
      ∙ sym (append_assoc (behind bs (ahead Makes xs)) (behind bs (ahead IsTaken ys) ++ behind bs (ahead IsFull zs)) rest)
      ∙ ap (λ ps. ps ++ rest) (ap (λ ps. behind bs (ahead Makes xs) ++ ps) (sym (behind_append bs (ahead IsTaken ys) (ahead IsFull zs))) ∙ sym (behind_append bs (ahead Makes xs) (ahead IsTaken ys ++ ahead IsFull zs)));
  falls = λ n k. subst (λ x. x < n) (sym h.to) k.0;
}

-- the one way of a test
pub goes_hit : (texts : List TestText) (trees : List (Tree ℕ)) (old new : Walk) (hit : ℕ) (other : List (List Branch)) (exchanged holds : Bool) → differ exchanged holds ≡ true → Went old new Hits hit →
    paths_of texts trees new ≡ behind (map branch_seen old.branches.items) (one_way exchanged holds (ahead Hits (leaves texts (child trees hit) (known_seen old.known))) other)
goes_hit texts trees old new hit other exchanged holds e h =
    let xs = leaves texts (child trees hit) (known_seen old.known) in
    gone texts trees old new Hits hit h ∙ sym (behind_ahead (map branch_seen old.branches.items) Hits xs)
    ∙ ap (λ b. behind (map branch_seen old.branches.items) (if b then ahead Hits xs else other)) (sym e)

pub goes_miss : (texts : List TestText) (trees : List (Tree ℕ)) (old new : Walk) (miss : ℕ) (other : List (List Branch)) (exchanged holds : Bool) → differ exchanged holds ≡ false → Went old new Misses miss →
    paths_of texts trees new ≡ behind (map branch_seen old.branches.items) (one_way exchanged holds other (ahead Misses (leaves texts (child trees miss) (known_seen old.known))))
goes_miss texts trees old new miss other exchanged holds e h =
    let xs = leaves texts (child trees miss) (known_seen old.known) in
    gone texts trees old new Misses miss h ∙ sym (behind_ahead (map branch_seen old.branches.items) Misses xs)
    ∙ ap (λ b. behind (map branch_seen old.branches.items) (if b then other else ahead Misses xs)) (sym e)

pub differ_is : (x y : Bool) → differ x y ≡ not (beq x y)
differ_is true true = refl
differ_is true false = refl
differ_is false true = refl
differ_is false false = refl

abbrev pub with_known : Walk → Known → Walk
with_known w k = record w { known = k }

-- both ways of a test
pub goes_both : (t : NumberedTest) (old other new : Walk) (first second : Known) (olds news : List Walk) →
    excludes t.equals (known_seen old.known) ≡ false → Went old other Misses t.miss → news ≡ olds ++ with_known other second ∷ [] →
    known_seen first ≡ told_mark (known_seen old.known) t.number t.equals (not t.exchanged) → known_seen second ≡ told_mark (known_seen old.known) t.number t.equals t.exchanged →
    Went (with_known old first) new Hits t.hit → TestGoesOn None t old olds new news
goes_both t old other new first second olds news none o e f k h = record {
  left = λ texts trees.
      let bs = map branch_seen old.branches.items in
      let m = known_seen old.known in
      let hits = λ (x : Marks). ahead Hits (leaves texts (child trees t.hit) x) in
      let misses = λ (x : Marks). ahead Misses (leaves texts (child trees t.miss) x) in
      let rest = paths_waiting texts trees olds in
      two_ways texts trees bs (known_seen first) (known_seen second) Hits Misses t.hit t.miss new olds news (gone texts trees (with_known old first) new Hits t.hit h)
      (waits olds news (with_known old second) (with_known other second) Misses t.miss e (record { to = o.to; same = refl; more = o.more }))
      ∙ ap₂ (λ x y. behind bs (hits x ++ misses y) ++ rest) f k
      ∙ ap (λ b. behind bs (tested t.exchanged None b m (told_mark m t.number t.equals) hits misses) ++ rest) (sym none);
  falls = λ n x y. subst (λ z. z < n) (sym h.to) x;
}

-- a test that goes one way
pub goes_one : (t : NumberedTest) (old new : Walk) (mark : Option Bool) (holds : Bool) (k : Marks) (ws : List Walk) →
    ((n : ℕ) → t.hit < n → t.miss < n → new.at < n) →
    ((texts : List TestText) (trees : List (Tree ℕ)) → paths_of texts trees new ≡ behind (map branch_seen old.branches.items) (one_way t.exchanged holds (ahead Hits (leaves texts (child trees t.hit) k)) (ahead Misses (leaves texts (child trees t.miss) k)))) →
    ((hit miss : Marks → List (List Branch)) → tested t.exchanged mark (excludes t.equals (known_seen old.known)) (known_seen old.known) (told_mark (known_seen old.known) t.number t.equals) hit miss ≡ one_way t.exchanged holds (hit k) (miss k)) →
    TestGoesOn mark t old ws new ws
goes_one t old new mark holds k ws f h e = record {
  left = λ texts trees. ap (λ ps. ps ++ paths_waiting texts trees ws)
      (h texts trees ∙ ap (behind (map branch_seen old.branches.items)) (sym (e (λ x. ahead Hits (leaves texts (child trees t.hit) x)) (λ x. ahead Misses (leaves texts (child trees t.miss) x)))));
  falls = f;
}

-- a line that is a test
pub goes_test : (texts : List TestText) (t : NumberedTest) (old new : Walk) (olds news : List Walk) → t.equals ≡ equals_of (text_at texts t.number) → TestGoesOn (mark_at (known_seen old.known) t.number) t old olds new news →
    GoesOn texts (line.Test t.number t.exchanged t.hit t.miss) old olds new news
goes_test texts t old new olds news e h = record {
  left = λ trees.
      let m = known_seen old.known in
      h.left texts trees
      ∙ ap (λ x. behind (map branch_seen old.branches.items) (tested t.exchanged (mark_at m t.number) (excludes x m) m (told_mark m t.number x) (λ k. ahead Hits (leaves texts (child trees t.hit) k)) (λ k. ahead Misses (leaves texts (child trees t.miss) k))) ++ paths_waiting texts trees olds) e;
  falls = λ n k. h.falls n k.0 k.1;
}

nothing_more : (bs : List Branch) → bs ++ [] ≡ bs
nothing_more [] = refl
nothing_more (b ∷ bs) = ap (λ xs. b ∷ xs) (nothing_more bs)

-- a walk at a line
pub ends_past : (texts : List TestText) (ls : List (Line ℕ)) (old : Walk) (ws : List Walk) → length ls ≤ old.at → WalkEnds texts (trees [] ls) old ws old ws
ends_past texts ls old ws h = record {
  same = refl;
  others = refl;
  ends =
      let n = length_trees [] ls in
      let k : length (trees [] ls) ≤ old.at = omega arith in
      ap (λ t. behind (map branch_seen old.branches.items) (leaves texts t (known_seen old.known))) (get_or_past (trees [] ls) old.at Leaf k)
      ∙ ap (λ bs. bs ∷ []) (nothing_more (map branch_seen old.branches.items));
}

pub at_line : (texts : List TestText) (ls : List (Line ℕ)) (l : Line ℕ) (goes : Bool) (old : Walk) (olds : List Walk) (new : Walk) (news : List Walk) → IsLaid ls → slice_get ls old.at ≡ Some l →
    Steps goes texts l old olds new news → Advances goes texts (trees [] ls) old olds new news
at_line texts ls l true old olds new news laid e h = record {
  left = h.left (trees [] ls) ∙ ap (λ t. behind (map branch_seen old.branches.items) (leaves texts t (known_seen old.known)) ++ paths_waiting texts (trees [] ls) olds) (sym (tree_is ls old.at l laid e));
  falls = h.falls old.at (laid.at old.at l e);
}
at_line texts ls l false old olds new news laid e h = record {
  same = h.1;
  others = h.2;
  ends =
      ap (λ t. behind (map branch_seen old.branches.items) (leaves texts t (known_seen old.known))) (tree_is ls old.at l laid e ∙ ap (λ x. grown x (trees [] ls)) h.0)
      ∙ ap (λ bs. bs ∷ []) (nothing_more (map branch_seen old.branches.items));
}

ahead_some : (b : Branch) (ps : List (List Branch)) → 0 < length ps → 0 < length (ahead b ps)
ahead_some b ps h = let e = length-map ps (λ (path : List Branch). b ∷ path) in omega arith

left_some : (xs ys : List (List Branch)) → 0 < length xs → 0 < length (xs ++ ys)
left_some xs ys h = let e = length-append xs ys in omega arith

if_some : (b : Bool) (xs ys : List (List Branch)) → 0 < length xs → 0 < length ys → 0 < length (if b then xs else ys)
if_some true xs ys h k = h
if_some false xs ys h k = k

tested_some : (e : Bool) (mark : Option Bool) (other : Bool) (m : Marks) (told : Bool → Marks) (hit miss : Marks → List (List Branch)) → ((k : Marks) → 0 < length (hit k)) → ((k : Marks) → 0 < length (miss k)) → 0 < length (tested e mark other m told hit miss)
tested_some e (Some holds) other m told hit miss h k = if_some (differ e holds) (hit m) (miss m) (h m) (k m)
tested_some e None true m told hit miss h k = if_some (differ e false) (hit (told false)) (miss (told false)) (h (told false)) (k (told false))
tested_some e None false m told hit miss h k = left_some (hit (told (not e))) (miss (told e)) (h (told (not e)))

-- each walk has a path
pub some_leaves : (texts : List TestText) (t : Tree ℕ) (m : Marks) → 0 < length (leaves texts t m)
some_leaves texts Leaf m = omega arith
some_leaves texts (Free hit miss) m = left_some (ahead Hits (leaves texts hit m)) (ahead Misses (leaves texts miss m)) (ahead_some Hits (leaves texts hit m) (some_leaves texts hit m))
some_leaves texts (Tested n e hit miss) m =
    tested_some e (mark_at m n) (excludes (equals_of (text_at texts n)) m) m (told_mark m n (equals_of (text_at texts n))) (λ k. ahead Hits (leaves texts hit k)) (λ k. ahead Misses (leaves texts miss k))
    (λ k. ahead_some Hits (leaves texts hit k) (some_leaves texts hit k)) (λ k. ahead_some Misses (leaves texts miss k) (some_leaves texts miss k))
some_leaves texts (Made made taken full) m =
    left_some (ahead Makes (leaves texts made m)) (ahead IsTaken (leaves texts taken m) ++ ahead IsFull (leaves texts full m)) (ahead_some Makes (leaves texts made m) (some_leaves texts made m))

pub some_paths : (texts : List TestText) (trees : List (Tree ℕ)) (w : Walk) → 0 < length (paths_of texts trees w)
some_paths texts trees w =
    let ps = leaves texts (child trees w.at) (known_seen w.known) in
    let h = some_leaves texts (child trees w.at) (known_seen w.known) in
    let e = length-map ps (λ (path : List Branch). map branch_seen w.branches.items ++ path) in omega arith

pub some_waiting : (texts : List TestText) (trees : List (Tree ℕ)) (ws : List Walk) → length ws ≤ length (paths_waiting texts trees ws)
some_waiting texts trees [] = omega arith
some_waiting texts trees (w ∷ ws) =
    let h = some_waiting texts trees ws in
    let k = some_paths texts trees w in
    let e = length-append (paths_waiting texts trees ws) (paths_of texts trees w) in omega arith

pub more_left : (texts : List TestText) (trees : List (Tree ℕ)) (w : Walk) (ws : List Walk) → length ws < length (paths_left texts trees w ws)
more_left texts trees w ws =
    let h = some_waiting texts trees ws in
    let k = some_paths texts trees w in
    let e = length-append (paths_of texts trees w) (paths_waiting texts trees ws) in omega arith

pub got : {A : Type 0} (xs : List A) (i : ℕ) (x : A) → i < length xs → x ≡ get_or xs i x → slice_get xs i ≡ Some x
got [] i x h e = absurd (omega arith)
got (y ∷ xs) zero x h e = ap Some (sym e)
got (y ∷ xs) (suc i) x h e = got xs i x (omega arith) e

pub walks_on : (goes : Bool) (texts : List TestText) (trees : List (Tree ℕ)) (old : Walk) (olds : List Walk) (new : Walk) (news : List Walk) → goes ≡ true → Advances goes texts trees old olds new news → WalksOn texts trees old olds new news
walks_on true texts trees old olds new news e h = h
walks_on false texts trees old olds new news e h = cc

-- more paths are left than walks wait
pub too_many : (texts : List TestText) (trees : List (Tree ℕ)) (w : Walk) (ws : List Walk) (all : List (List Branch)) (room : ℕ) → room ≤ length ws → paths_left texts trees w ws ≡ all → room < length all
too_many texts trees w ws all room h e = let k = more_left texts trees w ws in let n : length (paths_left texts trees w ws) ≡ length all = ap length e in omega arith

behind_none : (ps : List (List Branch)) → behind [] ps ≡ ps
behind_none [] = refl
behind_none (p ∷ ps) = ap (λ xs. p ∷ xs) (behind_none ps)

-- what is listed and what is left, at the start and after a path
pub begun : (texts : List TestText) (ls : List (Line ℕ)) (at : ℕ) (m : Marks) (w : Walk) (all : List (List Branch)) (ws : List Walk) → all ≡ [] → ws ≡ w ∷ [] → w.at ≡ at → w.branches.items ≡ [] → known_seen w.known ≡ m →
    all ++ paths_waiting texts (trees [] ls) ws ≡ leaves texts (tree_at ls at) m
begun texts ls at m w all ws a e i b k =
    ap₂ (λ x y. x ++ paths_waiting texts (trees [] ls) y) a e
    ∙ ap (λ bs. behind (map branch_seen bs) (leaves texts (child (trees [] ls) w.at) (known_seen w.known))) b
    ∙ behind_none (leaves texts (child (trees [] ls) w.at) (known_seen w.known))
    ∙ ap₂ (λ x y. leaves texts (child (trees [] ls) x) y) i k

pub one_path : (texts : List TestText) (trees : List (Tree ℕ)) (all done : List (List Branch)) (path : List Branch) (w : Walk) (ws rest news : List Walk) (whole : List (List Branch)) →
    done ≡ all ++ path ∷ [] → ws ≡ rest ++ w ∷ [] → paths_left texts trees w rest ≡ path ∷ paths_waiting texts trees news → all ++ paths_waiting texts trees ws ≡ whole → done ++ paths_waiting texts trees news ≡ whole
one_path texts trees all done path w ws rest news whole d e h k =
    ap (λ xs. xs ++ paths_waiting texts trees news) d
    ∙ append_assoc all (path ∷ []) (paths_waiting texts trees news)
    ∙ ap (λ xs. all ++ xs) (sym h ∙ sym (waiting_push texts trees rest w) ∙ ap (paths_waiting texts trees) (sym e))
    ∙ k

pub err_many : {T : Type 0} (r : Result T WalkFault) (x : WalkFault) (B : Type 0) → IsErrAnd r (λ e. e ≡ x) → (x ≡ TooManyPaths → B) → IfErr r (λ e. e ≡ TooManyPaths → B)
err_many (Ok y) x B h k = tt
err_many (Err e) x B h k = λ q. k (sym h ∙ q)

-- what is listed and left is more than the most
pub whole_many : (texts : List TestText) (trees : List (Tree ℕ)) (all : List (List Branch)) (w : Walk) (ws rest : List Walk) (whole : List (List Branch)) (room : ℕ) →
    ws ≡ rest ++ w ∷ [] → all ++ paths_waiting texts trees ws ≡ whole → room < length (paths_left texts trees w rest) → length all + room < length whole
whole_many texts trees all w ws rest whole room e k h =
    let n : length (all ++ paths_left texts trees w rest) ≡ length whole = ap (λ ps. length (all ++ ps)) (sym (waiting_push texts trees rest w) ∙ ap (paths_waiting texts trees) (sym e)) ∙ ap length k in
    let m = length-append all (paths_left texts trees w rest) in omega arith
