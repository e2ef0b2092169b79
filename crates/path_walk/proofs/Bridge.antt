-- The paths that a walk lists are the feasible ones.
use Rattle.std.proofs.Common.{◌≡◌, ◌<◌, ℕ, zero, suc, Bool, true, false, not, List, [], ◌∷◌, ◌++◌, length, map, slice_get, Contains, Option, Some, None, refl, ap, ap₂, sym, ◌∙◌, subst}
use Rattle.std.proofs.Common.{Result}
use Rattle.std.specs.Result.{IfErr}
use Rattle.nf_base.specs.Text.{Block}
use Rattle.path_walk.specs.declared.fault.WalkFault.{WalkFault}
use Rattle.path_walk.specs.declared.fault.WalkFault.TheVariants.{TooManyPaths}
use Rattle.nf_base.specs.Paths.{Branch, Hits, Misses, Makes, IsTaken, IsFull}
use Rattle.nf_laws.proofs.Listed.{here, there}
use Rattle.path_walk.specs.declared.line.Line.{Line}
use Rattle.path_walk.specs.declared.line.Line.TheVariants as line
use Rattle.path_walk.specs.Tests.{TestText, Told}
use Rattle.path_walk.specs.Feasible.{equals_of, feasible_paths, branches_along}
use Rattle.std.proofs.lemmas.List.{length-map}
use Rattle.path_walk.specs.declared.test.Text.{Text}
use Rattle.path_walk.specs.Layout.{IsLaidOut}
use Rattle.path_walk.specs.Seen.{line_map, lines_seen, text_seen}
use Rattle.path_walk.specs.Trees.{Tree, Leaf, Free, Tested, Made, unfolded, tree_map}
use Rattle.path_walk.specs.Lines.{child, grown, trees, tree_at, IsBelow, IsLaid}
use Rattle.path_walk.specs.Numbering.{text_at, AreApart, HasNumber, AreNumbered}
use Rattle.path_walk.specs.Known.{Marks, nothing_known, mark_at, excludes, told_mark}
use Rattle.path_walk.specs.Walks.{ahead, one_way, tested, leaves}
use Rattle.path_walk.proofs.Fitting.{tell, goes, if_goes, fitting, tree_paths}
use Rattle.path_walk.proofs.Lines.{tree_at_map}
use Rattle.path_walk.proofs.Marking.{Represents, nothing, again, told_one, goes_free, goes_not, goes_as_marked, goes_no_other}

-- each test of a tree has one of so many numbers
abbrev pub AllNumbered : ℕ → Tree ℕ → Type 0
AllNumbered count Leaf = Unit {0}
AllNumbered count (Free hit miss) = AllNumbered count hit × AllNumbered count miss
AllNumbered count (Tested n e hit miss) = (n < count) × AllNumbered count hit × AllNumbered count miss
AllNumbered count (Made made taken full) = AllNumbered count made × AllNumbered count taken × AllNumbered count full

abbrev Fits : List TestText → Tree ℕ → Type 0
Fits texts t = (m : Marks) (before : List Told) → Represents texts m before → leaves texts t m ≡ fitting before (tree_map (text_at texts) t)

abbrev join : List (List Branch) → List (List Branch) → List (List Branch)
join xs ys = xs ++ ys

-- a test that goes one way
one_goes : (x : TestText) (before : List Told) (hit miss : Tree TestText) (e b : Bool) (hits misses : List (List Branch)) → goes before (tell x b) ≡ true → goes before (tell x (not b)) ≡ false →
    hits ≡ ahead Hits (fitting (tell x b ∷ before) hit) → misses ≡ ahead Misses (fitting (tell x b ∷ before) miss) → one_way e b hits misses ≡ fitting before (Tested x e hit miss)
one_goes x before hit miss false true hits misses alike unlike h m =
    h ∙ sym (none (ahead Hits (fitting (tell x true ∷ before) hit)))
    ∙ sym (ap₂ (λ u v. if_goes u (ahead Hits (fitting (tell x true ∷ before) hit)) ++ if_goes v (ahead Misses (fitting (tell x false ∷ before) miss))) alike unlike)
  where
    none : (xs : List (List Branch)) → xs ++ [] ≡ xs
    none [] = refl
    none (x ∷ xs) = ap (λ ys. x ∷ ys) (none xs)
one_goes x before hit miss true false hits misses alike unlike h m =
    h ∙ sym (none (ahead Hits (fitting (tell x false ∷ before) hit)))
    ∙ sym (ap₂ (λ u v. if_goes u (ahead Hits (fitting (tell x false ∷ before) hit)) ++ if_goes v (ahead Misses (fitting (tell x true ∷ before) miss))) alike unlike)
  where
    none : (xs : List (List Branch)) → xs ++ [] ≡ xs
    none [] = refl
    none (x ∷ xs) = ap (λ ys. x ∷ ys) (none xs)
one_goes x before hit miss true true hits misses alike unlike h m =
    m ∙ sym (ap₂ (λ u v. if_goes u (ahead Hits (fitting (tell x false ∷ before) hit)) ++ if_goes v (ahead Misses (fitting (tell x true ∷ before) miss))) unlike alike)
one_goes x before hit miss false false hits misses alike unlike h m =
    m ∙ sym (ap₂ (λ u v. if_goes u (ahead Hits (fitting (tell x true ∷ before) hit)) ++ if_goes v (ahead Misses (fitting (tell x false ∷ before) miss))) unlike alike)

-- a test by its mark
by_mark : (texts : List TestText) (m : Marks) (before : List Told) (n : ℕ) (e : Bool) (hit miss : Tree ℕ) (mark : Option Bool) (other : Bool) → Represents texts m before → AreApart texts → n < length texts → Fits texts hit → Fits texts miss →
    mark_at m n ≡ mark → excludes (equals_of (text_at texts n)) m ≡ other →
    tested e mark other m (told_mark m n (equals_of (text_at texts n))) (λ k. ahead Hits (leaves texts hit k)) (λ k. ahead Misses (leaves texts miss k))
    ≡ fitting before (Tested (text_at texts n) e (tree_map (text_at texts) hit) (tree_map (text_at texts) miss))
by_mark texts m before n e hit miss (Some b) other r apart w fh fm mark ex =
    let x = text_at texts n in
    let s = again texts m before (tell x b) r (r.marked n b mark) in
    one_goes x before (tree_map (text_at texts) hit) (tree_map (text_at texts) miss) e b (ahead Hits (leaves texts hit m)) (ahead Misses (leaves texts miss m)) (goes_as_marked texts m before n b r w mark) (goes_no_other texts m before n b r mark)
    (ap (ahead Hits) (fh m (tell x b ∷ before) s)) (ap (ahead Misses) (fm m (tell x b ∷ before) s))
by_mark texts m before n e hit miss None true r apart w fh fm mark ex =
    let x = text_at texts n in
    let k = told_mark m n (equals_of x) false in
    let free : false ≡ true → excludes (equals_of x) m ≡ false = λ q. cc in
    let s = told_one texts m before n false r apart w mark free in
    one_goes x before (tree_map (text_at texts) hit) (tree_map (text_at texts) miss) e false (ahead Hits (leaves texts hit k)) (ahead Misses (leaves texts miss k)) (goes_free texts m before n false r w mark free) (goes_not texts m before n r ex)
    (ap (ahead Hits) (fh k (tell x false ∷ before) s)) (ap (ahead Misses) (fm k (tell x false ∷ before) s))
by_mark texts m before n e hit miss None false r apart w fh fm mark ex =
    let x = text_at texts n in
    let told = told_mark m n (equals_of x) in
    let s : (b : Bool) → Represents texts (told b) (tell x b ∷ before) = λ b. told_one texts m before n b r apart w mark (λ q. ex) in
    let yes : (b : Bool) → goes before (tell x b) ≡ true = λ b. goes_free texts m before n b r w mark (λ q. ex) in
    ap₂ join (ap (ahead Hits) (fh (told (not e)) (tell x (not e) ∷ before) (s (not e)))) (ap (ahead Misses) (fm (told e) (tell x e ∷ before) (s e)))
    ∙ sym (ap₂ (λ u v. if_goes u (ahead Hits (fitting (tell x (not e) ∷ before) (tree_map (text_at texts) hit))) ++ if_goes v (ahead Misses (fitting (tell x e ∷ before) (tree_map (text_at texts) miss)))) (yes (not e)) (yes e))

pub all_fit : (texts : List TestText) → AreApart texts → (t : Tree ℕ) → AllNumbered (length texts) t → Fits texts t
all_fit texts apart Leaf h m before r = refl
all_fit texts apart (Free hit miss) h m before r = ap₂ (λ xs ys. ahead Hits xs ++ ahead Misses ys) (all_fit texts apart hit h.0 m before r) (all_fit texts apart miss h.1 m before r)
all_fit texts apart (Tested n e hit miss) h m before r =
    by_mark texts m before n e hit miss (mark_at m n) (excludes (equals_of (text_at texts n)) m) r apart h.0 (all_fit texts apart hit h.1) (all_fit texts apart miss h.2) refl refl
all_fit texts apart (Made made taken full) h m before r =
    ap₂ (λ xs ys. ahead Makes xs ++ ys) (all_fit texts apart made h.0 m before r)
    (ap₂ (λ xs ys. ahead IsTaken xs ++ ahead IsFull ys) (all_fit texts apart taken h.1 m before r) (all_fit texts apart full h.2 m before r))

-- the trees of numbered lines
child_push : (count : ℕ) (ts : List (Tree ℕ)) (t : Tree ℕ) → ((k : ℕ) → AllNumbered count (child ts k)) → AllNumbered count t → (k : ℕ) → AllNumbered count (child (ts ++ t ∷ []) k)
child_push count [] t h n zero = n
child_push count [] t h n (suc k) = tt
child_push count (x ∷ ts) t h n zero = h zero
child_push count (x ∷ ts) t h n (suc k) = child_push count ts t (λ j. h (suc j)) n k

grown_numbered : (count : ℕ) (l : Line ℕ) (ts : List (Tree ℕ)) → HasNumber count l → ((k : ℕ) → AllNumbered count (child ts k)) → AllNumbered count (grown l ts)
grown_numbered count line.Stop ts h n = tt
grown_numbered count (line.Free hit miss) ts h n = (n hit, n miss)
grown_numbered count (line.Test x e hit miss) ts h n = (h, n hit, n miss)
grown_numbered count (line.Make made taken full) ts h n = (n made, n taken, n full)

trees_numbered : (count : ℕ) (ts : List (Tree ℕ)) (ls : List (Line ℕ)) → ((k : ℕ) → AllNumbered count (child ts k)) → ((l : Line ℕ) → Contains ls l → HasNumber count l) → (k : ℕ) → AllNumbered count (child (trees ts ls) k)
trees_numbered count ts [] h n k = h k
trees_numbered count ts (l ∷ ls) h n k =
    trees_numbered count (ts ++ grown l ts ∷ []) ls (child_push count ts (grown l ts) h (grown_numbered count l ts (n l (here l ls)) h)) (λ x i. n x (there l ls x i)) k

-- lines stay laid out under numbers
below_map : (f : ℕ → TestText) (n : ℕ) (l : Line ℕ) → IsBelow n (line_map f l) → IsBelow n l
below_map f n line.Stop h = tt
below_map f n (line.Free hit miss) h = h
below_map f n (line.Test x e hit miss) h = h
below_map f n (line.Make made taken full) h = h

got_map : (f : ℕ → TestText) (ls : List (Line ℕ)) (i : ℕ) (l : Line ℕ) → slice_get ls i ≡ Some l → slice_get (map (line_map f) ls) i ≡ Some (line_map f l)
got_map f [] i l e = cc
got_map f (x ∷ ls) zero l e = let q : x ≡ l = cc in ap (λ y. Some (line_map f y)) q
got_map f (x ∷ ls) (suc i) l e = got_map f ls i l e

pub laid_numbers : (lines : List (Line TestText)) (texts : List TestText) (numbered : List (Line ℕ)) → AreNumbered lines texts numbered → IsLaid lines → IsLaid numbered
laid_numbers lines texts numbered n h = record {
  at = λ i l e. below_map (text_at texts) i l (h.at i (line_map (text_at texts) l) (ap (λ ls. slice_get ls i) (sym n.same) ∙ got_map (text_at texts) numbered i l e));
}

-- the paths that a walk lists
pub walked : (block : Block) (lines : List (Line TestText)) (texts : List TestText) (numbered : List (Line ℕ)) (at : ℕ) → AreNumbered lines texts numbered → AreApart texts → tree_at lines at ≡ unfolded block Leaf →
    leaves texts (tree_at numbered at) (nothing_known (length texts)) ≡ map branches_along (feasible_paths block)
walked block lines texts numbered at n apart e =
    all_fit texts apart (tree_at numbered at) (trees_numbered (length texts) [] numbered (λ k. tt) n.within at) (nothing_known (length texts)) [] (nothing texts)
    ∙ ap (fitting []) (sym (tree_at_map (text_at texts) numbered at) ∙ ap (λ ls. tree_at ls at) n.same ∙ e)
    ∙ tree_paths block

-- a block laid out behind the line where paths stop, and numbered
pub listed_are : (block : Block) (old new : List (Line Text)) (texts : List Text) (numbered : List (Line ℕ)) (at : ℕ) → old ≡ line.Stop ∷ [] → IsLaidOut (lines_seen old) (lines_seen new) at (unfolded block (tree_at (lines_seen old) 0)) →
    AreNumbered (lines_seen new) (map text_seen texts) numbered → AreApart (map text_seen texts) → leaves (map text_seen texts) (tree_at numbered at) (nothing_known (length texts)) ≡ map branches_along (feasible_paths block)
listed_are block old new texts numbered at e laid n apart =
    ap (λ k. leaves (map text_seen texts) (tree_at numbered at) (nothing_known k)) (sym (length-map texts text_seen))
    ∙ walked block (lines_seen new) (map text_seen texts) numbered at n apart (laid.begins ∙ ap (λ (ls : List (Line Text)). unfolded block (tree_at (lines_seen ls) 0)) e)

pub if_many : {T : Type 0} (r : Result T WalkFault) (m n : ℕ) → m ≡ n → IfErr r (λ e. e ≡ TooManyPaths → 4096 < m) → IfErr r (λ e. e ≡ TooManyPaths → 4096 < n)
if_many r m n e h = subst (λ x. IfErr r (λ f. f ≡ TooManyPaths → 4096 < x)) e h
