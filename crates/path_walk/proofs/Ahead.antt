-- How paths go on that have come to a statement.
use Rattle.std.proofs.Common.{◌≡◌, ◌<◌, arith, ℕ, zero, suc, Bool, true, false, not, List, [], ◌∷◌, ◌++◌, length, Option, Some, None, if◌then◌else◌, refl, ap, ap₂, sym, ◌∙◌}
use Rattle.std.specs.List.{flat_map, cons_option}
use Rattle.std.proofs.lemmas.List.{append-nil}
use Rattle.std.proofs.lemmas.List.Concat.{flat_map-append}
use Rattle.std.proofs.lemmas.List.Elements.{filter_map-append}
use Rattle.nf_base.specs.Paths.{Branch, Hits, Misses, Makes, IsTaken, IsFull}
use Rattle.path_walk.specs.declared.ways.Asked.{Asked}
use Rattle.path_walk.specs.Tests.{TestText, same_text}
use Rattle.path_walk.specs.Feasible.{differ, equals_of}
use Rattle.path_walk.specs.Trees.{Tree, Free, Tested, Made, tree_map}
use Rattle.path_walk.specs.Numbering.{text_at, AreApart}
use Rattle.path_walk.specs.Known.{Marks, mark_at, excludes, told_mark}
use Rattle.path_walk.specs.Walks.{ahead, tested}
use Rattle.path_walk.specs.Alive.{into_first, into_second, into_third, behind_first, those}
use Rattle.path_walk.specs.Ahead.{number_in, ahead_of, all_ahead, one_if, is_way, behind_way, behind_test}
use Rattle.path_walk.proofs.Texts.{text_same, same_from}

abbrev Into : Type 0
Into = Branch → List Branch → Option (List Branch)

-- paths that go a way, and those that don't
kept : (into : Into) (b : Branch) → ((rest : List Branch) → into b rest ≡ Some rest) → (ps : List (List Branch)) → those into (ahead b ps) ≡ ps
kept into b h [] = refl
kept into b h (p ∷ ps) = ap₂ (λ o r. cons_option o r) (h p) (kept into b h ps)

gone : (into : Into) (b : Branch) → ((rest : List Branch) → into b rest ≡ None) → (ps : List (List Branch)) → those into (ahead b ps) ≡ []
gone into b h [] = refl
gone into b h (p ∷ ps) = ap₂ (λ o r. cons_option o r) (h p) (gone into b h ps)

abbrev join : List (List Branch) → List (List Branch) → List (List Branch)
join xs ys = xs ++ ys

those-append : (into : Into) (xs ys : List (List Branch)) → those into (xs ++ ys) ≡ those into xs ++ those into ys
those-append into xs ys = filter_map-append (behind_first into) xs ys

those-all : (into : Into) (f : Marks → List (List Branch)) (ms : List Marks) → those into (flat_map f ms) ≡ flat_map (λ m. those into (f m)) ms
those-all into f [] = refl
those-all into f (m ∷ ms) = those-append into (f m) (flat_map f ms) ∙ ap (λ r. those into (f m) ++ r) (those-all into f ms)

-- one function for another
pub all-agree : {A : Type 0} (f g : Marks → List A) → ((m : Marks) → f m ≡ g m) → (ms : List Marks) → flat_map f ms ≡ flat_map g ms
all-agree f g h [] = refl
all-agree f g h (m ∷ ms) = ap₂ (λ x y. x ++ y) (h m) (all-agree f g h ms)

all-twice : {A : Type 0} (f : Marks → List A) (g : Marks → List Marks) (ms : List Marks) → flat_map f (flat_map g ms) ≡ flat_map (λ m. flat_map f (g m)) ms
all-twice f g [] = refl
all-twice f g (m ∷ ms) = flat_map-append f (g m) (flat_map g ms) ∙ ap (λ r. flat_map f (g m) ++ r) (all-twice f g ms)

abbrev Leaves : Type 0
Leaves = Marks → List (List Branch)

-- the ways of a look-up
free_first : (xs ys : List (List Branch)) → those into_first (ahead Hits xs ++ ahead Misses ys) ≡ xs
free_first xs ys = those-append into_first (ahead Hits xs) (ahead Misses ys) ∙ ap₂ join (kept into_first Hits (λ r. refl) xs) (gone into_first Misses (λ r. refl) ys) ∙ append-nil xs

free_second : (xs ys : List (List Branch)) → those into_second (ahead Hits xs ++ ahead Misses ys) ≡ ys
free_second xs ys = those-append into_second (ahead Hits xs) (ahead Misses ys) ∙ ap₂ join (gone into_second Hits (λ r. refl) xs) (kept into_second Misses (λ r. refl) ys)

-- of a `new`
abbrev three : List (List Branch) → List (List Branch) → List (List Branch) → List (List Branch)
three xs ys zs = ahead Makes xs ++ (ahead IsTaken ys ++ ahead IsFull zs)

those-three : (into : Into) (xs ys zs : List (List Branch)) → those into (three xs ys zs) ≡ those into (ahead Makes xs) ++ (those into (ahead IsTaken ys) ++ those into (ahead IsFull zs))
those-three into xs ys zs =
    those-append into (ahead Makes xs) (ahead IsTaken ys ++ ahead IsFull zs)
    ∙ ap (λ r. those into (ahead Makes xs) ++ r) (those-append into (ahead IsTaken ys) (ahead IsFull zs))

made_first : (xs ys zs : List (List Branch)) → those into_first (three xs ys zs) ≡ xs
made_first xs ys zs =
    those-three into_first xs ys zs
    ∙ ap₂ join (kept into_first Makes (λ r. refl) xs) (ap₂ join (gone into_first IsTaken (λ r. refl) ys) (gone into_first IsFull (λ r. refl) zs))
    ∙ append-nil xs

made_second : (xs ys zs : List (List Branch)) → those into_second (three xs ys zs) ≡ ys
made_second xs ys zs =
    those-three into_second xs ys zs
    ∙ ap₂ join (gone into_second Makes (λ r. refl) xs) (ap₂ join (kept into_second IsTaken (λ r. refl) ys) (gone into_second IsFull (λ r. refl) zs))
    ∙ append-nil ys

made_third : (xs ys zs : List (List Branch)) → those into_third (three xs ys zs) ≡ zs
made_third xs ys zs =
    those-three into_third xs ys zs
    ∙ ap₂ join (gone into_third Makes (λ r. refl) xs) (ap₂ join (gone into_third IsTaken (λ r. refl) ys) (kept into_third IsFull (λ r. refl) zs))

-- of a test: one that goes one way
one_first : (b : Bool) (f g : Leaves) (m k : Marks) → those into_first (if b then ahead Hits (f m) else ahead Misses (g m)) ≡ flat_map f (one_if (is_way true b) m)
one_first true f g m k = kept into_first Hits (λ r. refl) (f m) ∙ sym (append-nil (f m))
one_first false f g m k = gone into_first Misses (λ r. refl) (g m)

one_second : (b : Bool) (f g : Leaves) (m k : Marks) → those into_second (if b then ahead Hits (f m) else ahead Misses (g m)) ≡ flat_map g (one_if (is_way false b) m)
one_second true f g m k = gone into_second Hits (λ r. refl) (f m)
one_second false f g m k = kept into_second Misses (λ r. refl) (g m) ∙ sym (append-nil (g m))

differ_true : (e : Bool) → differ e true ≡ not e
differ_true true = refl
differ_true false = refl

differ_false : (e : Bool) → differ e false ≡ e
differ_false true = refl
differ_false false = refl

abbrev both : (e : Bool) (m : Marks) (told : Bool → Marks) (mark : Option Bool) (other : Bool) (f g : Leaves) → List (List Branch)
both e m told mark other f g = tested e mark other m told (λ k. ahead Hits (f k)) (λ k. ahead Misses (g k))

test_first : (e : Bool) (mark : Option Bool) (other : Bool) (m : Marks) (told : Bool → Marks) (f g : Leaves) →
    those into_first (both e m told mark other f g) ≡ flat_map f (behind_way e true mark other m told)
test_first e (Some holds) other m told f g = one_first (differ e holds) f g m m
test_first e None true m told f g = one_first (differ e false) f g (told false) m
test_first e None false m told f g =
    free_first (f (told (not e))) (g (told e)) ∙ sym (append-nil (f (told (not e))))
    ∙ ap (λ b. flat_map f (told b ∷ [])) (sym (differ_true e))

test_second : (e : Bool) (mark : Option Bool) (other : Bool) (m : Marks) (told : Bool → Marks) (f g : Leaves) →
    those into_second (both e m told mark other f g) ≡ flat_map g (behind_way e false mark other m told)
test_second e (Some holds) other m told f g = one_second (differ e holds) f g m m
test_second e None true m told f g = one_second (differ e false) f g (told false) m
test_second e None false m told f g =
    free_second (f (told (not e))) (g (told e)) ∙ sym (append-nil (g (told e)))
    ∙ ap (λ b. flat_map g (told b ∷ [])) (sym (differ_false e))

-- a text has the number that finds it
later : {A : Type 0} (x : A) (xs : List A) (n : ℕ) → n < length xs → suc n < length (x ∷ xs)
later x xs n h = omega arith

apart_tail : (t : TestText) (ts : List TestText) → AreApart (t ∷ ts) → AreApart ts
apart_tail t ts h = record {
  one = λ i j a b e. let k : suc i ≡ suc j = h.one (suc i) (suc j) (later t ts i a) (later t ts j b) e in omega arith;
}

pub number_is : (texts : List TestText) (n : ℕ) (x : TestText) → AreApart texts → n < length texts → text_at texts n ≡ x → number_in texts x ≡ n
number_is [] n x apart w e = absurd (omega arith)
number_is (t ∷ ts) zero x apart w e = ap (λ (b : Bool). if b then 0 else suc (number_in ts x)) (same_from t x e)
number_is (t ∷ ts) (suc n) x apart w e = split (same_text t x) refl (number_is ts n x (apart_tail t ts apart) (omega arith) e)
  where
    split : (b : Bool) → same_text t x ≡ b → number_in ts x ≡ n → (if b then 0 else suc (number_in ts x)) ≡ suc n
    split true s later =
        let at : text_at (t ∷ ts) 0 ≡ text_at (t ∷ ts) (suc n) = text_same t x s ∙ sym e in
        let first : 0 < length (t ∷ ts) = omega arith in
        let k : 0 ≡ suc n = apart.one 0 (suc n) first w at in
        absurd (omega arith)
    split false s later = ap suc later

-- the paths that come to a question, by the way that they go
abbrev Numbered : List TestText → Tree TestText → Tree ℕ
Numbered texts t = tree_map (number_in texts) t

pub free_ways_first : (texts : List TestText) (h m : Tree TestText) (ms : List Marks) → those into_first (all_ahead texts (Free h m) ms) ≡ all_ahead texts h ms
free_ways_first texts h m ms =
    those-all into_first (ahead_of texts (Free h m)) ms
    ∙ all-agree (λ k. those into_first (ahead_of texts (Free h m) k)) (ahead_of texts h) (λ k. free_first (ahead_of texts h k) (ahead_of texts m k)) ms

pub free_ways_second : (texts : List TestText) (h m : Tree TestText) (ms : List Marks) → those into_second (all_ahead texts (Free h m) ms) ≡ all_ahead texts m ms
free_ways_second texts h m ms =
    those-all into_second (ahead_of texts (Free h m)) ms
    ∙ all-agree (λ k. those into_second (ahead_of texts (Free h m) k)) (ahead_of texts m) (λ k. free_second (ahead_of texts h k) (ahead_of texts m k)) ms

pub made_ways_first : (texts : List TestText) (x y z : Tree TestText) (ms : List Marks) → those into_first (all_ahead texts (Made x y z) ms) ≡ all_ahead texts x ms
made_ways_first texts x y z ms =
    those-all into_first (ahead_of texts (Made x y z)) ms
    ∙ all-agree (λ k. those into_first (ahead_of texts (Made x y z) k)) (ahead_of texts x) (λ k. made_first (ahead_of texts x k) (ahead_of texts y k) (ahead_of texts z k)) ms

pub made_ways_second : (texts : List TestText) (x y z : Tree TestText) (ms : List Marks) → those into_second (all_ahead texts (Made x y z) ms) ≡ all_ahead texts y ms
made_ways_second texts x y z ms =
    those-all into_second (ahead_of texts (Made x y z)) ms
    ∙ all-agree (λ k. those into_second (ahead_of texts (Made x y z) k)) (ahead_of texts y) (λ k. made_second (ahead_of texts x k) (ahead_of texts y k) (ahead_of texts z k)) ms

pub made_ways_third : (texts : List TestText) (x y z : Tree TestText) (ms : List Marks) → those into_third (all_ahead texts (Made x y z) ms) ≡ all_ahead texts z ms
made_ways_third texts x y z ms =
    those-all into_third (ahead_of texts (Made x y z)) ms
    ∙ all-agree (λ k. those into_third (ahead_of texts (Made x y z) k)) (ahead_of texts z) (λ k. made_third (ahead_of texts x k) (ahead_of texts y k) (ahead_of texts z k)) ms

-- a test with its number
abbrev pub asked_of : List TestText → TestText → Bool → Asked
asked_of texts x e = record { number = number_in texts x; equals = equals_of (text_at texts (number_in texts x)); exchanged = e }

pub test_ways_first : (texts : List TestText) (x : TestText) (e : Bool) (h m : Tree TestText) (ms : List Marks) →
    those into_first (all_ahead texts (Tested x e h m) ms) ≡ all_ahead texts h (flat_map (behind_test (asked_of texts x e) true) ms)
test_ways_first texts x e h m ms =
    let t = asked_of texts x e in
    those-all into_first (ahead_of texts (Tested x e h m)) ms
    ∙ all-agree (λ k. those into_first (ahead_of texts (Tested x e h m) k)) (λ k. flat_map (ahead_of texts h) (behind_test t true k))
    (λ k. test_first e (mark_at k t.number) (excludes t.equals k) k (told_mark k t.number t.equals) (ahead_of texts h) (ahead_of texts m)) ms
    ∙ sym (all-twice (ahead_of texts h) (behind_test t true) ms)

pub test_ways_second : (texts : List TestText) (x : TestText) (e : Bool) (h m : Tree TestText) (ms : List Marks) →
    those into_second (all_ahead texts (Tested x e h m) ms) ≡ all_ahead texts m (flat_map (behind_test (asked_of texts x e) false) ms)
test_ways_second texts x e h m ms =
    let t = asked_of texts x e in
    those-all into_second (ahead_of texts (Tested x e h m)) ms
    ∙ all-agree (λ k. those into_second (ahead_of texts (Tested x e h m) k)) (λ k. flat_map (ahead_of texts m) (behind_test t false k))
    (λ k. test_second e (mark_at k t.number) (excludes t.equals k) k (told_mark k t.number t.equals) (ahead_of texts h) (ahead_of texts m)) ms
    ∙ sym (all-twice (ahead_of texts m) (behind_test t false) ms)
