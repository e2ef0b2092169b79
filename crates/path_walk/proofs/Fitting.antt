-- The feasible paths of a block, from what the tests so far said.
use Rattle.std.proofs.Common.{◌≡◌, ℕ, Bool, true, false, not, ◌&&◌, List, [], ◌∷◌, ◌++◌, map, Contains, Option, Some, None, cond, if◌then◌else◌, refl, ap, ap₂, sym, ◌∙◌, subst, inl, inr}
use Rattle.std.specs.List.{filter, list_any}
use Rattle.std.proofs.lemmas.Bool.{and_parts}
use Rattle.std.proofs.lemmas.List.{map-append}
use Rattle.nf_base.specs.declared.expr.Comparison.{Comparison}
use Rattle.nf_base.specs.Text.{Expression, FallsOff, Flood, Discard, Forward, Question, Get, Find, Test, Block, End, Do, Ask, Make}
use Rattle.nf_base.specs.Paths.{Branch, Hits, Misses, Makes, IsTaken, IsFull, PathStep, Doing, Asking, Making, each_after, paths}
use Rattle.nf_laws.specs.Paths.{of_packet}
use Rattle.nf_laws.proofs.Listed.{here, there, has, has_none}
use Rattle.path_walk.specs.Tests.{TestText, Told, told, test_of, test_in_front, tests, is_exchanged, flipped}
use Rattle.path_walk.specs.Feasible.{contradicts, is_feasible, feasible_paths, branches_along}
use Rattle.path_walk.specs.Trees.{Tree, Leaf, Free, Tested, Made, text_of, asking, unfolded}
use Rattle.path_walk.proofs.Agreeing.{Agree, AllAgree, agree_of, agree_back, agree_itself, none_contradicts, any_none, none_of, all_agree, consistent}

-- whether a test goes so after those before it, the last one first
abbrev pub goes : List Told → Told → Bool
goes before t = not (list_any (λ a. contradicts a t) before)

abbrev pub all_go : List Told → List Told → Bool
all_go before [] = true
all_go before (t ∷ ts) = goes before t && all_go (t ∷ before) ts

abbrev pub ahead : Branch → List (List Branch) → List (List Branch)
ahead b paths = map (λ path. b ∷ path) paths

abbrev pub tell : TestText → Bool → Told
tell text holds = record { text = text; holds = holds }

abbrev pub if_goes : Bool → List (List Branch) → List (List Branch)
if_goes true paths = paths
if_goes false paths = []

-- the branches along the paths of a tree, as far as the tests so far allow
abbrev pub fitting : List Told → Tree TestText → List (List Branch)
fitting before Leaf = [] ∷ []
fitting before (Free hit miss) = ahead Hits (fitting before hit) ++ ahead Misses (fitting before miss)
fitting before (Tested text e hit miss) =
    if_goes (goes before (tell text (not e))) (ahead Hits (fitting (tell text (not e) ∷ before) hit))
    ++ if_goes (goes before (tell text e)) (ahead Misses (fitting (tell text e ∷ before) miss))
fitting before (Made made taken full) =
    ahead Makes (fitting before made) ++ (ahead IsTaken (fitting before taken) ++ ahead IsFull (fitting before full))

-- the same over paths
abbrev fits : List Told → List PathStep → Bool
fits before path = all_go before (tests path)

abbrev listed : List Told → List (List PathStep) → List (List Branch)
listed before paths = map branches_along (filter (fits before) paths)

abbrev along : Branch → List PathStep → List Branch
along b path = b ∷ branches_along path

-- a statement of no test, in front of paths
listed_after : (s : PathStep) (f : List Branch → List Branch) (before : List Told) (xs : List (List PathStep)) →
    ((x : List PathStep) → fits before (s ∷ x) ≡ fits before x) → ((x : List PathStep) → branches_along (s ∷ x) ≡ f (branches_along x)) →
    listed before (each_after s xs) ≡ map f (listed before xs)
listed_after s f before [] h g = refl
listed_after s f before (x ∷ xs) h g = split (fits before x) (h x) (g x) (listed_after s f before xs h g)
  where
    split : (b : Bool) → fits before (s ∷ x) ≡ b → branches_along (s ∷ x) ≡ f (branches_along x) → listed before (each_after s xs) ≡ map f (listed before xs) →
        map branches_along (cond (fits before (s ∷ x)) ((s ∷ x) ∷ filter (fits before) (each_after s xs)) (filter (fits before) (each_after s xs)))
        ≡ map f (map branches_along (cond b (x ∷ filter (fits before) xs) (filter (fits before) xs)))
    split true e k r = ap (λ (b : Bool). map branches_along (cond b ((s ∷ x) ∷ filter (fits before) (each_after s xs)) (filter (fits before) (each_after s xs)))) e ∙ ap₂ (λ y ys. y ∷ ys) k r
    split false e k r = ap (λ (b : Bool). map branches_along (cond b ((s ∷ x) ∷ filter (fits before) (each_after s xs)) (filter (fits before) (each_after s xs)))) e ∙ r

map_itself : (xs : List (List Branch)) → map (λ x. x) xs ≡ xs
map_itself [] = refl
map_itself (x ∷ xs) = ap (λ ys. x ∷ ys) (map_itself xs)

-- a test in front of paths
listed_cons : (s : PathStep) (t : Told) (b : Branch) (before : List Told) (x : List PathStep) (xs : List (List PathStep)) (v w : Bool) →
    fits before (s ∷ x) ≡ (v && w) → fits (t ∷ before) x ≡ w → branches_along (s ∷ x) ≡ b ∷ branches_along x → listed before (each_after s xs) ≡ if_goes v (ahead b (listed (t ∷ before) xs)) →
    listed before (each_after s (x ∷ xs)) ≡ if_goes v (ahead b (listed (t ∷ before) (x ∷ xs)))
listed_cons s t b before x xs v w e k g r =
    ap (λ (u : Bool). map branches_along (cond u ((s ∷ x) ∷ filter (fits before) (each_after s xs)) (filter (fits before) (each_after s xs)))) e
    ∙ go v w r
    ∙ ap (λ (u : Bool). if_goes v (ahead b (map branches_along (cond u (x ∷ filter (fits (t ∷ before)) xs) (filter (fits (t ∷ before)) xs))))) (sym k)
  where
    go : (v w : Bool) → listed before (each_after s xs) ≡ if_goes v (ahead b (listed (t ∷ before) xs)) →
        map branches_along (cond (v && w) ((s ∷ x) ∷ filter (fits before) (each_after s xs)) (filter (fits before) (each_after s xs)))
        ≡ if_goes v (ahead b (map branches_along (cond w (x ∷ filter (fits (t ∷ before)) xs) (filter (fits (t ∷ before)) xs))))
    go true true r = ap₂ (λ y ys. y ∷ ys) g r
    go true false r = r
    go false w r = r

if_goes_none : (v : Bool) → [] ≡ if_goes v []
if_goes_none true = refl
if_goes_none false = refl

listed_test : (s : PathStep) (t : Told) (b : Branch) (before : List Told) (xs : List (List PathStep)) → test_of s ≡ Some t → ((x : List PathStep) → branches_along (s ∷ x) ≡ b ∷ branches_along x) →
    listed before (each_after s xs) ≡ if_goes (goes before t) (ahead b (listed (t ∷ before) xs))
listed_test s t b before [] e g = if_goes_none (goes before t)
listed_test s t b before (x ∷ xs) e g =
    listed_cons s t b before x xs (goes before t) (fits (t ∷ before) x) (ap (λ (o : Option Told). all_go before (test_in_front o (tests x))) e) refl (g x) (listed_test s t b before xs e g)

filter_append : (f : List PathStep → Bool) (xs ys : List (List PathStep)) → filter f (xs ++ ys) ≡ filter f xs ++ filter f ys
filter_append f [] ys = refl
filter_append f (x ∷ xs) ys = one (f x) x (filter_append f xs ys)
  where
    one : (b : Bool) (x : List PathStep) → filter f (xs ++ ys) ≡ filter f xs ++ filter f ys → cond b (x ∷ filter f (xs ++ ys)) (filter f (xs ++ ys)) ≡ cond b (x ∷ filter f xs) (filter f xs) ++ filter f ys
    one true x e = ap (λ zs. x ∷ zs) e
    one false x e = e

listed_append : (before : List Told) (xs ys : List (List PathStep)) → listed before (xs ++ ys) ≡ listed before xs ++ listed before ys
listed_append before xs ys = ap (map branches_along) (filter_append (fits before) xs ys) ∙ map-append branches_along (filter (fits before) xs) (filter (fits before) ys)

abbrev join : List (List Branch) → List (List Branch) → List (List Branch)
join xs ys = xs ++ ys

hit_flips : (e : Bool) → flipped e true ≡ not e
hit_flips true = refl
hit_flips false = refl

miss_flips : (e : Bool) → flipped e false ≡ e
miss_flips true = refl
miss_flips false = refl

free : (q : Question) (before : List Told) (h m : Tree TestText) (xs ys : List (List PathStep)) → test_of (Asking q Hits) ≡ None → test_of (Asking q Misses) ≡ None →
    fitting before h ≡ listed before xs → fitting before m ≡ listed before ys →
    fitting before (Free h m) ≡ listed before (each_after (Asking q Hits) xs ++ each_after (Asking q Misses) ys)
free q before h m xs ys eh em a b =
    ap₂ join
    (ap (ahead Hits) a ∙ sym (listed_after (Asking q Hits) (λ path. Hits ∷ path) before xs (λ x. ap (λ (o : Option Told). all_go before (test_in_front o (tests x))) eh) (λ x. refl)))
    (ap (ahead Misses) b ∙ sym (listed_after (Asking q Misses) (λ path. Misses ∷ path) before ys (λ x. ap (λ (o : Option Told). all_go before (test_in_front o (tests x))) em) (λ x. refl)))
    ∙ sym (listed_append before (each_after (Asking q Hits) xs) (each_after (Asking q Misses) ys))

tested : (place : ℕ) (c : Comparison) (l r : Expression) (before : List Told) (h m : Tree TestText) (xs ys : List (List PathStep)) → (of_packet l && of_packet r) ≡ true →
    ((b : List Told) → fitting b h ≡ listed b xs) → ((b : List Told) → fitting b m ≡ listed b ys) →
    fitting before (Tested (text_of c l r) (is_exchanged c) h m) ≡ listed before (each_after (Asking (Test place c l r) Hits) xs ++ each_after (Asking (Test place c l r) Misses) ys)
tested place c l r before h m xs ys p a b =
    let q = Test place c l r in
    let hits = tell (text_of c l r) (not (is_exchanged c)) in
    let misses = tell (text_of c l r) (is_exchanged c) in
    let is_test : (x : Branch) → test_of (Asking q x) ≡ Some (told c l r x) = λ x. ap (λ (v : Bool). if v then Some (told c l r x) else None) p in
    let eh : test_of (Asking q Hits) ≡ Some hits = is_test Hits ∙ ap (λ (v : Bool). Some (tell (text_of c l r) v)) (hit_flips (is_exchanged c)) in
    let em : test_of (Asking q Misses) ≡ Some misses = is_test Misses ∙ ap (λ (v : Bool). Some (tell (text_of c l r) v)) (miss_flips (is_exchanged c)) in
    ap₂ join
    (ap (λ zs. if_goes (goes before hits) (ahead Hits zs)) (a (hits ∷ before)) ∙ sym (listed_test (Asking q Hits) hits Hits before xs eh (λ x. refl)))
    (ap (λ zs. if_goes (goes before misses) (ahead Misses zs)) (b (misses ∷ before)) ∙ sym (listed_test (Asking q Misses) misses Misses before ys em (λ x. refl)))
    ∙ sym (listed_append before (each_after (Asking q Hits) xs) (each_after (Asking q Misses) ys))

asked : (q : Question) (before : List Told) (h m : Tree TestText) (xs ys : List (List PathStep)) →
    ((b : List Told) → fitting b h ≡ listed b xs) → ((b : List Told) → fitting b m ≡ listed b ys) →
    fitting before (asking q h m) ≡ listed before (each_after (Asking q Hits) xs ++ each_after (Asking q Misses) ys)
asked (Get place chain n key var) before h m xs ys a b = free (Get place chain n key var) before h m xs ys refl refl (a before) (b before)
asked (Find place chain at guards var) before h m xs ys a b = free (Find place chain at guards var) before h m xs ys refl refl (a before) (b before)
asked (Test place c l r) before h m xs ys a b = split (of_packet l && of_packet r) refl
  where
    split : (v : Bool) → (of_packet l && of_packet r) ≡ v → fitting before (if v then Tested (text_of c l r) (is_exchanged c) h m else Free h m) ≡ listed before (each_after (Asking (Test place c l r) Hits) xs ++ each_after (Asking (Test place c l r) Misses) ys)
    split true e = tested place c l r before h m xs ys e a b
    split false e =
        let none : (x : Branch) → test_of (Asking (Test place c l r) x) ≡ None = λ x. ap (λ (v : Bool). if v then Some (told c l r x) else None) e in
        free (Test place c l r) before h m xs ys (none Hits) (none Misses) (a before) (b before)

pub fitting_is : (b : Block) (t : Tree TestText) (rest : List (List PathStep)) → ((before : List Told) → fitting before t ≡ listed before rest) → (before : List Told) → fitting before (unfolded b t) ≡ listed before (paths b rest)
fitting_is (End FallsOff) t rest h before = h before
fitting_is (End Flood) t rest h before = refl
fitting_is (End Discard) t rest h before = refl
fitting_is (End (Forward port)) t rest h before = refl
fitting_is (Do op next) t rest h before =
    fitting_is next t rest h before ∙ sym (map_itself (listed before (paths next rest))) ∙ sym (listed_after (Doing op) (λ path. path) before (paths next rest) (λ x. refl) (λ x. refl))
fitting_is (Ask q hit miss next) t rest h before =
    let follows : (b : List Told) → fitting b (unfolded next t) ≡ listed b (paths next rest) = fitting_is next t rest h in
    asked q before (unfolded hit (unfolded next t)) (unfolded miss (unfolded next t)) (paths hit (paths next rest)) (paths miss (paths next rest))
    (fitting_is hit (unfolded next t) (paths next rest) follows) (fitting_is miss (unfolded next t) (paths next rest) follows)
fitting_is (Make n made taken full next) t rest h before =
    let follows : (b : List Told) → fitting b (unfolded next t) ≡ listed b (paths next rest) = fitting_is next t rest h in
    let after : (b : Branch) (x : Block) → fitting before (unfolded x (unfolded next t)) ≡ listed before (paths x (paths next rest)) →
    ahead b (fitting before (unfolded x (unfolded next t))) ≡ listed before (each_after (Making n b) (paths x (paths next rest)))
    = λ b x e. ap (ahead b) e ∙ sym (listed_after (Making n b) (λ path. b ∷ path) before (paths x (paths next rest)) (λ y. refl) (λ y. refl)) in
    let xs = each_after (Making n Makes) (paths made (paths next rest)) in
    let ys = each_after (Making n IsTaken) (paths taken (paths next rest)) in
    let zs = each_after (Making n IsFull) (paths full (paths next rest)) in
    ap₂ join (after Makes made (fitting_is made (unfolded next t) (paths next rest) follows before))
    (ap₂ join (after IsTaken taken (fitting_is taken (unfolded next t) (paths next rest) follows before)) (after IsFull full (fitting_is full (unfolded next t) (paths next rest) follows before))
    ∙ sym (listed_append before ys zs))
    ∙ sym (listed_append before xs (ys ++ zs))

-- a path fits after no tests where it is feasible
pub same_bool : (x y : Bool) → (x ≡ true → y ≡ true) → (y ≡ true → x ≡ true) → x ≡ y
same_bool true y f g = sym (f refl)
same_bool false true f g = g refl
same_bool false false f g = refl

pub goes_where : (before : List Told) (t : Told) → ((a : Told) → Contains before a → Agree a t) → goes before t ≡ true
goes_where before t h = ap not (any_none (λ a. contradicts a t) before (λ a i. none_contradicts a t (h a i)))

not_true : (x : Bool) → not x ≡ true → x ≡ false
not_true true e = cc
not_true false e = refl

pub goes_is : (before : List Told) (t : Told) → goes before t ≡ true → (a : Told) → Contains before a → Agree a t
goes_is before t e a i = agree_of a t (none_of (λ a. contradicts a t) before a (not_true (list_any (λ a. contradicts a t) before) e) i)

record Going (before ts : List Told) : Type 0 where
  pub across : (a b : Told) → Contains before a → Contains ts b → Agree a b
  pub within : AllAgree ts

going : (before ts : List Told) → all_go before ts ≡ true → Going before ts
going before [] e = record { across = λ a b i j. absurd (has_none b j); within = λ a b i j. absurd (has_none a i) }
going before (t ∷ ts) e =
    let w = and_parts (goes before t) (all_go (t ∷ before) ts) e in
    let later = going (t ∷ before) ts w.1 in
    let first : (b : Told) → Contains ts b → Agree t b = λ b j. later.across t b (here t before) j in
    record {
      across = λ a b i j. elim (has t ts b j) [ inl q ↦ subst (λ (x : Told). Agree a x) q (goes_is before t w.0 a i) | inr k ↦ later.across a b (there t before a i) k ];
      within = λ a b i j.
          elim (has t ts a i) [
            | inl p ↦ elim (has t ts b j) [ inl q ↦ subst (λ (x : Told). Agree a x) (sym p ∙ q) (agree_itself a) | inr k ↦ subst (λ (x : Told). Agree x b) p (first b k) ]
            | inr k ↦ elim (has t ts b j) [ inl q ↦ subst (λ (x : Told). Agree a x) q (agree_back t a (first a k)) | inr l ↦ later.within a b k l ]
          ];
    }

gone : (before ts : List Told) → Going before ts → all_go before ts ≡ true
gone before [] h = refl
gone before (t ∷ ts) h = ap₂ (λ x y. x && y) (goes_where before t (λ a i. h.across a t i (here t ts)))
    (gone (t ∷ before) ts (record {
      across = λ a b i j. elim (has t before a i) [ inl q ↦ subst (λ (x : Told). Agree x b) q (h.within t b (here t ts) (there t ts b j)) | inr k ↦ h.across a b k (there t ts b j) ];
      within = λ a b i j. h.within a b (there t ts a i) (there t ts b j);
    }))

fits_where : (path : List PathStep) → fits [] path ≡ is_feasible path
fits_where path = same_bool (fits [] path) (is_feasible path) (λ e. consistent (tests path) (going [] (tests path) e).within)
    (λ e. gone [] (tests path) (record { across = λ a b i j. absurd (has_none a i); within = all_agree (tests path) e }))

filter_same : (f g : List PathStep → Bool) (xs : List (List PathStep)) → ((x : List PathStep) → f x ≡ g x) → filter f xs ≡ filter g xs
filter_same f g [] h = refl
filter_same f g (x ∷ xs) h = ap₂ (λ (b : Bool) ys. cond b (x ∷ ys) ys) (h x) (filter_same f g xs h)

-- so the tree of a block has its feasible paths
pub tree_paths : (b : Block) → fitting [] (unfolded b Leaf) ≡ map branches_along (feasible_paths b)
tree_paths b = fitting_is b Leaf ([] ∷ []) (λ before. refl) [] ∙ ap (map branches_along) (filter_same (fits []) is_feasible (paths b ([] ∷ [])) fits_where)
