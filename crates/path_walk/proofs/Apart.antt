-- Different paths branch differently.
use Rattle.std.proofs.Common.{◌≡◌, Bool, true, false, not, List, [], ◌∷◌, ◌++◌, Contains, sym, ◌∙◌, subst, inl, inr}
use Rattle.std.proofs.lemmas.List.Elements.{Contains-append_cases}
use Rattle.nf_base.specs.Paths.{Branch, Hits, Misses, Makes, IsTaken, IsFull}
use Rattle.nf_laws.proofs.Listed.{here, there, has, has_none}
use Rattle.path_walk.specs.Tests.{TestText, Told}
use Rattle.path_walk.specs.Trees.{Tree, Leaf, Free, Tested, Made, unfolded}
use Rattle.path_walk.specs.Once.{EachOnce}
use Rattle.path_walk.specs.Laws.{PathsAreListedOnce}
use Rattle.path_walk.proofs.Fitting.{tell, goes, if_goes, ahead, fitting, tree_paths}

record Begins (b : Branch) (x : List Branch) : Type 0 where
  pub rest : List Branch
  pub is : x ≡ b ∷ rest

begins : (b : Branch) (ps : List (List Branch)) (x : List Branch) → Contains (ahead b ps) x → Begins b x
begins b [] x h = absurd (has_none x h)
begins b (p ∷ ps) x h = elim (has (b ∷ p) (ahead b ps) x h) [ inl e ↦ record { rest = p; is = sym e } | inr i ↦ begins b ps x i ]

behind : (b : Branch) (ps : List (List Branch)) (p : List Branch) → Contains (ahead b ps) (b ∷ p) → Contains ps p
behind b [] p h = absurd (has_none (b ∷ p) h)
behind b (q ∷ ps) p h = elim (has (b ∷ q) (ahead b ps) (b ∷ p) h) [
  | inl e ↦ let same : q ≡ p = cc in subst (λ (x : List Branch). Contains (q ∷ ps) x) same (here q ps)
  | inr i ↦ there q ps p (behind b ps p i)
]

once_ahead : (b : Branch) (ps : List (List Branch)) → EachOnce ps → EachOnce (ahead b ps)
once_ahead b [] h = tt
once_ahead b (p ∷ ps) h = (λ i. h.0 (behind b ps p i), once_ahead b ps h.1)

once_append : (xs ys : List (List Branch)) → EachOnce xs → EachOnce ys → ((x : List Branch) → Contains xs x → Contains ys x → ⊥) → EachOnce (xs ++ ys)
once_append [] ys h k a = k
once_append (x ∷ xs) ys h k a = (
  λ i. elim (Contains-append_cases xs ys x i) [ inl j ↦ h.0 j | inr j ↦ a x (here x xs) j ],
  once_append xs ys h.1 k (λ y i j. a y (there x xs y i) j),
)

once_if : (v : Bool) (xs : List (List Branch)) → EachOnce xs → EachOnce (if_goes v xs)
once_if true xs h = h
once_if false xs h = tt

in_if : (v : Bool) (xs : List (List Branch)) (x : List Branch) → Contains (if_goes v xs) x → Contains xs x
in_if true xs x h = h
in_if false xs x h = absurd (has_none x h)

hit_apart : (xs ys : List (List Branch)) (x : List Branch) → Contains (ahead Hits xs) x → Contains (ahead Misses ys) x → ⊥
hit_apart xs ys x h k = let a = begins Hits xs x h in let b = begins Misses ys x k in let e : Hits ∷ a.rest ≡ Misses ∷ b.rest = sym a.is ∙ b.is in cc

made_apart : (xs ys zs : List (List Branch)) (x : List Branch) → Contains (ahead Makes xs) x → Contains (ahead IsTaken ys ++ ahead IsFull zs) x → ⊥
made_apart xs ys zs x h k = let a = begins Makes xs x h in elim (Contains-append_cases (ahead IsTaken ys) (ahead IsFull zs) x k) [
  | inl i ↦ let b = begins IsTaken ys x i in let e : Makes ∷ a.rest ≡ IsTaken ∷ b.rest = sym a.is ∙ b.is in cc
  | inr i ↦ let b = begins IsFull zs x i in let e : Makes ∷ a.rest ≡ IsFull ∷ b.rest = sym a.is ∙ b.is in cc
]

taken_apart : (xs ys : List (List Branch)) (x : List Branch) → Contains (ahead IsTaken xs) x → Contains (ahead IsFull ys) x → ⊥
taken_apart xs ys x h k = let a = begins IsTaken xs x h in let b = begins IsFull ys x k in let e : IsTaken ∷ a.rest ≡ IsFull ∷ b.rest = sym a.is ∙ b.is in cc

once : (before : List Told) (t : Tree TestText) → EachOnce (fitting before t)
once before Leaf = (λ i. has_none [] i, tt)
once before (Free hit miss) =
    once_append (ahead Hits (fitting before hit)) (ahead Misses (fitting before miss)) (once_ahead Hits (fitting before hit) (once before hit)) (once_ahead Misses (fitting before miss) (once before miss))
    (hit_apart (fitting before hit) (fitting before miss))
once before (Tested x e hit miss) =
    let hits = fitting (tell x (not e) ∷ before) hit in
    let misses = fitting (tell x e ∷ before) miss in
    let u = goes before (tell x (not e)) in
    let v = goes before (tell x e) in
    once_append (if_goes u (ahead Hits hits)) (if_goes v (ahead Misses misses))
    (once_if u (ahead Hits hits) (once_ahead Hits hits (once (tell x (not e) ∷ before) hit))) (once_if v (ahead Misses misses) (once_ahead Misses misses (once (tell x e ∷ before) miss)))
    (λ y i j. hit_apart hits misses y (in_if u (ahead Hits hits) y i) (in_if v (ahead Misses misses) y j))
once before (Made made taken full) =
    let xs = fitting before made in
    let ys = fitting before taken in
    let zs = fitting before full in
    once_append (ahead Makes xs) (ahead IsTaken ys ++ ahead IsFull zs) (once_ahead Makes xs (once before made))
    (once_append (ahead IsTaken ys) (ahead IsFull zs) (once_ahead IsTaken ys (once before taken)) (once_ahead IsFull zs (once before full)) (taken_apart ys zs))
    (made_apart xs ys zs)

pub listed_once : PathsAreListedOnce
listed_once block = subst (λ (xs : List (List Branch)). EachOnce xs) (tree_paths block) (once [] (unfolded block Leaf))
