-- Lines, each of which goes on at earlier ones, and the trees that they stand for.
use Rattle.std.proofs.Common.{◌≡◌, ◌<◌, ◌+◌, ◌⊎◌, arith, ℕ, zero, suc, List, [], ◌∷◌, ◌++◌, map, length, slice_get, Some, refl, ap, ap₂, sym, ◌∙◌, subst, inl, inr}
use Rattle.std.proofs.lemmas.List.{length_push, get_or_append_left, get_or_push}
use Rattle.path_walk.specs.declared.line.Line.{Line}
use Rattle.path_walk.specs.declared.line.Line.TheVariants as line
use Rattle.path_walk.specs.Seen.{line_map}
use Rattle.path_walk.specs.Trees.{Tree, Leaf, Free, Tested, Made, tree_map}
use Rattle.path_walk.specs.Lines.{child, grown, trees, tree_at, IsBelow, IsLaid, Keeps}

pub trees_push : {A : Type 0} (ts : List (Tree A)) (ls : List (Line A)) (l : Line A) → trees ts (ls ++ l ∷ []) ≡ trees ts ls ++ grown l (trees ts ls) ∷ []
trees_push ts [] l = refl
trees_push ts (x ∷ ls) l = trees_push (ts ++ grown x ts ∷ []) ls l

pub length_trees : {A : Type 0} (ts : List (Tree A)) (ls : List (Line A)) → length (trees ts ls) ≡ length ts + length ls
length_trees ts [] = omega arith
length_trees ts (x ∷ ls) = let e = length_trees (ts ++ grown x ts ∷ []) ls in let h = length_push ts (grown x ts) in omega arith

front : {A : Type 0} (ts : List (Tree A)) (ls : List (Line A)) (i : ℕ) → i < length ts → child (trees ts ls) i ≡ child ts i
front ts [] i h = refl
front ts (x ∷ ls) i h =
    let e = length_push ts (grown x ts) in
    let k : i < length (ts ++ grown x ts ∷ []) = omega arith in
    front (ts ++ grown x ts ∷ []) ls i k ∙ get_or_append_left ts (grown x ts ∷ []) Leaf i h

same_children : {A : Type 0} (l : Line A) (n : ℕ) (ts us : List (Tree A)) → IsBelow n l → ((k : ℕ) → k < n → child ts k ≡ child us k) → grown l ts ≡ grown l us
same_children line.Stop n ts us b h = refl
same_children (line.Free hit miss) n ts us b h = ap₂ Free (h hit b.0) (h miss b.1)
same_children (line.Test test e hit miss) n ts us b h = ap₂ (Tested test e) (h hit b.0) (h miss b.1)
same_children (line.Make made taken full) n ts us b h =
    let x = h made b.0 in let y = h taken b.1 in let z = h full b.2 in
    ap (λ t. Made t (child ts taken) (child ts full)) x ∙ ap₂ (Made (child us made)) y z

at_line : {A : Type 0} (ts : List (Tree A)) (ls : List (Line A)) (i : ℕ) (l : Line A) → slice_get ls i ≡ Some l → IsBelow (length ts + i) l → child (trees ts ls) (length ts + i) ≡ grown l (trees ts ls)
at_line ts [] i l e b = cc
at_line ts (x ∷ ls) zero l e b =
    let us = ts ++ grown x ts ∷ [] in
    let same : x ≡ l = cc in
    let n : length ts + 0 ≡ length ts = omega arith in
    let more = length_push ts (grown x ts) in
    let k : length ts < length us = omega arith in
    let below : IsBelow (length ts) x = subst (λ y. IsBelow (length ts) y) (sym same) (subst (λ y. IsBelow y l) n b) in
    ap (λ y. child (trees us ls) y) n
    ∙ front us ls (length ts) k
    ∙ get_or_push ts (grown x ts) Leaf (length ts) refl
    ∙ same_children x (length ts) ts (trees us ls) below (λ j h. sym (front ts (x ∷ ls) j h))
    ∙ ap (λ y. grown y (trees us ls)) same
at_line ts (x ∷ ls) (suc i) l e b =
    let us = ts ++ grown x ts ∷ [] in
    let more = length_push ts (grown x ts) in
    let n : length ts + suc i ≡ length us + i = omega arith in
    ap (λ y. child (trees us ls) y) n ∙ at_line us ls i l e (subst (λ y. IsBelow y l) n b)

-- the tree of a line
pub tree_is : {A : Type 0} (ls : List (Line A)) (i : ℕ) (l : Line A) → IsLaid ls → slice_get ls i ≡ Some l → tree_at ls i ≡ grown l (trees [] ls)
tree_is ls i l laid e =
    let n : 0 + i ≡ i = omega arith in
    ap (λ y. tree_at ls y) (sym n) ∙ at_line [] ls i l e (subst (λ y. IsBelow y l) (sym n) (laid.at i l e))

-- one line more
pub keeps_itself : {A : Type 0} (ls : List (Line A)) → IsLaid ls → Keeps ls ls
keeps_itself ls h = record { longer = omega arith; same = λ i k. refl; laid = h }

pub keeps_both : {A : Type 0} (xs ys zs : List (Line A)) → Keeps xs ys → Keeps ys zs → Keeps xs zs
keeps_both xs ys zs a b = record {
  longer = let h = a.longer in let k = b.longer in omega arith;
  same = λ i k. let h = a.longer in let l : i < length ys = omega arith in b.same i l ∙ a.same i k;
  laid = b.laid;
}

got_push : {A : Type 0} (xs : List (Line A)) (x l : Line A) (i : ℕ) → slice_get (xs ++ x ∷ []) i ≡ Some l → (slice_get xs i ≡ Some l) ⊎ ((i ≡ length xs) × (x ≡ l))
got_push [] x l zero e = let h : x ≡ l = cc in inr (refl, h)
got_push [] x l (suc i) e = cc
got_push (y ∷ xs) x l zero e = inl e
got_push (y ∷ xs) x l (suc i) e = elim (got_push xs x l i e) [ inl h ↦ inl h | inr h ↦ inr (ap suc h.0, h.1) ]

laid_push : {A : Type 0} (ls : List (Line A)) (l : Line A) → IsLaid ls → IsBelow (length ls) l → IsLaid (ls ++ l ∷ [])
laid_push ls l h b = record {
  at = λ i x e. elim (got_push ls l x i e) [
    | inl k ↦ h.at i x k
    | inr k ↦ subst (λ y. IsBelow i y) k.1 (subst (λ n. IsBelow n l) (sym k.0) b)
  ];
}

pub keeps_push : {A : Type 0} (ls : List (Line A)) (l : Line A) → IsLaid ls → IsBelow (length ls) l → Keeps ls (ls ++ l ∷ [])
keeps_push ls l h b = record {
  longer = let e = length_push ls l in omega arith;
  same = λ i k.
      let n = length_trees [] ls in
      let j : i < length (trees [] ls) = omega arith in
      ap (λ ts. child ts i) (trees_push [] ls l) ∙ get_or_append_left (trees [] ls) (grown l (trees [] ls) ∷ []) Leaf i j;
  laid = laid_push ls l h b;
}

pub tree_push : {A : Type 0} (ls : List (Line A)) (l : Line A) → tree_at (ls ++ l ∷ []) (length ls) ≡ grown l (trees [] ls)
tree_push ls l =
    let n = length_trees [] ls in
    let e : length (trees [] ls) ≡ length ls = omega arith in
    ap (λ ts. child ts (length ls)) (trees_push [] ls l) ∙ get_or_push (trees [] ls) (grown l (trees [] ls)) Leaf (length ls) e

child_map : {A B : Type 0} (f : A → B) (ts : List (Tree A)) (i : ℕ) → child (map (tree_map f) ts) i ≡ tree_map f (child ts i)
child_map f [] i = refl
child_map f (t ∷ ts) zero = refl
child_map f (t ∷ ts) (suc i) = child_map f ts i

grown_map : {A B : Type 0} (f : A → B) (l : Line A) (ts : List (Tree A)) → grown (line_map f l) (map (tree_map f) ts) ≡ tree_map f (grown l ts)
grown_map f line.Stop ts = refl
grown_map f (line.Free hit miss) ts = ap₂ Free (child_map f ts hit) (child_map f ts miss)
grown_map f (line.Test test e hit miss) ts = ap₂ (Tested (f test) e) (child_map f ts hit) (child_map f ts miss)
grown_map f (line.Make made taken full) ts =
    ap (λ t. Made t (child (map (tree_map f) ts) taken) (child (map (tree_map f) ts) full)) (child_map f ts made)
    ∙ ap₂ (Made (tree_map f (child ts made))) (child_map f ts taken) (child_map f ts full)

map_push : {A B : Type 0} (f : A → B) (xs : List A) (x : A) → map f (xs ++ x ∷ []) ≡ map f xs ++ f x ∷ []
map_push f [] x = refl
map_push f (y ∷ xs) x = ap (λ zs. f y ∷ zs) (map_push f xs x)

trees_map : {A B : Type 0} (f : A → B) (ts : List (Tree A)) (ls : List (Line A)) → trees (map (tree_map f) ts) (map (line_map f) ls) ≡ map (tree_map f) (trees ts ls)
trees_map f ts [] = refl
trees_map f ts (l ∷ ls) =
    ap (λ us. trees us (map (line_map f) ls)) (ap (λ t. map (tree_map f) ts ++ t ∷ []) (grown_map f l ts) ∙ sym (map_push (tree_map f) ts (grown l ts)))
    ∙ trees_map f (ts ++ grown l ts ∷ []) ls

pub tree_at_map : {A B : Type 0} (f : A → B) (ls : List (Line A)) (i : ℕ) → tree_at (map (line_map f) ls) i ≡ tree_map f (tree_at ls i)
tree_at_map f ls i = ap (λ ts. child ts i) (trees_map f [] ls) ∙ child_map f (trees [] ls) i
