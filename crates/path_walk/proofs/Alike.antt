-- Paths of the same elements come to the same statements.
use Rattle.std.proofs.Common.{◌≡◌, Bool, List, [], ◌∷◌, ◌++◌, Contains, Option, Some, None, refl, ap, ap₂, sym, ◌∙◌, subst, inl, inr}
use Rattle.std.specs.List.{filter_map, cons_option}
use Rattle.std.proofs.lemmas.List.Elements.{Contains-append_left, Contains-append_right, Contains-append_cases}
use Rattle.nf_base.specs.Text.{FallsOff, Flood, Discard, Forward, Block, End, Do, Ask, Make}
use Rattle.nf_base.specs.Paths.{Branch}
use Rattle.nf_laws.proofs.Listed.{here, there, has, has_none}
use Rattle.path_walk.specs.Alive.{into_first, into_second, into_third, behind_first, those, is_any, past, alive, past_rest, alive_rest}
use Rattle.path_walk.specs.Alike.{HaveSame}

pub same : {A : Type 0} (xs ys : List A) → xs ≡ ys → HaveSame xs ys
same xs ys e = record {
  forth = λ x i. subst (λ zs. Contains zs x) e i;
  back = λ x i. subst (λ zs. Contains zs x) (sym e) i;
}

pub onward : {A : Type 0} (xs ys zs : List A) → HaveSame xs ys → HaveSame ys zs → HaveSame xs zs
onward xs ys zs h k = record {
  forth = λ x i. k.forth x (h.forth x i);
  back = λ x i. h.back x (k.back x i);
}

pub both_same : {A : Type 0} (xs ys us vs : List A) → HaveSame xs us → HaveSame ys vs → HaveSame (xs ++ ys) (us ++ vs)
both_same xs ys us vs h k = record {
  forth = λ x i. elim (Contains-append_cases xs ys x i) [
    | inl j ↦ Contains-append_left us vs x (h.forth x j)
    | inr j ↦ Contains-append_right us vs x (k.forth x j)
  ];
  back = λ x i. elim (Contains-append_cases us vs x i) [
    | inl j ↦ Contains-append_left xs ys x (h.back x j)
    | inr j ↦ Contains-append_right xs ys x (k.back x j)
  ];
}

pub any_same : {A : Type 0} (xs ys : List A) → HaveSame xs ys → is_any xs ≡ is_any ys
any_same [] [] h = refl
any_same [] (y ∷ ys) h = absurd (has_none y (h.back y (here y ys)))
any_same (x ∷ xs) [] h = absurd (has_none x (h.forth x (here x xs)))
any_same (x ∷ xs) (y ∷ ys) h = refl

-- the elements of a list that is gone through with `filter_map`
in_more : {B : Type 0} (o : Option B) (ys : List B) (y : B) → Contains ys y → Contains (cons_option o ys) y
in_more None ys y h = h
in_more (Some v) ys y h = there v ys y h

in_those : {A B : Type 0} (f : A → Option B) (xs : List A) (x : A) (y : B) → Contains xs x → f x ≡ Some y → Contains (filter_map f xs) y
in_those f [] x y h e = absurd (has_none x h)
in_those f (z ∷ xs) x y h e = elim (has z xs x h) [
  | inl q ↦ subst (λ o. Contains (cons_option o (filter_map f xs)) y) (sym (ap f q ∙ e)) (here y (filter_map f xs))
  | inr i ↦ in_more (f z) (filter_map f xs) y (in_those f xs x y i e)
]

abbrev From : {A B : Type 0} → (A → Option B) → List A → B → Type 0
From {A} f xs y = (x : A) × Contains xs x × (f x ≡ Some y)

from_one : {A B : Type 0} (f : A → Option B) (z : A) (xs : List A) (y : B) → (Contains (filter_map f xs) y → From f xs y) → Contains (cons_option (f z) (filter_map f xs)) y → From f (z ∷ xs) y
from_one {A} {B} f z xs y rest h = split (f z) refl h
  where
    later : Contains (filter_map f xs) y → From f (z ∷ xs) y
    later i = let w = rest i in (w.0, there z xs w.0 w.1, w.2)

    split : (o : Option B) → f z ≡ o → Contains (cons_option o (filter_map f xs)) y → From f (z ∷ xs) y
    split None e i = later i
    split (Some v) e i = elim (has v (filter_map f xs) y i) [
      | inl q ↦ (z, here z xs, e ∙ ap Some q)
      | inr j ↦ later j
    ]

from_those : {A B : Type 0} (f : A → Option B) (xs : List A) (y : B) → Contains (filter_map f xs) y → (x : A) × Contains xs x × (f x ≡ Some y)
from_those f [] y h = absurd (has_none y h)
from_those {A} {B} f (z ∷ xs) y h = from_one f z xs y (λ i. from_those f xs y i) h

pub those_same : (into : Branch → List Branch → Option (List Branch)) (xs ys : List (List Branch)) → HaveSame xs ys → HaveSame (those into xs) (those into ys)
those_same into xs ys h = record {
  forth = λ x i. let w = from_those (behind_first into) xs x i in in_those (behind_first into) ys w.0 x (h.forth w.0 w.1) w.2;
  back = λ x i. let w = from_those (behind_first into) ys x i in in_those (behind_first into) xs w.0 x (h.back w.0 w.1) w.2;
}

-- the paths behind a block, and the statements that paths come to
pub past_same : (b : Block) (xs ys : List (List Branch)) → HaveSame xs ys → HaveSame (past b xs) (past b ys)
past_same (End FallsOff) xs ys h = h
past_same (End Flood) xs ys h = same [] [] refl
past_same (End Discard) xs ys h = same [] [] refl
past_same (End (Forward port)) xs ys h = same [] [] refl
past_same (Do op next) xs ys h = past_same next xs ys h
past_same (Ask q hit miss next) xs ys h =
    past_same next (past hit (those into_first xs) ++ past miss (those into_second xs)) (past hit (those into_first ys) ++ past miss (those into_second ys))
    (both_same (past hit (those into_first xs)) (past miss (those into_second xs)) (past hit (those into_first ys)) (past miss (those into_second ys))
    (past_same hit (those into_first xs) (those into_first ys) (those_same into_first xs ys h))
    (past_same miss (those into_second xs) (those into_second ys) (those_same into_second xs ys h)))
past_same (Make n made taken full next) xs ys h =
    let a = past_same made (those into_first xs) (those into_first ys) (those_same into_first xs ys h) in
    let b = past_same taken (those into_second xs) (those into_second ys) (those_same into_second xs ys h) in
    let c = past_same full (those into_third xs) (those into_third ys) (those_same into_third xs ys h) in
    past_same next (past made (those into_first xs) ++ (past taken (those into_second xs) ++ past full (those into_third xs)))
    (past made (those into_first ys) ++ (past taken (those into_second ys) ++ past full (those into_third ys)))
    (both_same (past made (those into_first xs)) (past taken (those into_second xs) ++ past full (those into_third xs)) (past made (those into_first ys)) (past taken (those into_second ys) ++ past full (those into_third ys))
    a (both_same (past taken (those into_second xs)) (past full (those into_third xs)) (past taken (those into_second ys)) (past full (those into_third ys)) b c))

abbrev put : Bool → List Bool → List Bool
put b bs = b ∷ bs

abbrev join : List Bool → List Bool → List Bool
join xs ys = xs ++ ys

pub alive_same : (b : Block) (xs ys : List (List Branch)) → HaveSame xs ys → alive b xs ≡ alive b ys
alive_same (End e) xs ys h = ap (λ b. b ∷ []) (any_same xs ys h)
alive_same (Do op next) xs ys h = ap₂ put (any_same xs ys h) (alive_same next xs ys h)
alive_same (Ask q hit miss next) xs ys h =
    let f = those_same into_first xs ys h in
    let s = those_same into_second xs ys h in
    ap₂ put (any_same xs ys h)
    (ap₂ join (alive_same hit (those into_first xs) (those into_first ys) f)
    (ap₂ join (alive_same miss (those into_second xs) (those into_second ys) s)
    (alive_same next (past hit (those into_first xs) ++ past miss (those into_second xs)) (past hit (those into_first ys) ++ past miss (those into_second ys))
    (both_same (past hit (those into_first xs)) (past miss (those into_second xs)) (past hit (those into_first ys)) (past miss (those into_second ys))
    (past_same hit (those into_first xs) (those into_first ys) f) (past_same miss (those into_second xs) (those into_second ys) s)))))
alive_same (Make n made taken full next) xs ys h =
    let f = those_same into_first xs ys h in
    let s = those_same into_second xs ys h in
    let t = those_same into_third xs ys h in
    ap₂ put (any_same xs ys h)
    (ap₂ join (alive_same made (those into_first xs) (those into_first ys) f)
    (ap₂ join (alive_same taken (those into_second xs) (those into_second ys) s)
    (ap₂ join (alive_same full (those into_third xs) (those into_third ys) t)
    (alive_same next (past made (those into_first xs) ++ (past taken (those into_second xs) ++ past full (those into_third xs)))
    (past made (those into_first ys) ++ (past taken (those into_second ys) ++ past full (those into_third ys)))
    (both_same (past made (those into_first xs)) (past taken (those into_second xs) ++ past full (those into_third xs)) (past made (those into_first ys)) (past taken (those into_second ys) ++ past full (those into_third ys))
    (past_same made (those into_first xs) (those into_first ys) f)
    (both_same (past taken (those into_second xs)) (past full (those into_third xs)) (past taken (those into_second ys)) (past full (those into_third ys))
    (past_same taken (those into_second xs) (those into_second ys) s) (past_same full (those into_third xs) (those into_third ys) t)))))))

pub past_rest_same : (b : Option Block) (xs ys : List (List Branch)) → HaveSame xs ys → HaveSame (past_rest b xs) (past_rest b ys)
past_rest_same None xs ys h = h
past_rest_same (Some b) xs ys h = past_same b xs ys h

pub alive_rest_same : (b : Option Block) (xs ys : List (List Branch)) → HaveSame xs ys → alive_rest b xs ≡ alive_rest b ys
alive_rest_same None xs ys h = refl
alive_rest_same (Some b) xs ys h = alive_same b xs ys h
