-- What items give, gathered: what is told of each is told of all.
use Rattle.std.proofs.Common.{◌≡◌, ◌≢◌, ℕ, zero, suc, ◌+◌, List, [], ◌∷◌, ◌++◌, length, map, set, Option, Some, None, refl, sym, ap, ◌∙◌, subst, append_assoc, arith}
use Rattle.std.specs.List.{AllByRecursion, slice_get}
use Rattle.packet_feed.specs.Told.{Carries, both, gathered}

-- ---- what is told stays so

pub carries_same : {A : Type 0} (x : Option A) → Carries x x
carries_same None = tt
carries_same (Some x) = refl

pub carries_on : {A : Type 0} (x y z : Option A) → Carries x y → Carries y z → Carries x z
carries_on None y z p q = tt
carries_on (Some x) None z p q = absurd p
carries_on (Some x) (Some y) None p q = absurd q
carries_on (Some x) (Some y) (Some z) p q = q ∙ p

pub carries_is : {A : Type 0} (x y : Option A) → y ≡ x → Carries x y
carries_is x y e = subst (Carries x) (sym e) (carries_same x)

both_carries : {A : Type 0} (u v x y : Option (List A)) → Carries u x → Carries v y → Carries (both u v) (both x y)
both_carries None v x y p q = tt
both_carries (Some u) None x y p q = tt
both_carries (Some u) (Some v) None y p q = absurd p
both_carries (Some u) (Some v) (Some x) None p q = absurd q
both_carries (Some u) (Some v) (Some x) (Some y) p q = ap (λ (t : List _). t ++ y) p ∙ ap (λ (t : List _). u ++ t) q

moved : (place j : ℕ) → place + suc j ≡ (place + 1) + j
moved place j = omega arith

carries_from : {X Y A : Type 0} (f : ℕ → X → Option (List A)) (g : ℕ → Y → Option (List A)) (place : ℕ) (xs : List X) (ys : List Y) → length xs ≡ length ys
    → ((j : ℕ) (x : X) (y : Y) → slice_get xs j ≡ Some x → slice_get ys j ≡ Some y → Carries (f (place + j) x) (g (place + j) y))
    → Carries (gathered f place xs) (gathered g place ys)
carries_from f g place [] [] e h = refl
carries_from f g place [] (y ∷ ys) e h = absurd (omega arith)
carries_from f g place (x ∷ xs) [] e h = absurd (omega arith)
carries_from {X = X} {Y = Y} f g place (x ∷ xs) (y ∷ ys) e h =
    let here : place + 0 ≡ place = omega arith in
    both_carries (f place x) (gathered f (place + 1) xs) (g place y) (gathered g (place + 1) ys)
    (subst (λ (n : ℕ). Carries (f n x) (g n y)) here (h 0 x y refl refl))
    (carries_from f g (place + 1) xs ys (omega arith) (λ (j : ℕ) (u : X) (v : Y) p q. subst (λ (n : ℕ). Carries (f n u) (g n v)) (moved place j) (h (suc j) u v p q)))

pub gathered_carries : {X Y A : Type 0} (f : ℕ → X → Option (List A)) (g : ℕ → Y → Option (List A)) (xs : List X) (ys : List Y) → length xs ≡ length ys
    → ((j : ℕ) (x : X) (y : Y) → slice_get xs j ≡ Some x → slice_get ys j ≡ Some y → Carries (f j x) (g j y))
    → Carries (gathered f 0 xs) (gathered g 0 ys)
gathered_carries {X = X} {Y = Y} f g xs ys e h = carries_from f g 0 xs ys e (λ (j : ℕ) (x : X) (y : Y) p q. let same : j ≡ 0 + j = omega arith in subst (λ (n : ℕ). Carries (f n x) (g n y)) same (h j x y p q))

-- ---- nothing is given

none_from : {X A : Type 0} (f : ℕ → X → Option (List A)) (place : ℕ) (xs : List X) → ((j : ℕ) (x : X) → slice_get xs j ≡ Some x → f (place + j) x ≡ Some []) → gathered f place xs ≡ Some []
none_from f place [] h = refl
none_from {X = X} {A = A} f place (x ∷ xs) h =
    let here : place + 0 ≡ place = omega arith in
    let one : f place x ≡ Some [] = subst (λ (n : ℕ). f n x ≡ Some []) here (h 0 x refl) in
    let others : gathered f (place + 1) xs ≡ Some [] = none_from f (place + 1) xs (λ (j : ℕ) (u : X) p. subst (λ (n : ℕ). f n u ≡ Some []) (moved place j) (h (suc j) u p)) in
    ap (λ (t : Option (List A)). both t (gathered f (place + 1) xs)) one ∙ ap (λ (t : Option (List A)). both (Some []) t) others

pub gathered_none : {X A : Type 0} (f : ℕ → X → Option (List A)) (xs : List X) → ((j : ℕ) (x : X) → slice_get xs j ≡ Some x → f j x ≡ Some []) → gathered f 0 xs ≡ Some []
gathered_none {X = X} f xs h = none_from f 0 xs (λ (j : ℕ) (x : X) p. let same : j ≡ 0 + j = omega arith in subst (λ (n : ℕ). f n x ≡ Some []) same (h j x p))

-- ---- one is picked out of all

abbrev pub AllIn : {A : Type 0} → (A → Type 0) → Option (List A) → Type 0
AllIn P None = Unit {0}
AllIn P (Some xs) = AllByRecursion P xs

-- the first of a list, of which all others are so
abbrev pub IsHeadOf : {A : Type 0} → (A → Type 0) → A → Option (List A) → Option (List A) → Type 0
IsHeadOf P a (Some xs) (Some ys) = (xs ≡ a ∷ ys) × AllByRecursion P ys
IsHeadOf P a None None = Unit {0}
IsHeadOf P a (Some xs) None = ⊥
IsHeadOf P a None (Some ys) = ⊥

-- one of a list, of which all others are so, and the list without it
pub record IsPicked {A : Type 0} (P : A → Type 0) (a : A) (xs ys : List A) : Type 0 where
  pub pre : List A
  pub post : List A
  pub is : xs ≡ pre ++ (a ∷ post)
  pub left : ys ≡ pre ++ post
  pub before : AllByRecursion P pre
  pub after : AllByRecursion P post

abbrev pub Picks : {A : Type 0} → (A → Type 0) → A → Option (List A) → Option (List A) → Type 0
Picks P a (Some xs) (Some ys) = IsPicked P a xs ys
Picks P a None None = Unit {0}
Picks P a (Some xs) None = ⊥
Picks P a None (Some ys) = ⊥

all_behind : {A : Type 0} (P : A → Type 0) (xs ys : List A) → AllByRecursion P xs → AllByRecursion P ys → AllByRecursion P (xs ++ ys)
all_behind P [] ys h k = k
all_behind P (x ∷ xs) ys h k = (h.0, all_behind P xs ys h.1 k)

both_all : {A : Type 0} (P : A → Type 0) (u v : Option (List A)) → AllIn P u → AllIn P v → AllIn P (both u v)
both_all P None v h k = tt
both_all P (Some u) None h k = tt
both_all P (Some u) (Some v) h k = all_behind P u v h k

all_from : {X A : Type 0} (P : A → Type 0) (f : ℕ → X → Option (List A)) (place : ℕ) (xs : List X) → ((j : ℕ) (x : X) → slice_get xs j ≡ Some x → AllIn P (f (place + j) x)) → AllIn P (gathered f place xs)
all_from P f place [] h = tt
all_from {X = X} P f place (x ∷ xs) h =
    let here : place + 0 ≡ place = omega arith in
    both_all P (f place x) (gathered f (place + 1) xs) (subst (λ (n : ℕ). AllIn P (f n x)) here (h 0 x refl))
    (all_from P f (place + 1) xs (λ (j : ℕ) (u : X) p. subst (λ (n : ℕ). AllIn P (f n u)) (moved place j) (h (suc j) u p)))

pick_here : {A : Type 0} (P : A → Type 0) (a : A) (u v w : Option (List A)) → IsHeadOf P a u v → AllIn P w → Picks P a (both u w) (both v w)
pick_here P a None None w h k = tt
pick_here P a None (Some v) w h k = absurd h
pick_here P a (Some u) None w h k = absurd h
pick_here P a (Some u) (Some v) None h k = tt
pick_here P a (Some u) (Some v) (Some w) h k = record {
  pre = [];
  post = v ++ w;
  is = ap (λ (t : List _). t ++ w) h.0;
  left = refl;
  before = tt;
  after = all_behind P v w h.1 k;
}

pick_later : {A : Type 0} (P : A → Type 0) (a : A) (u v w : Option (List A)) → AllIn P u → Picks P a v w → Picks P a (both u v) (both u w)
pick_later P a None v w h k = tt
pick_later P a (Some u) None None h k = tt
pick_later P a (Some u) None (Some w) h k = absurd k
pick_later P a (Some u) (Some v) None h k = absurd k
pick_later P a (Some u) (Some v) (Some w) h k = record {
  pre = u ++ k.pre;
  post = k.post;
  is = ap (λ (t : List _). u ++ t) k.is ∙ sym (append_assoc u k.pre (a ∷ k.post));
  left = ap (λ (t : List _). u ++ t) k.left ∙ sym (append_assoc u k.pre k.post);
  before = all_behind P u k.pre h k.before;
  after = k.after;
}

one_is : {X : Type 0} (x y : X) → Some x ≡ Some y → y ≡ x
one_is x y e = cc

pick_from : {X A : Type 0} (P : A → Type 0) (a : A) (f : ℕ → X → Option (List A)) (place k : ℕ) (xs : List X) (x y : X) → slice_get xs k ≡ Some x
    → IsHeadOf P a (f (place + k) x) (f (place + k) y) → ((j : ℕ) (z : X) → slice_get xs j ≡ Some z → j ≢ k → AllIn P (f (place + j) z))
    → Picks P a (gathered f place xs) (gathered f place (set xs k y))
pick_from P a f place k [] x y e h others = absurd cc
pick_from {X = X} P a f place zero (z ∷ xs) x y e h others =
    let here : place + 0 ≡ place = omega arith in
    let first : IsHeadOf P a (f place x) (f place y) = subst (λ (n : ℕ). IsHeadOf P a (f n x) (f n y)) here h in
    pick_here P a (f place z) (f place y) (gathered f (place + 1) xs) (subst (λ (t : X). IsHeadOf P a (f place t) (f place y)) (one_is z x e) first)
    (all_from P f (place + 1) xs (λ (j : ℕ) (u : X) p. subst (λ (n : ℕ). AllIn P (f n u)) (moved place j) (others (suc j) u p (λ e. absurd (omega arith)))))
pick_from {X = X} P a f place (suc k) (z ∷ xs) x y e h others =
    let here : place + 0 ≡ place = omega arith in
    pick_later P a (f place z) (gathered f (place + 1) xs) (gathered f (place + 1) (set xs k y))
    (subst (λ (n : ℕ). AllIn P (f n z)) here (others 0 z refl (λ e. absurd (omega arith))))
    (pick_from P a f (place + 1) k xs x y e
    (subst (λ (n : ℕ). IsHeadOf P a (f n x) (f n y)) (moved place k) h)
    (λ (j : ℕ) (u : X) p ne. subst (λ (n : ℕ). AllIn P (f n u)) (moved place j) (others (suc j) u p (λ e. ne (omega arith)))))

pub gathered_picks : {X A : Type 0} (P : A → Type 0) (a : A) (f : ℕ → X → Option (List A)) (k : ℕ) (xs : List X) (x y : X) → slice_get xs k ≡ Some x
    → IsHeadOf P a (f k x) (f k y) → ((j : ℕ) (z : X) → slice_get xs j ≡ Some z → j ≢ k → AllIn P (f j z))
    → Picks P a (gathered f 0 xs) (gathered f 0 (set xs k y))
gathered_picks {X = X} P a f k xs x y e h others =
    let at : (j : ℕ) → j ≡ 0 + j = λ j. omega arith in
    pick_from P a f 0 k xs x y e (subst (λ (n : ℕ). IsHeadOf P a (f n x) (f n y)) (at k) h) (λ (j : ℕ) (z : X) p ne. subst (λ (n : ℕ). AllIn P (f n z)) (at j) (others j z p ne))

-- ---- lists of which one item changes

pub map_kept : {X Y : Type 0} (f : X → Y) (xs : List X) (k : ℕ) (x y : X) → slice_get xs k ≡ Some x → f y ≡ f x → map f (set xs k y) ≡ map f xs
map_kept f [] k x y e h = refl
map_kept {Y = Y} f (z ∷ xs) zero x y e h = ap (λ (t : Y). t ∷ map f xs) (h ∙ ap f (one_is z x e))
map_kept {Y = Y} f (z ∷ xs) (suc k) x y e h = ap (λ (t : List Y). f z ∷ t) (map_kept f xs k x y e h)

pub gathered_all : {X A : Type 0} (P : A → Type 0) (f : ℕ → X → Option (List A)) (xs : List X) → ((j : ℕ) (x : X) → slice_get xs j ≡ Some x → AllIn P (f j x)) → AllIn P (gathered f 0 xs)
gathered_all {X = X} P f xs h = all_from P f 0 xs (λ (j : ℕ) (x : X) p. let same : j ≡ 0 + j = omega arith in subst (λ (n : ℕ). AllIn P (f n x)) same (h j x p))
