-- Labels that are given values.
use Rattle.std.proofs.Common.{◌≡◌, ℕ, zero, suc, Bool, true, false, ◌==◌, nat_lt, eqb-true, List, [], ◌∷◌, length, map, take, drop, Option, Some, None, slice_get, if◌then◌else◌, refl, ap, ap₂, sym, ◌∙◌, subst, ◌⊎◌, inl, inr}
use Rattle.std.specs.Option.{option_map}
use Rattle.std.proofs.lemmas.Option.{same_Some}
use Rattle.std.proofs.lemmas.Bool.{and_parts}
use Rattle.std.proofs.lemmas.List.{take-map, drop-map}
use Rattle.nf_base.specs.declared.state.Entry.{Entry}
use Rattle.nf_base.specs.declared.decl.MapDecl.{MapDecl}
use Rattle.nf_base.specs.Text.{Given, Guard}
use Rattle.nf_base.specs.Chains.{key_in}
use Rattle.nf_base.specs.Context.{Context, Input, given, or_zero, is_given, has_labels}
use Rattle.nf_sites.specs.Named.{Named, named_as, numbered, lesser, least, or_else, speaker}
use Rattle.nf_sites.specs.Sites.{guarded}
use Rattle.nf_sites.specs.Covers.{AllGiven, label_value}

pub map_numbered : {A B : Type 0} (f : A → B) (n : ℕ) (xs : List A) → map (named_as f) (numbered n xs) ≡ numbered n (map f xs)
map_numbered f n [] = refl
map_numbered f n (x ∷ xs) = ap (λ ys. record { label = n; given = f x } ∷ ys) (map_numbered f (suc n) xs)

pub drop_at : {A : Type 0} (n : ℕ) (xs ys : List A) (y : A) → drop n xs ≡ y ∷ ys → (slice_get xs n ≡ Some y) × (drop (suc n) xs ≡ ys)
drop_at zero [] ys y e = cc
drop_at zero (x ∷ xs) ys y e = (cc, cc)
drop_at (suc n) [] ys y e = cc
drop_at (suc n) (x ∷ xs) ys y e = drop_at n xs ys y e

-- values that begin the rest of some labels
given_rest : (p : Input) (c : Context) (key : List Given) (n parts : ℕ) (labels rest : List ℕ) → drop n labels ≡ rest → take parts rest ≡ map (given p c) key → AllGiven p c (label_value labels) (numbered n key)
given_rest p c [] n parts labels rest d e = tt
given_rest p c (g ∷ gs) n zero labels rest d e = cc
given_rest p c (g ∷ gs) n (suc parts) labels [] d e = cc
given_rest p c (g ∷ gs) n (suc parts) labels (y ∷ rest) d e =
    let a = drop_at n labels rest y d in
    let same : y ≡ given p c g = cc in
    let more : take parts rest ≡ map (given p c) gs = cc in
    (sym (ap or_zero a.0 ∙ same), given_rest p c gs (suc n) parts labels rest a.1 more)

pub given_key : (p : Input) (c : Context) (key : List Given) (decl : MapDecl) (labels : List ℕ) → key_in decl labels ≡ map (given p c) key → AllGiven p c (label_value labels) (numbered decl.first key)
given_key p c key decl labels e = given_rest p c key decl.first decl.parts labels (drop decl.first labels) refl e

take_all : (xs : List ℕ) → take (length xs) xs ≡ xs
take_all [] = refl
take_all (x ∷ xs) = ap (λ ys. x ∷ ys) (take_all xs)

pub given_labels : (p : Input) (c : Context) (gs : List Given) (labels : List ℕ) → labels ≡ map (given p c) gs → AllGiven p c (label_value labels) (numbered 0 gs)
given_labels p c gs labels e = given_rest p c gs 0 (length labels) labels labels refl (take_all labels ∙ e)

is_value : (v : ℕ) (o : Option ℕ) → is_given v o ≡ true → v ≡ or_zero o
is_value v None e = cc
is_value v (Some w) e = sym (eqb-true w v e)

pub given_guards : (p : Input) (c : Context) (gs : List Guard) (entry : Entry) → has_labels p c gs entry ≡ true → AllGiven p c (label_value entry.labels) (guarded gs)
given_guards p c [] entry e = tt
given_guards p c (g ∷ gs) entry e =
    let both = and_parts _ _ e in
    (is_value (given p c g.given) (slice_get entry.labels g.label) both.0, given_guards p c gs entry both.1)

pub key_given : (p : Input) (c : Context) (decl : MapDecl) (gs : List Given) → map (named_as (given p c)) (numbered decl.first (take decl.parts (drop decl.first gs))) ≡ numbered decl.first (key_in decl (map (given p c) gs))
key_given p c decl gs =
    map_numbered (given p c) decl.first (take decl.parts (drop decl.first gs))
    ∙ ap (numbered decl.first) (sym (ap (take decl.parts) (drop-map (given p c) decl.first gs) ∙ take-map (given p c) decl.parts (drop decl.first gs)))

-- what speaks for a label
lesser_one : {A : Type 0} (x y : Named A) (o : Option (Named A)) (P : Named A → Type 0) → lesser x o ≡ Some y → P x → ((z : Named A) → o ≡ Some z → P z) → P y
lesser_one x y None P e a b = subst P (same_Some _ _ e) a
lesser_one x y (Some z) P e a b = pick (nat_lt z.label x.label) e
  where
    pick : (t : Bool) → (if t then Some z else Some x) ≡ Some y → P y
    pick true e = b y e
    pick false e = subst P (same_Some _ _ e) a

least_given : (p : Input) (c : Context) (value : ℕ → ℕ) (test : ℕ → Bool) (xs : List (Named Given)) (y : Named Given) → AllGiven p c value xs → least test xs ≡ Some y → (given p c y.given ≡ value y.label) × (test y.label ≡ true)
least_given p c value test [] y a e = cc
least_given p c value test (x ∷ xs) y a e = by_test (test x.label) refl (λ z q. least_given p c value test xs z a.1 q) e
  where
    by_test : (b : Bool) → test x.label ≡ b → ((z : Named Given) → least test xs ≡ Some z → (given p c z.given ≡ value z.label) × (test z.label ≡ true)) → (if b then lesser x (least test xs) else least test xs) ≡ Some y → (given p c y.given ≡ value y.label) × (test y.label ≡ true)
    by_test true t r e = lesser_one x y (least test xs) (λ z. (given p c z.given ≡ value z.label) × (test z.label ≡ true)) e (a.0, t) r
    by_test false t r e = r y e

pub speaker_given : (p : Input) (c : Context) (value : ℕ → ℕ) (t : ℕ → Bool) (l : ℕ) (xs : List (Named Given)) (y : Named Given) → AllGiven p c value xs → speaker t l xs ≡ Some y → (given p c y.given ≡ value y.label) × ((y.label ≡ l) ⊎ (t y.label ≡ true))
speaker_given p c value t l xs y a e = either (least (λ r. r == l) xs) refl e
  where
    either : (o : Option (Named Given)) → least (λ r. r == l) xs ≡ o → or_else o (least t xs) ≡ Some y → (given p c y.given ≡ value y.label) × ((y.label ≡ l) ⊎ (t y.label ≡ true))
    either None q e = let w = least_given p c value t xs y a e in (w.0, inr w.1)
    either (Some z) q e = let w = least_given p c value (λ r. r == l) xs y a (q ∙ e) in (w.0, inl (eqb-true y.label l w.1))

-- the same speaks in a list of values
map_lesser : {A B : Type 0} (f : A → B) (x : Named A) (o : Option (Named A)) → lesser (named_as f x) (option_map (named_as f) o) ≡ option_map (named_as f) (lesser x o)
map_lesser f x None = refl
map_lesser f x (Some y) = at_if (nat_lt y.label x.label)
  where
    at_if : (b : Bool) → (if b then Some (named_as f y) else Some (named_as f x)) ≡ option_map (named_as f) (if b then Some y else Some x)
    at_if true = refl
    at_if false = refl

map_least : {A B : Type 0} (f : A → B) (test : ℕ → Bool) (xs : List (Named A)) → least test (map (named_as f) xs) ≡ option_map (named_as f) (least test xs)
map_least f test [] = refl
map_least f test (x ∷ xs) = at_if (test x.label) (map_least f test xs)
  where
    at_if : (b : Bool) → least test (map (named_as f) xs) ≡ option_map (named_as f) (least test xs) → (if b then lesser (named_as f x) (least test (map (named_as f) xs)) else least test (map (named_as f) xs)) ≡ option_map (named_as f) (if b then lesser x (least test xs) else least test xs)
    at_if true r = ap (lesser (named_as f x)) r ∙ map_lesser f x (least test xs)
    at_if false r = r

map_or_else : {A B : Type 0} (f : A → B) (a b : Option A) → or_else (option_map f a) (option_map f b) ≡ option_map f (or_else a b)
map_or_else f None b = refl
map_or_else f (Some x) b = refl

pub map_speaker : {A B : Type 0} (f : A → B) (t : ℕ → Bool) (l : ℕ) (xs : List (Named A)) → speaker t l (map (named_as f) xs) ≡ option_map (named_as f) (speaker t l xs)
map_speaker f t l xs = ap₂ or_else (map_least f (λ r. r == l) xs) (map_least f t xs) ∙ map_or_else (named_as f) (least (λ r. r == l) xs) (least t xs)
