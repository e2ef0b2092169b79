-- Loops along lists, one item further.
use Rattle.std.proofs.Common.{◌≡◌, ℕ, suc, zero, ◌+◌, ◌<◌, ◌≤◌, Bool, true, false, ◌&&◌, cond, List, [], ◌∷◌, ◌++◌, length, get_or, map, take, drop, Option, Some, None, option_to_list, refl, sym, ap, ◌∙◌, arith, append_assoc, add-one}
use Rattle.std.specs.List.{flat_map, list_all, filter_map, cons_option, range_with_len}
use Rattle.std.proofs.lemmas.List.{append-nil, map-append, length-map, take_all, take_more, drop_more, get_or_default, length-take-le}
use Rattle.std.proofs.lemmas.List.Concat.{flat_map-append}
use Rattle.std.proofs.lemmas.List.Elements.{filter_map-append}
use Rattle.std.proofs.lemmas.List.Folds.{list_all-append}
use Rattle.std.proofs.lemmas.List.FromFn.{get_or-map-range_with_len, length-map-range_with_len}
use Rattle.nf_base.specs.declared.packet.Field.{Field}
use Rattle.nf_sites.specs.Named.{Named, numbered, lesser, least}
use Rattle.access_keys.specs.declared.named.NamedField.{NamedField}
use Rattle.access_keys.specs.Speaking.{named_seen}
use Rattle.access_keys.proofs.Putting.{taken_more, numbered-append}

and_true : (a b : Bool) → a ≡ true → b ≡ true → a && b ≡ true
and_true a b e d = ap (λ x. x && b) e ∙ d

-- each of the items so far passes
pub all_more :
    {A B : Type 0} (t : B → Bool) (v : A → B) (xs : List A) (i : ℕ) (x : A) → i < length xs → x ≡ get_or xs i x →
    list_all t (map v (take i xs)) ≡ true → t (v x) ≡ true → list_all t (map v (take (i + 1) xs)) ≡ true
all_more t v xs i x l e p q =
    ap (λ r. list_all t (map v r)) (taken_more xs i x l e) ∙ ap (list_all t) (map-append v (take i xs) (x ∷ []))
    ∙ list_all-append t (map v (take i xs)) (v x ∷ [])
    ∙ and_true (list_all t (map v (take i xs))) (t (v x) && true) p (and_true (t (v x)) true q refl)

and_false : (a : Bool) → a && false ≡ false
and_false true = refl
and_false false = refl

-- one does not pass
pub all_false :
    {A B : Type 0} (t : B → Bool) (v : A → B) (xs : List A) (i : ℕ) (x : A) → i < length xs → x ≡ get_or xs i x →
    t (v x) ≡ false → list_all t (map v xs) ≡ false
all_false t v [] i x l e f = absurd (omega arith)
all_false t v (y ∷ ys) zero x l e f =
    ap (λ b. b && list_all t (map v ys)) (ap (λ z. t (v z)) (sym e) ∙ f)
all_false t v (y ∷ ys) (suc i) x l e f =
    ap (λ r. t (v y) && r) (all_false t v ys i x (omega arith) e f) ∙ and_false (t (v y))

-- what the items so far come to, behind others
pub flat_more :
    {A B C : Type 0} (a b c : List C) (f : B → List C) (v : A → B) (xs : List A) (i : ℕ) (x : A) → i < length xs → x ≡ get_or xs i x →
    b ≡ a ++ flat_map f (map v (take i xs)) → c ≡ b ++ f (v x) → c ≡ a ++ flat_map f (map v (take (i + 1) xs))
flat_more a b c f v xs i x l e p q =
    let more : flat_map f (map v (take (i + 1) xs)) ≡ flat_map f (map v (take i xs)) ++ f (v x) =
    ap (λ r. flat_map f (map v r)) (taken_more xs i x l e) ∙ ap (flat_map f) (map-append v (take i xs) (x ∷ []))
    ∙ flat_map-append f (map v (take i xs)) (v x ∷ []) ∙ ap (λ r. flat_map f (map v (take i xs)) ++ r) (append-nil (f (v x))) in
    q ∙ ap (λ r. r ++ f (v x)) p ∙ append_assoc a (flat_map f (map v (take i xs))) (f (v x)) ∙ ap (λ r. a ++ r) (sym more)

pub flat_all :
    {A B C : Type 0} (a b : List C) (f : B → List C) (v : A → B) (xs : List A) (i : ℕ) → length xs ≤ i →
    b ≡ a ++ flat_map f (map v (take i xs)) → b ≡ a ++ flat_map f (map v xs)
flat_all a b f v xs i l p = p ∙ ap (λ r. a ++ flat_map f (map v r)) (take_all i xs l)

-- items as they are seen, one more
pub seen_more :
    {A B C : Type 0} (u : C → B) (v : A → B) (cs ds : List C) (d : C) (xs : List A) (i : ℕ) (x : A) → i < length xs → x ≡ get_or xs i x →
    map u cs ≡ map v (take i xs) → ds ≡ cs ++ d ∷ [] → u d ≡ v x → map u ds ≡ map v (take (i + 1) xs)
seen_more u v cs ds d xs i x l e p q s =
    ap (map u) q ∙ map-append u cs (d ∷ []) ∙ ap (λ r. r ++ u d ∷ []) p ∙ ap (λ y. map v (take i xs) ++ y ∷ []) s
    ∙ sym (ap (map v) (taken_more xs i x l e) ∙ map-append v (take i xs) (x ∷ []))

one_option : {A : Type 0} (o : Option A) → option_to_list o ≡ option_to_list o ++ []
one_option o = sym (append-nil (option_to_list o))

kept_one : {A B : Type 0} (h : A → Option B) (x : A) → filter_map h (x ∷ []) ≡ option_to_list (h x)
kept_one h x = elim (h x) as (λ o. cons_option o [] ≡ option_to_list o) [ None ↦ refl | Some y ↦ refl ]

-- what a filter keeps of the items so far
pub kept_more :
    {A B C : Type 0} (h : B → Option C) (v : A → B) (cs ds : List C) (xs : List A) (i : ℕ) (x : A) → i < length xs → x ≡ get_or xs i x →
    cs ≡ filter_map h (map v (take i xs)) → ds ≡ cs ++ option_to_list (h (v x)) → ds ≡ filter_map h (map v (take (i + 1) xs))
kept_more h v cs ds xs i x l e p q =
    q ∙ ap (λ r. r ++ option_to_list (h (v x))) p ∙ ap (λ r. filter_map h (map v (take i xs)) ++ r) (sym (kept_one h (v x)))
    ∙ sym (filter_map-append h (map v (take i xs)) (v x ∷ []))
    ∙ ap (filter_map h) (sym (ap (map v) (taken_more xs i x l e) ∙ map-append v (take i xs) (x ∷ [])))

-- the same, of an item that is copied
pub kept_at :
    {A B C : Type 0} (h : B → Option C) (v : A → B) (cs ds : List C) (xs : List A) (i : ℕ) (d : A) → i < length xs →
    cs ≡ filter_map h (map v (take i xs)) → ds ≡ cs ++ option_to_list (h (v (get_or xs i d))) → ds ≡ filter_map h (map v (take (i + 1) xs))
kept_at h v cs ds xs i d l p q =
    kept_more h v cs ds xs i (get_or xs i d) l (get_or_default xs i d (get_or xs i d) l) p q

-- one label by number more
pub numbered_more :
    (first : ℕ) (fields : List (Option Field)) (i n : ℕ) (d : Option Field) (all new : List NamedField) → i < length fields → n ≡ i →
    map named_seen all ≡ numbered first (take i fields) → new ≡ all ++ record { label = first + n; field = get_or fields i d } ∷ [] →
    map named_seen new ≡ numbered first (take (i + 1) fields)
numbered_more first fields i n d all new l e p q =
    let last : NamedField = record { label = first + n; field = get_or fields i d } in
    let here : first + n ≡ first + length (take i fields) = ap (λ m. first + m) (e ∙ sym (length-take-le i fields (omega arith))) in
    ap (map named_seen) q ∙ map-append named_seen all (last ∷ []) ∙ ap (λ r. r ++ named_seen last ∷ []) p
    ∙ ap (λ m. let x : Named (Option Field) = record { label = m; given = get_or fields i d } in numbered first (take i fields) ++ x ∷ []) here
    ∙ sym (ap (numbered first) (take_more fields i d l) ∙ numbered-append first (take i fields) (get_or fields i d))

-- the least of one more of those behind
pub least_more :
    {A B : Type 0} (t : ℕ → Bool) (v : B → Named A) (xs : List B) (i : ℕ) (x : B) → i < length xs → x ≡ get_or xs i x →
    least t (map v (drop i xs))
    ≡ (cond (t (v x).label) (lesser (v x) (least t (map v (drop (i + 1) xs)))) (least t (map v (drop (i + 1) xs))))
least_more t v xs i x l e =
    ap (λ r. least t (map v r)) (drop_more xs i x l ∙ ap (λ y. y ∷ drop (i + 1) xs) (sym e))

pub range-more : (a n : ℕ) → range_with_len a (n + 1) ≡ range_with_len a n ++ (a + n) ∷ []
range-more a zero = let same : a ≡ a + 0 = omega arith in ap (λ m. m ∷ []) same
range-more a (suc n) =
    let less : n + 1 ≡ suc n = omega arith in
    let last : (a + 1) + n ≡ a + suc n = omega arith in
    rw (add-one (suc n))
    (ap (λ r. a ∷ r)
    (ap (range_with_len (a + 1)) (sym less) ∙ range-more (a + 1) n ∙ ap (λ m. range_with_len (a + 1) n ++ m ∷ []) last))

-- what the numbers so far come to
pub ports_more :
    {A B : Type 0} (f : ℕ → List A) (v : A → B) (n : ℕ) (bs cs : List B) → bs ≡ map v (flat_map f (range_with_len 0 n)) →
    cs ≡ bs ++ map v (f n) → cs ≡ map v (flat_map f (range_with_len 0 (n + 1)))
ports_more f v n bs cs p q =
    q ∙ ap (λ r. r ++ map v (f n)) p ∙ sym (map-append v (flat_map f (range_with_len 0 n)) (f n))
    ∙ ap (map v)
    (ap (λ r. flat_map f (range_with_len 0 n) ++ r) (sym (append-nil (f n))) ∙ ap (λ m. flat_map f (range_with_len 0 n) ++ (f m ++ [])) (omega arith)
    ∙ sym (ap (flat_map f) (range-more 0 n) ∙ flat_map-append f (range_with_len 0 n) ((0 + n) ∷ [])))

pub flat_flat : {A B C : Type 0} (g : B → List C) (h : A → List B) (xs : List A) → flat_map g (flat_map h xs) ≡ flat_map (λ x. flat_map g (h x)) xs
flat_flat g h [] = refl
flat_flat g h (x ∷ xs) = flat_map-append g (h x) (flat_map h xs) ∙ ap (λ r. flat_map g (h x) ++ r) (flat_flat g h xs)

pub get_or-map : {A B : Type 0} (v : A → B) (xs : List A) (i : ℕ) (d : A) → get_or (map v xs) i (v d) ≡ v (get_or xs i d)
get_or-map v [] i d = refl
get_or-map v (x ∷ xs) zero d = refl
get_or-map v (x ∷ xs) (suc i) d = get_or-map v xs i d

-- an item of a list that is a function's values
pub item_is :
    {A B : Type 0} (v : A → B) (f : ℕ → B) (n : ℕ) (xs : List A) (i : ℕ) (x : A) → map v xs ≡ map f (range_with_len 0 n) → i < n →
    x ≡ get_or xs i x → v x ≡ f i
item_is v f n xs i x e l d =
    ap v d ∙ sym (get_or-map v xs i x) ∙ ap (λ r. get_or r i (v x)) e ∙ get_or-map-range_with_len f 0 n i i (v x) l (omega arith)

-- and there are as many
pub items_are :
    {A B : Type 0} (v : A → B) (f : ℕ → B) (n : ℕ) (xs : List A) → map v xs ≡ map f (range_with_len 0 n) → length xs ≡ n
items_are v f n xs e =
    sym (length-map xs v) ∙ ap length e ∙ length-map-range_with_len f 0 n
