-- The places of an order's packets, as there are more.
use Rattle.std.proofs.Common.{◌≡◌, ◌≢◌, ⊎_elim, ℕ, zero, suc, ◌+◌, ◌<◌, ◌≤◌, ◌==◌, Bool, true, false, List, [], ◌∷◌, ◌++◌, length, filter, cond, take, drop, set, get_or, replicate, All, Some, slice_get, slice_index_or, if◌then◌else◌, refl, ap, sym, ◌∙◌, subst, arith, append-nil, length-append, length-set, get_or-set_same, get_or-set_other, eq-eqb, ne_eqb, take_all}
use Rattle.std.proofs.lemmas.Bool.{cases_eq}
use Rattle.std.proofs.lemmas.List.{take_more, get_or-replicate, length-replicate, length-take, take-append-drop}
use Rattle.std.proofs.lemmas.List.Elements.{filter-append}
use Rattle.std.proofs.lemmas.Option.{slice_get_within, slice_get_read, get_or_from_slice_get}
use Rattle.lock_core.specs.declared.call.Ordered.{Ordered}
use Rattle.lock_workers.specs.RunResult.{places_by, count_by}

-- a place in front of others, where it is the worker's
abbrev own_if : Bool → ℕ → List ℕ → List ℕ
own_if own place rest = if own then place ∷ rest else rest

front_more : (own : Bool) (place : ℕ) (rest more : List ℕ) → own_if own place (rest ++ more) ≡ own_if own place rest ++ more
front_more true place rest more = refl
front_more false place rest more = refl

by_more : (w : ℕ) (xs : List Ordered) (places : List ℕ) (x : Ordered) (place : ℕ) → length places ≡ length xs → places_by w (xs ++ x ∷ []) (places ++ place ∷ []) ≡ places_by w xs places ++ own_if (x.seat == w) place []
by_more w [] [] x place e = refl
by_more w [] (q ∷ qs) x place e = absurd (omega (arith, e))
by_more w (y ∷ ys) [] x place e = absurd (omega (arith, e))
by_more w (y ∷ ys) (q ∷ qs) x place e =
    ap (own_if (y.seat == w) q) (by_more w ys qs x place (omega (arith, e)))
    ∙ front_more (y.seat == w) q (places_by w ys qs) (own_if (x.seat == w) place [])

count_case : (own : Bool) (w : ℕ) (xs : List Ordered) (x : Ordered) → length (filter (λ (y : Ordered). y.seat == w) xs ++ cond own (x ∷ []) []) ≡ (cond own (count_by w xs + 1) (count_by w xs))
count_case true w xs x = length-append (filter (λ (y : Ordered). y.seat == w) xs) (x ∷ [])
count_case false w xs x = ap length (append-nil (filter (λ (y : Ordered). y.seat == w) xs))

count_more : (w : ℕ) (xs : List Ordered) (x : Ordered) → count_by w (xs ++ x ∷ []) ≡ cond (x.seat == w) (count_by w xs + 1) (count_by w xs)
count_more w xs x = ap length (filter-append (λ (y : Ordered). y.seat == w) xs (x ∷ [])) ∙ count_case (x.seat == w) w xs x

count_here : (w : ℕ) (xs : List Ordered) (x : Ordered) → x.seat ≡ w → count_by w (xs ++ x ∷ []) ≡ count_by w xs + 1
count_here w xs x is = count_more w xs x ∙ ap (λ (own : Bool). cond own (count_by w xs + 1) (count_by w xs)) (eq-eqb x.seat w is)

count_else : (w : ℕ) (xs : List Ordered) (x : Ordered) → x.seat ≢ w → count_by w (xs ++ x ∷ []) ≡ count_by w xs
count_else w xs x ne = count_more w xs x ∙ ap (λ (own : Bool). cond own (count_by w xs + 1) (count_by w xs)) (ne_eqb x.seat w ne)

count_all : (w : ℕ) (xs ys : List Ordered) → count_by w xs ≤ count_by w (xs ++ ys)
count_all w xs ys =
    let e = ap length (filter-append (λ (y : Ordered). y.seat == w) xs ys) ∙ length-append (filter (λ (y : Ordered). y.seat == w) xs) (filter (λ (y : Ordered). y.seat == w) ys) in
    omega (arith, e)

-- so many of the first are no more than there are
count_first : (w i : ℕ) (order : List Ordered) → count_by w (take i order) ≤ count_by w order
count_first w i order = subst (λ (z : List Ordered). count_by w (take i order) ≤ count_by w z) (take-append-drop i order) (count_all w (take i order) (drop i order))

-- the first packets of an order have these places: of each worker's, as many as were counted
pub record ArePlaced (own : List (List ℕ)) (order : List Ordered) (i : ℕ) (taken places : List ℕ) : Type 0 where
  pub many : length taken ≡ length own
  pub long : length places ≡ i
  pub counted : (w d : ℕ) → w < length own → get_or taken w d ≡ count_by w (take i order)
  pub by : (w : ℕ) (all : List ℕ) → slice_get own w ≡ Some all → places_by w (take i order) places ≡ take (count_by w (take i order)) all

pub placed_none : (own : List (List ℕ)) (order : List Ordered) (taken : List ℕ) → taken ≡ replicate (length own) 0 → ArePlaced own order 0 taken []
placed_none own order taken e = record {
  many = ap length e ∙ length-replicate (length own) 0;
  long = refl;
  counted = λ w d lt. ap (λ (z : List ℕ). get_or z w d) e ∙ get_or-replicate (length own) w 0 d lt;
  by = λ w all at. refl;
}

-- the next of a worker's places is there
pub next_within : (own : List (List ℕ)) (order : List Ordered) (i k : ℕ) (taken places : List ℕ) (x : Ordered) (all : List ℕ) → ArePlaced own order i taken places → i < length order → take (i + 1) order ≡ take i order ++ x ∷ [] → slice_get own x.seat ≡ Some all → count_by x.seat order ≡ length all → k ≡ get_or taken x.seat 0 → k < length all
next_within own order i k taken places x all placed lt next at long is =
    let n = count_first x.seat (i + 1) order in
    let m = ap (count_by x.seat) next ∙ count_here x.seat (take i order) x refl in
    let c = placed.counted x.seat 0 (slice_get_within own x.seat all at) in
    omega (arith, n, m, c, long, is)

pub placed_more : (own : List (List ℕ)) (order : List Ordered) (i k : ℕ) (taken places : List ℕ) (x : Ordered) (all : List ℕ) (place : ℕ) → ArePlaced own order i taken places → i < length order → take (i + 1) order ≡ take i order ++ x ∷ [] → slice_get own x.seat ≡ Some all → k ≡ get_or taken x.seat 0 → slice_get all k ≡ Some place → ArePlaced own order (i + 1) (set taken x.seat (k + 1)) (places ++ place ∷ [])
placed_more own order i k taken places x all place placed lt next at is here =
    let within : x.seat < length own = slice_get_within own x.seat all at in
    let inside : x.seat < length taken = (let e = placed.many in omega (arith, within, e)) in
    let counted : k ≡ count_by x.seat (take i order) = is ∙ placed.counted x.seat 0 within in
    let same : length places ≡ length (take i order) = placed.long ∙ sym (long_take i order lt) in
    record {
      many = length-set taken x.seat (k + 1) ∙ placed.many;
      long = length-append places (place ∷ []) ∙ ap (λ (n : ℕ). n + 1) placed.long;
      counted = λ w d less.
          ⊎_elim
          (λ (e : w ≡ x.seat).
          ap (λ (v : ℕ). get_or (set taken x.seat (k + 1)) v d) e
          ∙ get_or-set_same taken x.seat (k + 1) d inside
          ∙ ap (λ (n : ℕ). n + 1) counted
          ∙ sym (count_here x.seat (take i order) x refl)
          ∙ ap (count_by x.seat) (sym next)
          ∙ ap (λ (v : ℕ). count_by v (take (i + 1) order)) (sym e))
          (λ (ne : w ≢ x.seat).
          get_or-set_other taken x.seat w (k + 1) d ne
          ∙ placed.counted w d less
          ∙ sym (count_else w (take i order) x (λ q. ne (sym q)))
          ∙ ap (count_by w) (sym next))
          (cases_eq w x.seat);
      by = λ w places_of at_w.
          ap (λ (z : List Ordered). places_by w z (places ++ place ∷ [])) next
          ∙ by_more w (take i order) places x place same
          ∙ ⊎_elim
          (λ (e : x.seat ≡ w).
          let one : places_of ≡ all = same_list own x.seat places_of all (subst (λ (v : ℕ). slice_get own v ≡ Some places_of) (sym e) at_w) at in
          let n : k ≡ count_by w (take i order) = counted ∙ ap (λ (v : ℕ). count_by v (take i order)) e in
          ap (λ (b : Bool). places_by w (take i order) places ++ own_if b place []) (eq-eqb x.seat w e)
          ∙ ap (λ (z : List ℕ). z ++ place ∷ []) (placed.by w places_of at_w)
          ∙ ap (λ (z : List ℕ). take (count_by w (take i order)) z ++ place ∷ []) one
          ∙ ap (λ (m : ℕ). take m all ++ place ∷ []) (sym n)
          ∙ sym (take_get all k place here)
          ∙ ap (λ (z : List ℕ). take (k + 1) z) (sym one)
          ∙ ap (λ (m : ℕ). take m places_of) (ap (λ (m : ℕ). m + 1) n ∙ sym (count_here w (take i order) x e) ∙ ap (count_by w) (sym next)))
          (λ (ne : x.seat ≢ w).
          ap (λ (b : Bool). places_by w (take i order) places ++ own_if b place []) (ne_eqb x.seat w ne)
          ∙ append-nil (places_by w (take i order) places)
          ∙ placed.by w places_of at_w
          ∙ ap (λ (m : ℕ). take m places_of) (sym (count_else w (take i order) x ne) ∙ ap (count_by w) (sym next)))
          (cases_eq x.seat w);
    }
  where
    long_take : {A : Type 0} (i : ℕ) (xs : List A) → i < length xs → length (take i xs) ≡ i
    long_take zero xs lt = refl
    long_take (suc i) [] lt = absurd (omega (arith, lt))
    long_take (suc i) (x ∷ xs) lt = ap suc (long_take i xs (omega (arith, lt)))

    same_list : (xs : List (List ℕ)) (v : ℕ) (a b : List ℕ) → slice_get xs v ≡ Some a → slice_get xs v ≡ Some b → a ≡ b
    same_list xs v a b p q = cc (p, q)

    take_get : {A : Type 0} (xs : List A) (k : ℕ) (x : A) → slice_get xs k ≡ Some x → take (k + 1) xs ≡ take k xs ++ x ∷ []
    take_get xs k x at = take_more xs k x (slice_get_within xs k x at) ∙ ap (λ y. take k xs ++ y ∷ []) (get_or_from_slice_get xs k x x at)

-- all of them have theirs
pub placed_all : (own : List (List ℕ)) (order : List Ordered) (taken places : List ℕ) (w : ℕ) (all : List ℕ) → ArePlaced own order (length order) taken places → slice_get own w ≡ Some all → count_by w order ≡ length all → places_by w order places ≡ all
placed_all own order taken places w all placed at long =
    let whole : take (length order) order ≡ order = take_all (length order) order (omega arith) in
    ap (λ (z : List Ordered). places_by w z places) (sym whole)
    ∙ placed.by w all at
    ∙ ap (λ (z : List Ordered). take (count_by w z) all) whole
    ∙ ap (λ (n : ℕ). take n all) long
    ∙ take_all (length all) all (omega arith)

-- the next packet of an order, all its worker's places, and how many of them are taken
pub record Next (own : List (List ℕ)) (order : List Ordered) (i k : ℕ) (taken : List ℕ) (x : Ordered) (all : List ℕ) : Type 0 where
  pub next : take (i + 1) order ≡ take i order ++ x ∷ []
  pub at : slice_get own x.seat ≡ Some all
  pub is : k ≡ get_or taken x.seat 0

pub next_of : (own : List (List ℕ)) (order : List Ordered) (i k : ℕ) (taken places : List ℕ) (x : Ordered) (all : List ℕ) → ArePlaced own order i taken places → All (λ (y : Ordered). y.seat < length own) order → i < length order → x ≡ slice_index_or order i x → all ≡ slice_index_or own x.seat all → k ≡ slice_index_or taken x.seat k → Next own order i k taken x all
next_of own order i k taken places x all placed below lt x_is all_is k_is =
    let inside : x.seat < length own = subst (λ (y : Ordered). y.seat < length own) (sym x_is) (below i x lt) in
    let many = placed.many in
    record {
      next = take_more order i x lt ∙ ap (λ (y : Ordered). take i order ++ y ∷ []) (sym x_is);
      at = slice_get_read own (length own) x.seat all refl inside all_is;
      is = sym (get_or_from_slice_get taken x.seat k 0 (slice_get_read taken (length taken) x.seat k refl (omega (arith, many, inside)) k_is));
    }

-- the same where its worker was told
pub next_at : (own : List (List ℕ)) (order : List Ordered) (i k w : ℕ) (taken places : List ℕ) (x : Ordered) (all : List ℕ) → ArePlaced own order i taken places → All (λ (y : Ordered). y.seat < length own) order → slice_get order i ≡ Some x → w ≡ x.seat → all ≡ slice_index_or own w all → k ≡ slice_index_or taken w k → Next own order i k taken x all
next_at own order i k w taken places x all placed below at is all_is k_is =
    next_of own order i k taken places x all placed below (slice_get_within order i x at) (sym (get_or_from_slice_get order i x x at))
    (subst (λ (v : ℕ). all ≡ slice_index_or own v all) is all_is) (subst (λ (v : ℕ). k ≡ slice_index_or taken v k) is k_is)

-- what stands at a place of an order
pub ordered_at : (order : List Ordered) (i : ℕ) → i < length order → (x : Ordered) × (slice_get order i ≡ Some x)
ordered_at [] i lt = absurd (omega (arith, lt))
ordered_at (x ∷ xs) zero lt = (x, refl)
ordered_at (x ∷ xs) (suc i) lt = ordered_at xs i (omega (arith, lt))

short_case : {A : Type 0} (b : Bool) (x : A) (xs rest : List A) → length rest ≤ length xs → length (cond b (x ∷ rest) rest) ≤ length (x ∷ xs)
short_case true x xs rest le = omega (arith, le)
short_case false x xs rest le = omega (arith, le)

filter_short : {A : Type 0} (test : A → Bool) (xs : List A) → length (filter test xs) ≤ length xs
filter_short test [] = omega arith
filter_short test (x ∷ xs) = short_case (test x) x xs (filter test xs) (filter_short test xs)

-- no more are taken than there were packets
pub taken_within : (own : List (List ℕ)) (order : List Ordered) (i k : ℕ) (taken places : List ℕ) (x : Ordered) (all : List ℕ) → ArePlaced own order i taken places → Next own order i k taken x all → k ≤ length order
taken_within own order i k taken places x all placed n =
    let c = placed.counted x.seat 0 (slice_get_within own x.seat all n.at) in
    let short = filter_short (λ (y : Ordered). y.seat == x.seat) order in
    let first = count_first x.seat i order in
    let is = n.is in
    omega (arith, c, short, first, is)

-- nor than stand before the next one
pub taken_before : (own : List (List ℕ)) (order : List Ordered) (i k : ℕ) (taken places : List ℕ) (x : Ordered) (all : List ℕ) → ArePlaced own order i taken places → Next own order i k taken x all → k ≤ i
taken_before own order i k taken places x all placed n =
    let c = placed.counted x.seat 0 (slice_get_within own x.seat all n.at) in
    let short = filter_short (λ (y : Ordered). y.seat == x.seat) (take i order) in
    let front = length-take i order in
    let is = n.is in
    omega (arith, c, short, front, is)

pub seat_inside : (own : List (List ℕ)) (order : List Ordered) (i : ℕ) (x : Ordered) → All (λ (y : Ordered). y.seat < length own) order → slice_get order i ≡ Some x → x.seat < length own
seat_inside own order i x below at = subst (λ (y : Ordered). y.seat < length own) (get_or_from_slice_get order i x x at) (below i x (slice_get_within order i x at))
