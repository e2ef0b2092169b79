-- The calls of a seat in an order, as the order grows.
use Rattle.std.proofs.Common.{◌≡◌, ℕ, zero, suc, ◌+◌, ◌≤◌, ◌<◌, ◌==◌, Bool, true, false, List, [], ◌∷◌, ◌++◌, fold, if◌then◌else◌, refl, sym, ap, ◌∙◌, arith, le_refl, le_trans}
use Rattle.lock_core.specs.declared.call.Way.{Way}
use Rattle.lock_core.specs.declared.call.Way.TheVariants.{Look, Alone}
use Rattle.lock_core.specs.declared.call.Call.{Call}
use Rattle.lock_core.specs.declared.call.Ordered.{Ordered}
use Rattle.lock_core.specs.Calls.{by_way, length_behind, call_at, calls_from, at_next, put_behind}
use Rattle.lock_core.proofs.Orders.{longer}

-- what a seat has seen behind calls, of so much before them
abbrev pub seen_from : ℕ → List Call → ℕ
seen_from n calls = fold (λ (k : ℕ) (c : Call). length_behind c.place c.way) n calls

-- the call of a packet in front of others, where it is the seat's
abbrev in_front : Bool → Call → List Call → List Call
in_front own c rest = if own then c ∷ rest else rest

-- the call of a packet, where it is the seat's
abbrev pub own_call : Bool → Call → List Call
own_call own c = if own then c ∷ [] else []

behind_way : (w : Way) (n : ℕ) → n ≤ length_behind n w
behind_way Look n = le_refl n
behind_way Alone n = omega arith

-- ---- a packet behind all others

front_more : (own : Bool) (c : Call) (rest more : List Call) → in_front own c (rest ++ more) ≡ in_front own c rest ++ more
front_more true c rest more = refl
front_more false c rest more = refl

pub calls_more : (seat n : ℕ) (xs ys : List Ordered) → calls_from seat n (xs ++ ys) ≡ calls_from seat n xs ++ calls_from seat (longer n xs) ys
calls_more seat n [] ys = refl
calls_more seat n (x ∷ xs) ys =
    ap (in_front (x.seat == seat) (call_at n x)) (calls_more seat (length_behind n x.way) xs ys)
    ∙ front_more (x.seat == seat) (call_at n x) (calls_from seat (length_behind n x.way) xs) (calls_from seat (longer (length_behind n x.way) xs) ys)

-- ---- what was seen

-- what a seat has seen is no less behind more calls
grows_case : (own : Bool) (x : Ordered) (xs : List Ordered) (seat n k : ℕ) → k ≤ n → ((j : ℕ) → j ≤ length_behind n x.way → j ≤ seen_from j (calls_from seat (length_behind n x.way) xs)) → k ≤ seen_from k (in_front own (call_at n x) (calls_from seat (length_behind n x.way) xs))
grows_case true x xs seat n k le ih = le_trans (le_trans le (behind_way x.way n)) (ih (length_behind n x.way) (le_refl _))
grows_case false x xs seat n k le ih = ih k (le_trans le (behind_way x.way n))

seen_grows : (xs : List Ordered) (seat n k : ℕ) → k ≤ n → k ≤ seen_from k (calls_from seat n xs)
seen_grows [] seat n k le = le_refl k
seen_grows (x ∷ xs) seat n k le = grows_case (x.seat == seat) x xs seat n k le (λ j l. seen_grows xs seat (length_behind n x.way) j l)

longer_grows : (xs : List Ordered) (n : ℕ) → n ≤ longer n xs
longer_grows [] n = le_refl n
longer_grows (x ∷ xs) n = le_trans (behind_way x.way n) (longer_grows xs (length_behind n x.way))

-- no seat has seen more than there is
within_case : (own : Bool) (x : Ordered) (xs : List Ordered) (seat n k : ℕ) → k ≤ n → ((j : ℕ) → j ≤ length_behind n x.way → seen_from j (calls_from seat (length_behind n x.way) xs) ≤ longer (length_behind n x.way) xs) → seen_from k (in_front own (call_at n x) (calls_from seat (length_behind n x.way) xs)) ≤ longer n (x ∷ xs)
within_case true x xs seat n k le ih = ih (length_behind n x.way) (le_refl _)
within_case false x xs seat n k le ih = ih k (le_trans le (behind_way x.way n))

pub seen_within : (xs : List Ordered) (seat n k : ℕ) → k ≤ n → seen_from k (calls_from seat n xs) ≤ longer n xs
seen_within [] seat n k le = le
seen_within (x ∷ xs) seat n k le = within_case (x.seat == seat) x xs seat n k le (λ j l. seen_within xs seat (length_behind n x.way) j l)

-- a seat that has seen less than what an order begins with has no call in it
none_case : (own : Bool) (x : Ordered) (xs : List Ordered) (seat n k : ℕ) → k ≤ n → ((j : ℕ) → j ≤ length_behind n x.way → seen_from j (calls_from seat (length_behind n x.way) xs) < length_behind n x.way → calls_from seat (length_behind n x.way) xs ≡ [])
    → seen_from k (in_front own (call_at n x) (calls_from seat (length_behind n x.way) xs)) < n → in_front own (call_at n x) (calls_from seat (length_behind n x.way) xs) ≡ []
none_case true x xs seat n k le ih lt =
    let up = seen_grows xs seat (length_behind n x.way) (length_behind n x.way) (le_refl _) in
    let over = behind_way x.way n in
    absurd (omega (arith, lt, up, over))
none_case false x xs seat n k le ih lt = let over = behind_way x.way n in ih k (le_trans le over) (omega (arith, lt, over))

no_calls : (xs : List Ordered) (seat n k : ℕ) → k ≤ n → seen_from k (calls_from seat n xs) < n → calls_from seat n xs ≡ []
no_calls [] seat n k le lt = refl
no_calls (x ∷ xs) seat n k le lt = none_case (x.seat == seat) x xs seat n k le (λ j l t. no_calls xs seat (length_behind n x.way) j l t) lt

-- ---- a look that is put in

abbrev put_case : Way → ℕ → Ordered → Ordered → List Ordered → List Ordered
put_case w m look x xs = by_way w (x ∷ put_behind m look xs) (at_next m (look ∷ x ∷ xs) (λ left. x ∷ put_behind left look xs))

-- it is no call of another seat
front_other : (seat n : ℕ) (look : Ordered) (xs : List Ordered) → look.way ≡ Look → (look.seat == seat) ≡ false → calls_from seat n (look ∷ xs) ≡ calls_from seat n xs
front_other seat n look xs e other =
    ap (λ (own : Bool). in_front own (call_at n look) (calls_from seat (length_behind n look.way) xs)) other
    ∙ ap (λ (w : Way). calls_from seat (length_behind n w) xs) e

other_case : (w : Way) (seat n m : ℕ) (look x : Ordered) (xs : List Ordered) → look.way ≡ Look → (look.seat == seat) ≡ false → ((j k : ℕ) → calls_from seat j (put_behind k look xs) ≡ calls_from seat j xs) → calls_from seat n (put_case w m look x xs) ≡ calls_from seat n (x ∷ xs)
other_case Look seat n m look x xs e other ih = ap (in_front (x.seat == seat) (call_at n x)) (ih (length_behind n x.way) m)
other_case Alone seat n zero look x xs e other ih = front_other seat n look (x ∷ xs) e other
other_case Alone seat n (suc m) look x xs e other ih = ap (in_front (x.seat == seat) (call_at n x)) (ih (length_behind n x.way) m)

pub put_other : (xs : List Ordered) (seat n m : ℕ) (look : Ordered) → look.way ≡ Look → (look.seat == seat) ≡ false → calls_from seat n (put_behind m look xs) ≡ calls_from seat n xs
put_other [] seat n m look e other = front_other seat n look [] e other
put_other (x ∷ xs) seat n m look e other = other_case x.way seat n m look x xs e other (λ j k. put_other xs seat j k look e other)

-- it is the last call of its own seat, which has seen no more
abbrev PutsOwn : ℕ → ℕ → ℕ → ℕ → Ordered → List Ordered → Type 0
PutsOwn seat n m k look xs = k ≤ n → n + m ≤ longer n xs → seen_from k (calls_from seat n xs) ≤ n + m → calls_from seat n (put_behind m look xs) ≡ calls_from seat n xs ++ call_at (n + m) look ∷ []

front_own : (seat n : ℕ) (look : Ordered) (xs : List Ordered) → look.way ≡ Look → (look.seat == seat) ≡ true → calls_from seat n (look ∷ xs) ≡ call_at n look ∷ calls_from seat n xs
front_own seat n look xs e own =
    ap (λ (b : Bool). in_front b (call_at n look) (calls_from seat (length_behind n look.way) xs)) own
    ∙ ap (λ (w : Way). call_at n look ∷ calls_from seat (length_behind n w) xs) e

-- what is to be shown of the packets behind a first one, before which the history had so many entries
abbrev OwnBehind : ℕ → ℕ → ℕ → Ordered → List Ordered → Type 0
OwnBehind seat n m look xs = (j : ℕ) → PutsOwn seat n m j look xs

-- behind a packet that stays in front
own_behind : (own : Bool) (seat n m left k : ℕ) (look x : Ordered) (xs : List Ordered) → OwnBehind seat (length_behind n x.way) left look xs → length_behind n x.way + left ≡ n + m → k ≤ n → n + m ≤ longer n (x ∷ xs)
    → seen_from k (in_front own (call_at n x) (calls_from seat (length_behind n x.way) xs)) ≤ n + m
    → in_front own (call_at n x) (calls_from seat (length_behind n x.way) (put_behind left look xs)) ≡ in_front own (call_at n x) (calls_from seat (length_behind n x.way) xs) ++ call_at (n + m) look ∷ []
own_behind true seat n m left k look x xs ih e le within seen =
    ap (λ cs. call_at n x ∷ cs) (ih (length_behind n x.way) (le_refl _) (omega (arith, e, within)) (omega (arith, e, seen)))
    ∙ ap (λ (j : ℕ). call_at n x ∷ (calls_from seat (length_behind n x.way) xs ++ call_at j look ∷ [])) e
own_behind false seat n m left k look x xs ih e le within seen =
    let over = behind_way x.way n in
    ih k (le_trans le over) (omega (arith, e, within)) (omega (arith, e, seen))
    ∙ ap (λ (j : ℕ). calls_from seat (length_behind n x.way) xs ++ call_at j look ∷ []) e

-- behind the last entry that was seen no call of the seat stands
none_behind : (own : Bool) (seat n k : ℕ) (x : Ordered) (xs : List Ordered) → x.way ≡ Alone → k ≤ n → seen_from k (in_front own (call_at n x) (calls_from seat (length_behind n x.way) xs)) ≤ n → in_front own (call_at n x) (calls_from seat (length_behind n x.way) xs) ≡ []
none_behind true seat n k x xs e le seen =
    let one : length_behind n x.way ≡ n + 1 = ap (length_behind n) e in
    let up = seen_grows xs seat (length_behind n x.way) (length_behind n x.way) (le_refl _) in
    absurd (omega (arith, one, up, seen))
none_behind false seat n k x xs e le seen =
    let one : length_behind n x.way ≡ n + 1 = ap (length_behind n) e in
    no_calls xs seat (length_behind n x.way) k (omega (arith, one, le)) (omega (arith, one, seen))

own_case : (w : Way) (seat n m k : ℕ) (look x : Ordered) (xs : List Ordered) → x.way ≡ w → look.way ≡ Look → (look.seat == seat) ≡ true → ((left : ℕ) → OwnBehind seat (length_behind n x.way) left look xs)
    → k ≤ n → n + m ≤ longer n (x ∷ xs) → seen_from k (calls_from seat n (x ∷ xs)) ≤ n + m → calls_from seat n (put_case w m look x xs) ≡ calls_from seat n (x ∷ xs) ++ call_at (n + m) look ∷ []
own_case Look seat n m k look x xs p e own ih le within seen =
    own_behind (x.seat == seat) seat n m m k look x xs (ih m) (ap (λ (w : Way). length_behind n w + m) p) le within seen
own_case Alone seat n zero k look x xs p e own ih le within seen =
    let none = none_behind (x.seat == seat) seat n k x xs p le (omega (arith, seen)) in
    front_own seat n look (x ∷ xs) e own
    ∙ ap (λ cs. call_at n look ∷ cs) none
    ∙ ap (λ (j : ℕ). call_at j look ∷ []) (omega arith)
    ∙ ap (λ cs. cs ++ call_at (n + 0) look ∷ []) (sym none)
own_case Alone seat n (suc m) k look x xs p e own ih le within seen =
    own_behind (x.seat == seat) seat n (suc m) m k look x xs (ih m) (ap (λ (w : Way). length_behind n w + m) p ∙ omega arith) le within seen

pub put_own : (xs : List Ordered) (seat n m k : ℕ) (look : Ordered) → look.way ≡ Look → (look.seat == seat) ≡ true → PutsOwn seat n m k look xs
put_own [] seat n m k look e own le within seen =
    front_own seat n look [] e own ∙ ap (λ (j : ℕ). call_at j look ∷ []) (omega (arith, within))
put_own (x ∷ xs) seat n m k look e own le within seen = own_case x.way seat n m k look x xs refl e own (λ left j. put_own xs seat (length_behind n x.way) left j look e own) le within seen
