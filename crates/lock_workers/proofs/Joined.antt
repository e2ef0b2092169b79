-- Workers' calls, as there are more, and all together.
use Rattle.std.proofs.Common.{◌≡◌, ◌⊎◌, ⊎_elim, ℕ, zero, suc, ◌+◌, ◌<◌, ◌≤◌, ◌==◌, Bool, true, false, List, [], ◌∷◌, ◌++◌, length, map, filter, cond, take, All, Some, slice_get, slice_index_or, if◌then◌else◌, inl, inr, refl, ap, sym, ◌∙◌, subst, arith, eq-eqb, ne_eqb}
use Rattle.std.proofs.lemmas.List.{length-map}
use Rattle.std.proofs.lemmas.Option.{slice_get_within, slice_get-get_or, get_or_from_slice_get, same_Some}
use Rattle.std.specs.List.{AllByRecursion}
use Rattle.std.proofs.lemmas.List.Elements.{All-from_recursion, All-weaker}
use Rattle.std.proofs.lemmas.Nat.{mod_below}
use Rattle.nf_base.specs.declared.packet.Packet.{Packet}
use Rattle.nf_base.specs.declared.state.State.{State}
use Rattle.nf_base.specs.Text.{Function}
use Rattle.nf_base.specs.Doors.{IsServed}
use Rattle.nf_base.specs.declared.func.Func.{Func}
use Rattle.nf_base.specs.Handlers.{blocks_of}
use Rattle.nf_base.specs.Functions.{function_of}
use Rattle.vig_tables.specs.TablesState.{TablesState}
use Rattle.lock_core.specs.declared.call.Call.{Call}
use Rattle.lock_core.specs.declared.call.Ordered.{Ordered}
use Rattle.lock_core.specs.Calls.{call_at, calls_from, calls_of, length_behind}
use Rattle.lock_core.specs.Histories.{Runs}
use Rattle.lock_mode.specs.Closing.{IsClosed}
use Rattle.lock_mode.specs.Opening.{AreNew}
use Rattle.lock_mode.specs.Seats.{SeatState, AreAll}
use Rattle.lock_workers.specs.Dealing.{worker_of, places_from, own_places, AreDealt}
use Rattle.lock_workers.specs.Working.{packets_in, AreAtPlaces, HasWorked, AllHaveWorked, AreWorkers}
use Rattle.lock_workers.specs.RunResult.{AreAt, places_by, packets_by, count_by, AreInOrder, AreHandled}
use Rattle.lock_workers.specs.Sharing.{AreAllDone, IsShared}

lt_or_le : (k n : ℕ) → (k < n) ⊎ (n ≤ k)
lt_or_le k zero = inr (omega arith)
lt_or_le zero (suc n) = inl (omega arith)
lt_or_le (suc k) (suc n) = ⊎_elim (λ t. inl (omega (arith, t))) (λ t. inr (omega (arith, t))) (lt_or_le k n)

got_snoc : {A : Type 0} (xs : List A) (y z : A) (k : ℕ) → slice_get (xs ++ y ∷ []) k ≡ Some z → (slice_get xs k ≡ Some z) ⊎ ((k ≡ length xs) × (y ≡ z))
got_snoc [] y z zero e = inr (refl, cc e)
got_snoc [] y z (suc k) e = absurd (cc e)
got_snoc (x ∷ xs) y z zero e = inl e
got_snoc (x ∷ xs) y z (suc k) e = ⊎_elim (λ t. inl t) (λ t. inr (ap suc t.0, t.1)) (got_snoc xs y z k e)

-- one packet more stands at its place
pub at_more : (packets : List Packet) (places : List ℕ) (these : List Packet) (p : Packet) (place : ℕ) → AreAtPlaces packets places these → slice_get places (length these) ≡ Some place → slice_get packets place ≡ Some p → AreAtPlaces packets places (these ++ p ∷ [])
at_more packets places these p place at here is = λ k q e.
    ⊎_elim
    (λ (t : slice_get these k ≡ Some q). at k q t)
    (λ (t : (k ≡ length these) × (p ≡ q)). (place, ap (slice_get places) t.0 ∙ here, is ∙ ap Some t.1))
    (got_snoc these p q k e)

pub at_none : (packets : List Packet) (places : List ℕ) → AreAtPlaces packets places []
at_none packets places = λ k q e. absurd (cc e)

-- ---- all together

some_at : {A : Type 0} (xs : List A) (k : ℕ) → k < length xs → (x : A) × (slice_get xs k ≡ Some x)
some_at [] k lt = absurd (omega (arith, lt))
some_at (x ∷ xs) zero lt = (x, refl)
some_at (x ∷ xs) (suc k) lt = some_at xs k (omega (arith, lt))

wider : (n m : ℕ) (xs : List ℕ) → n ≤ m → AllByRecursion (λ (k : ℕ). k < n) xs → AllByRecursion (λ (k : ℕ). k < m) xs
wider n m [] le h = tt
wider n m (x ∷ xs) le h = (let lt = h.0 in omega (arith, lt, le), wider n m xs le h.1)

front_below : (own : Bool) (n place : ℕ) (rest : List ℕ) → place < n → AllByRecursion (λ (k : ℕ). k < n) rest → AllByRecursion (λ (k : ℕ). k < n) (if own then place ∷ rest else rest)
front_below true n place rest lt h = (lt, h)
front_below false n place rest lt h = h

-- a worker's places are places of packets
places_below : (workers w place : ℕ) (ps : List Packet) → AllByRecursion (λ (k : ℕ). k < place + length ps) (places_from workers w place ps)
places_below workers w place [] = tt
places_below workers w place (p ∷ ps) =
    front_below (worker_of workers p == w) (place + length (p ∷ ps)) place (places_from workers w (place + 1) ps) (omega arith)
    (wider (place + 1 + length ps) (place + length (p ∷ ps)) (places_from workers w (place + 1) ps) (omega arith) (places_below workers w (place + 1) ps))

pub are_workers : (f : Function) (count : ℕ) (packets : List Packet) (own : List (List ℕ)) (seats : List SeatState) → AreNew count seats → AreDealt count packets own → All (λ (p : Packet). p.id.port < length f.handlers) packets → All (IsServed f) packets → AreWorkers f packets own seats
are_workers f count packets own seats new dealt all served = record {
  as_many = dealt.many ∙ sym new.many;
  of = λ w places at. record {
    ports_are = all;
    served_are = served;
    within =
        subst (All (λ (place : ℕ). place < length packets)) (sym (dealt.each w places at))
        (All-weaker (λ (place : ℕ). place < 0 + length packets) (λ (place : ℕ). place < length packets) (λ k lt. omega (arith, lt)) (own_places count w packets)
        (All-from_recursion (λ (place : ℕ). place < 0 + length packets) (own_places count w packets) (places_below count w 0 packets)));
  };
  none = λ w s at. (new.each w s at).calls;
}

-- what was done to each seat was done to all
pub all_worked : (packets : List Packet) (own : List (List ℕ)) (before after : List SeatState) → length after ≡ length before → ((i : ℕ) (d : SeatState) → i < length before → HasWorked packets (slice_index_or own i []) (slice_index_or before i d) (slice_index_or after i d)) → AllHaveWorked packets own before after
all_worked packets own before after count each = record {
  count = count;
  each = λ w places old new o b a.
      subst (λ (z : List ℕ). HasWorked packets z old new) (get_or_from_slice_get own w places [] o)
      (subst (λ (z : SeatState). HasWorked packets (slice_index_or own w []) z new) (get_or_from_slice_get before w old old b)
      (subst (λ (z : SeatState). HasWorked packets (slice_index_or own w []) (slice_index_or before w old) z) (get_or_from_slice_get after w new old a) (each w old (slice_get_within before w old b))));
}

-- a whole list in front of another
pub all_of : (n : ℕ) (xs ys : List SeatState) → n ≡ length xs → take n (xs ++ ys) ≡ xs
all_of zero [] ys e = refl
all_of (suc n) [] ys e = absurd (omega (arith, e))
all_of zero (x ∷ xs) ys e = absurd (omega (arith, e))
all_of (suc n) (x ∷ xs) ys e = ap (λ (hs : List SeatState). x ∷ hs) (all_of n xs ys (omega (arith, e)))

pub are_all : (count : ℕ) (packets : List Packet) (own : List (List ℕ)) (before after : List SeatState) → AreNew count before → length own ≡ count → AllHaveWorked packets own before after → AreAll count after
are_all count packets own before after new many worked = record {
  many = worked.count ∙ new.many;
  each = λ k s at.
      let lt = slice_get_within after k s at in
      let same = worked.count in
      let news = new.many in
      let old = some_at before k (omega (arith, lt, same)) in
      let places = some_at own k (omega (arith, lt, same, news, many)) in
      (worked.each k places.0 old.0 s places.1 old.1 at).number ∙ (new.each k old.0 old.1).number;
}

pub shared_of : (f : Function) (count : ℕ) (packets : List Packet) (own : List (List ℕ)) (before after : List SeatState) (order : List Ordered) (t : TablesState) → AreNew count before → length own ≡ count → AllHaveWorked packets own before after → AreAllDone own after → IsClosed f after order t → IsShared f packets own order t
shared_of f count packets own before after order t new many worked done closed =
    let same : length after ≡ length own = worked.count ∙ new.many ∙ sym many in
    record {
      runs = closed.order_is.runs;
      each = λ w places at.
          let lt = slice_get_within own w places at in
          let s = some_at after w (omega (arith, lt, same)) in
          let old = some_at before w (let c = worked.count in omega (arith, lt, same, c)) in
          let calls = closed.order_is.calls w s.0 s.1 in
          record {
            at = subst (λ (cs : List Call). AreAtPlaces packets places (packets_in cs)) (sym calls) (worked.each w places old.0 s.0 at old.1 s.1).called;
            all = ap (λ (cs : List Call). length cs) calls ∙ done w places s.0 at s.1;
          };
      others = λ w le. closed.order_is.others w (omega (arith, le, same));
    }

-- ---- the calls of a worker, and what it handled

calls_case : (b : Bool) (n : ℕ) (x : Ordered) (cs : List Call) (xs : List Ordered) → packets_in cs ≡ map (λ (y : Ordered). y.packet) xs → packets_in (if b then call_at n x ∷ cs else cs) ≡ map (λ (y : Ordered). y.packet) (cond b (x ∷ xs) xs)
calls_case true n x cs xs e = ap (λ (ps : List Packet). x.packet ∷ ps) e
calls_case false n x cs xs e = e

calls_are : (w n : ℕ) (xs : List Ordered) → packets_in (calls_from w n xs) ≡ packets_by w xs
calls_are w n [] = refl
calls_are w n (x ∷ xs) = calls_case (x.seat == w) n x (calls_from w (length_behind n x.way) xs) (filter (λ (y : Ordered). y.seat == w) xs) (calls_are w (length_behind n x.way) xs)

calls_many : (w : ℕ) (xs : List Ordered) → length (calls_of w xs) ≡ count_by w xs
calls_many w xs =
    sym (length-map (calls_of w xs) (λ (c : Call). c.packet))
    ∙ ap length (calls_are w 0 xs)
    ∙ length-map (filter (λ (y : Ordered). y.seat == w) xs) (λ (y : Ordered). y.packet)

count_case : (b : Bool) (x : Ordered) (xs : List Ordered) → length xs ≤ length (cond b (x ∷ xs) xs)
count_case true x xs = omega arith
count_case false x xs = omega arith

count_some : (xs : List Ordered) (k : ℕ) (x : Ordered) → slice_get xs k ≡ Some x → 0 < count_by x.seat xs
count_some [] k x at = absurd (cc at)
count_some (y ∷ ys) zero x at =
    let is : y ≡ x = cc at in
    subst (λ (b : Bool). 0 < length (cond b (y ∷ filter (λ (z : Ordered). z.seat == x.seat) ys) (filter (λ (z : Ordered). z.seat == x.seat) ys))) (sym (eq-eqb y.seat x.seat (ap (λ (z : Ordered). z.seat) is))) (omega arith)
count_some (y ∷ ys) (suc k) x at =
    let more = count_some ys k x at in
    let up = count_case (y.seat == x.seat) y (filter (λ (z : Ordered). z.seat == x.seat) ys) in
    omega (arith, more, up)

-- each packet is one of the workers'
pub seats_below : (f : Function) (packets : List Packet) (own : List (List ℕ)) (order : List Ordered) (t : TablesState) → IsShared f packets own order t → All (λ (x : Ordered). x.seat < length own) order
seats_below f packets own order t shared = λ k d lt.
    let x = slice_index_or order k d in
    let at : slice_get order k ≡ Some x = slice_get-get_or order k d lt in
    let some = count_some order k x at in
    ⊎_elim
    (λ (less : x.seat < length own). less)
    (λ (le : length own ≤ x.seat).
    let none = sym (calls_many x.seat order) ∙ ap (λ (cs : List Call). length cs) (shared.others x.seat le) in
    absurd (omega (arith, some, none)))
    (lt_or_le x.seat (length own))

pub counts_are : (f : Function) (packets : List Packet) (own : List (List ℕ)) (order : List Ordered) (t : TablesState) → IsShared f packets own order t → (w : ℕ) (places : List ℕ) → slice_get own w ≡ Some places → count_by w order ≡ length places
counts_are f packets own order t shared w places at = sym (calls_many w order) ∙ (shared.each w places at).all

-- ---- places of an order

by_many : (w : ℕ) (xs : List Ordered) (ps : List ℕ) → length ps ≡ length xs → length (places_by w xs ps) ≡ count_by w xs
by_many w [] [] e = refl
by_many w [] (p ∷ ps) e = absurd (omega (arith, e))
by_many w (x ∷ xs) [] e = absurd (omega (arith, e))
by_many w (x ∷ xs) (p ∷ ps) e = one (x.seat == w) (by_many w xs ps (omega (arith, e)))
  where
    one : (b : Bool) → length (places_by w xs ps) ≡ count_by w xs → length (if b then p ∷ places_by w xs ps else places_by w xs ps) ≡ length (cond b (x ∷ filter (λ (y : Ordered). y.seat == w) xs) (filter (λ (y : Ordered). y.seat == w) xs))
    one true h = ap suc h
    one false h = h

-- what a worker handled of packets with a first one, and its places
abbrev Both : List Packet → Ordered → ℕ → List Ordered → List ℕ → ℕ → Bool → Type 0
Both packets x p xs ps w b = AreAtPlaces packets (if b then p ∷ places_by w xs ps else places_by w xs ps) (map (λ (y : Ordered). y.packet) (cond b (x ∷ filter (λ (y : Ordered). y.seat == w) xs) (filter (λ (y : Ordered). y.seat == w) xs)))

first_at : (packets : List Packet) (x : Ordered) (p : ℕ) (xs : List Ordered) (ps : List ℕ) (w : ℕ) (b : Bool) → b ≡ true → Both packets x p xs ps w b → slice_get packets p ≡ Some x.packet
first_at packets x p xs ps w true is h = let r = h 0 x.packet refl in let same : p ≡ r.0 = same_Some _ _ r.1 in subst (λ (k : ℕ). slice_get packets k ≡ Some x.packet) (sym same) r.2
first_at packets x p xs ps w false is h = absurd (cc is)

rest_at : (packets : List Packet) (x : Ordered) (p : ℕ) (xs : List Ordered) (ps : List ℕ) (w : ℕ) (b : Bool) → Both packets x p xs ps w b → AreAtPlaces packets (places_by w xs ps) (packets_by w xs)
rest_at packets x p xs ps w true h = λ k q at. h (suc k) q at
rest_at packets x p xs ps w false h = h

-- what stands at each worker's places stands at all of them
pub at_each : (packets : List Packet) (xs : List Ordered) (ps : List ℕ) → length ps ≡ length xs → ((w : ℕ) → AreAtPlaces packets (places_by w xs ps) (packets_by w xs)) → AreAt packets xs ps
at_each packets [] [] e all = tt
at_each packets [] (p ∷ ps) e all = absurd (omega (arith, e))
at_each packets (x ∷ xs) [] e all = absurd (omega (arith, e))
at_each packets (x ∷ xs) (p ∷ ps) e all = (
  first_at packets x p xs ps x.seat (x.seat == x.seat) (eq-eqb x.seat x.seat refl) (all x.seat),
  at_each packets xs ps (omega (arith, e)) (λ w. rest_at packets x p xs ps w (x.seat == w) (all w)),
)

none_own : (workers w place : ℕ) (ps : List Packet) → 0 < workers → workers ≤ w → places_from workers w place ps ≡ []
none_own workers w place [] some le = refl
none_own workers w place (p ∷ ps) some le =
    let below = mod_below p.id.port workers some in
    ap (λ (b : Bool). if b then place ∷ places_from workers w (place + 1) ps else places_from workers w (place + 1) ps) (ne_eqb (worker_of workers p) w (λ e. absurd (omega (arith, below, le, e))))
    ∙ none_own workers w (place + 1) ps some le

no_items : {A : Type 0} (xs : List A) → length xs ≡ 0 → xs ≡ []
no_items [] e = refl
no_items (x ∷ xs) e = absurd (omega (arith, e))

pub handled_of : (f : Function) (workers : ℕ) (packets : List Packet) (own : List (List ℕ)) (order : List Ordered) (places : List ℕ) (t : TablesState) (s : State) → 0 < workers → AreDealt workers packets own → IsShared f packets own order t → length places ≡ length order
    → ((w : ℕ) (mine : List ℕ) → slice_get own w ≡ Some mine → places_by w order places ≡ mine) → s ≡ t.state → AreHandled f workers packets order places s
handled_of f workers packets own order places t s some dealt shared long by is = record {
  runs = subst (Runs f order) (sym is) shared.runs;
  at = at_each packets order places long (λ w. ⊎_elim (inside w) (outside w) (lt_or_le w (length own)));
  own = λ w. ⊎_elim (λ (lt : w < length own). let mine = some_at own w lt in by w mine.0 mine.1 ∙ dealt.each w mine.0 mine.1) (λ (le : length own ≤ w). none_by w le ∙ sym (none_own workers w 0 packets some (let m = dealt.many in omega (arith, le, m)))) (lt_or_le w (length own));
}
  where
    none_by : (w : ℕ) → length own ≤ w → places_by w order places ≡ []
    none_by w le = no_items (places_by w order places) (by_many w order places long ∙ sym (calls_many w order) ∙ ap (λ (cs : List Call). length cs) (shared.others w le))

    inside : (w : ℕ) → w < length own → AreAtPlaces packets (places_by w order places) (packets_by w order)
    inside w lt =
        let mine = some_at own w lt in
        subst (λ (z : List ℕ). AreAtPlaces packets z (packets_by w order)) (sym (by w mine.0 mine.1))
        (subst (AreAtPlaces packets mine.0) (calls_are w 0 order) (shared.each w mine.0 mine.1).at)

    outside : (w : ℕ) → length own ≤ w → AreAtPlaces packets (places_by w order places) (packets_by w order)
    outside w le =
        subst (AreAtPlaces packets (places_by w order places)) (ap packets_in (sym (shared.others w le)) ∙ calls_are w 0 order) (at_none packets (places_by w order places))

-- ---- one worker alone

all_own : (xs : List Ordered) → AllByRecursion (λ (x : Ordered). x.seat ≡ 0) xs → filter (λ (y : Ordered). y.seat == 0) xs ≡ xs
all_own [] h = refl
all_own (x ∷ xs) h =
    ap (λ (b : Bool). cond b (x ∷ filter (λ (y : Ordered). y.seat == 0) xs) (filter (λ (y : Ordered). y.seat == 0) xs)) (eq-eqb x.seat 0 h.0)
    ∙ ap (λ (ys : List Ordered). x ∷ ys) (all_own xs h.1)

none_other : (w : ℕ) (xs : List Ordered) → 1 ≤ w → AllByRecursion (λ (x : Ordered). x.seat ≡ 0) xs → filter (λ (y : Ordered). y.seat == w) xs ≡ []
none_other w [] le h = refl
none_other w (x ∷ xs) le h =
    ap (λ (b : Bool). cond b (x ∷ filter (λ (y : Ordered). y.seat == w) xs) (filter (λ (y : Ordered). y.seat == w) xs)) (ne_eqb x.seat w (λ e. let z = h.0 in absurd (omega (arith, e, z, le))))
    ∙ none_other w xs le h.1

by_recursion : (xs : List Ordered) → All (λ (x : Ordered). x.seat ≡ 0) xs → AllByRecursion (λ (x : Ordered). x.seat ≡ 0) xs
by_recursion [] h = tt
by_recursion (x ∷ xs) h = (h 0 x (omega arith), by_recursion xs (λ k d lt. h (suc k) d (omega (arith, lt))))

-- of one worker each packet is at its own place
places_one : (place : ℕ) (ps : List Packet) (k : ℕ) → k < length ps → slice_get (places_from 1 0 place ps) k ≡ Some (place + k)
places_one place [] k lt = absurd (omega (arith, lt))
places_one place (p ∷ ps) k lt =
    ap (λ (b : Bool). slice_get (if b then place ∷ places_from 1 0 (place + 1) ps else places_from 1 0 (place + 1) ps) k) (eq-eqb (worker_of 1 p) 0 (let m = mod_below p.id.port 1 (omega arith) in omega (arith, m)))
    ∙ at k lt (λ j less. places_one (place + 1) ps j less)
  where
    at : (k : ℕ) → k < length (p ∷ ps) → ((j : ℕ) → j < length ps → slice_get (places_from 1 0 (place + 1) ps) j ≡ Some (place + 1 + j)) → slice_get (place ∷ places_from 1 0 (place + 1) ps) k ≡ Some (place + k)
    at zero lt all = ap Some (omega arith)
    at (suc k) lt all = all k (omega (arith, lt)) ∙ ap Some (omega arith)

long_one : (place : ℕ) (ps : List Packet) → length (places_from 1 0 place ps) ≡ length ps
long_one place [] = refl
long_one place (p ∷ ps) =
    ap (λ (b : Bool). length (if b then place ∷ places_from 1 0 (place + 1) ps else places_from 1 0 (place + 1) ps)) (eq-eqb (worker_of 1 p) 0 (let m = mod_below p.id.port 1 (omega arith) in omega (arith, m)))
    ∙ ap suc (long_one (place + 1) ps)

pub alone_of : (f : Function) (packets : List Packet) (own : List (List ℕ)) (order : List Ordered) (t : TablesState) → AreDealt 1 packets own → Runs f order t.state → AreInOrder packets order → IsShared f packets own order t
alone_of f packets own order t dealt runs ordered =
    let zeros = by_recursion order ordered.alone in
    let mine : packets_by 0 order ≡ packets = ap (map (λ (x : Ordered). x.packet)) (all_own order zeros) ∙ ordered.all in
    record {
      runs = runs;
      each = λ w places at.
          let lt = slice_get_within own w places at in
          let many = dealt.many in
          let zero_is : w ≡ 0 = omega (arith, lt, many) in
          let is : places ≡ own_places 1 0 packets = dealt.each w places at ∙ ap (λ (v : ℕ). own_places 1 v packets) zero_is in
          record {
            at = subst (λ (v : ℕ). AreAtPlaces packets places (packets_in (calls_of v order))) (sym zero_is)
                (subst (AreAtPlaces packets places) (sym (calls_are 0 0 order ∙ mine))
                (subst (λ (z : List ℕ). AreAtPlaces packets z packets) (sym is) (λ k p here. (k, places_one 0 packets k (slice_get_within packets k p here) ∙ ap Some (omega arith), here))));
            all =
                ap (λ (v : ℕ). length (calls_of v order)) zero_is
                ∙ calls_many 0 order
                ∙ sym (length-map (filter (λ (y : Ordered). y.seat == 0) order) (λ (y : Ordered). y.packet))
                ∙ ap length mine
                ∙ sym (long_one 0 packets)
                ∙ ap length (sym is);
          };
      others = λ w le.
          no_items (calls_of w order) (calls_many w order ∙ ap length (none_other w order (let many = dealt.many in omega (arith, le, many)) zeros));
    }

-- a function's ports, as they are counted
pub counted : (func : Func) → length func.handlers ≡ length (function_of func).handlers
counted func = sym (length-map func.handlers blocks_of)
