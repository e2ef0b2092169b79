-- Paths that come to a test go on as those that it was told to, either way.
use Rattle.std.proofs.Common.{◌≡◌, ◌⊎◌, ◌<◌, ◌≤◌, arith, ℕ, Bool, true, false, List, [], ◌∷◌, ◌++◌, length, Contains, slice_set, Option, Some, None, if◌then◌else◌, refl, ap, sym, ◌∙◌, subst, inl, inr}
use Rattle.std.specs.List.{flat_map}
use Rattle.std.proofs.lemmas.Bool.{cases_eq, cases_lt}
use Rattle.std.proofs.lemmas.List.{length-set, get_or-set_same, get_or-set_other, set_past}
use Rattle.std.proofs.lemmas.List.Elements.{Contains-append_left, Contains-append_right, Contains-append_cases}
use Rattle.nf_base.specs.Paths.{Branch, Hits, Misses, Makes, IsTaken, IsFull}
use Rattle.nf_laws.proofs.Listed.{here, has, has_none, in_flat, from_flat}
use Rattle.path_walk.specs.declared.test.FieldIs.{FieldIs}
use Rattle.path_walk.specs.Tests.{TestText}
use Rattle.path_walk.specs.Feasible.{differ}
use Rattle.path_walk.specs.Trees.{Tree, Leaf, Free, Tested, Made, tree_map}
use Rattle.path_walk.specs.Known.{Marks, mark_at, excludes, with_number, told_mark}
use Rattle.path_walk.specs.Walks.{ahead, leaves}
use Rattle.path_walk.specs.Alike.{HaveSame}
use Rattle.path_walk.specs.Ahead.{number_in, ahead_of, all_ahead, one_if, is_way, behind_way, behind_test}
use Rattle.path_walk.proofs.Marking.{marks_of}
use Rattle.path_walk.proofs.Numbered.{bars, bars_is, bars_more, bars_free, told_swap}
use Rattle.path_walk.proofs.Ahead.{asked_of}
use Rattle.path_walk.proofs.Untold.{from_ahead, to_ahead, May, In, went, goes, text_is, Go, go, not_so, told_within}

-- as told that a test holds, where it may, or as told that it fails
abbrev Either : List TestText → Tree ℕ → ℕ → Marks → List Branch → Type 0
Either texts t n m x =
    ((excludes (text_is texts n) m ≡ false) × Contains (leaves texts t (told_mark m n (text_is texts n) true)) x)
    ⊎ Contains (leaves texts t (told_mark m n (text_is texts n) false)) x

-- one of two, on the way that a test goes
abbrev OneOf : Type 0 → List (List Branch) → List (List Branch) → List Branch → Type 0
OneOf P us vs x = (P × Contains us x) ⊎ Contains vs x

ahead_one : (P : Type 0) (b : Branch) (ps us vs : List (List Branch)) → ((y : List Branch) → Contains ps y → OneOf P us vs y) → (x : List Branch) → Contains (ahead b ps) x → OneOf P (ahead b us) (ahead b vs) x
ahead_one P b ps us vs h x i =
    let w = from_ahead b ps x i in
    elim (h w.0 w.1) [
      | inl p ↦ inl (p.0, subst (λ (z : List Branch). Contains (ahead b us) z) w.2 (to_ahead b us w.0 p.1))
      | inr q ↦ inr (subst (λ (z : List Branch). Contains (ahead b vs) z) w.2 (to_ahead b vs w.0 q))
    ]

join_one : (P : Type 0) (ps qs us vs us2 vs2 : List (List Branch)) (x : List Branch) → (Contains ps x → OneOf P us vs x) → (Contains qs x → OneOf P us2 vs2 x) → Contains (ps ++ qs) x → OneOf P (us ++ us2) (vs ++ vs2) x
join_one P ps qs us vs us2 vs2 x h k i = elim (Contains-append_cases ps qs x i) [
  | inl j ↦ elim (h j) [
    | inl p ↦ inl (p.0, Contains-append_left us us2 x p.1)
    | inr q ↦ inr (Contains-append_left vs vs2 x q)
  ]
  | inr j ↦ elim (k j) [
    | inl p ↦ inl (p.0, Contains-append_right us us2 x p.1)
    | inr q ↦ inr (Contains-append_right vs vs2 x q)
  ]
]

in_one : (P : Type 0) (e c : Bool) (ps qs us vs us2 vs2 : List (List Branch)) → ((y : List Branch) → Contains ps y → OneOf P us vs y) → ((y : List Branch) → Contains qs y → OneOf P us2 vs2 y) → (x : List Branch) → In e c ps qs x →
    (P × In e c us us2 x) ⊎ In e c vs vs2 x
in_one P e c ps qs us vs us2 vs2 h k x i = split (differ e c) i
  where
    split : (b : Bool) → Contains (if b then ahead Hits ps else ahead Misses qs) x →
        (P × Contains (if b then ahead Hits us else ahead Misses us2) x) ⊎ Contains (if b then ahead Hits vs else ahead Misses vs2) x
    split true i = ahead_one P Hits ps us vs h x i
    split false i = ahead_one P Misses qs us2 vs2 k x i

-- how another test goes on, and the test itself after it
record GoesOn (texts : List TestText) (n : ℕ) (m : Marks) (i : ℕ) (c : Bool) (k : Marks) : Type 0 where
  pub none : mark_at k n ≡ None
  pub within : n < length k.marks
  pub holds :
      excludes (text_is texts n) k ≡ false →
      (excludes (text_is texts n) m ≡ false) × Go texts (told_mark m n (text_is texts n) true) i c (told_mark k n (text_is texts n) true)
  pub fails : Go texts (told_mark m n (text_is texts n) false) i c (told_mark k n (text_is texts n) false)

unbarred : (o s : Option FieldIs) (ns : List (Option ℕ)) (d : Bool) → bars s ns ≡ d → bars s (with_number o ns) ≡ false → bars o ns ≡ false → d ≡ false
unbarred o s ns true a free fit = let p = bars_more o s ns a fit in cc
unbarred o s ns false a free fit = refl

goes_on : (texts : List TestText) (n : ℕ) (m : Marks) (i : ℕ) (c : Bool) (k : Marks) → (i ≡ n → ⊥) → mark_at m n ≡ None → n < length m.marks → Go texts m i c k → GoesOn texts n m i c k
goes_on texts n m i c k apart none h g = split (mark_at m i) (excludes (text_is texts i) m) refl refl c k g refl
  where
    at : (b : Bool) → mark_at (told_mark m n (text_is texts n) b) i ≡ mark_at m i
    at b = get_or-set_other m.marks n i (Some b) None apart

    none_on : (d : Bool) → mark_at (told_mark m i (text_is texts i) d) n ≡ None
    none_on d = get_or-set_other m.marks i n (Some d) None (λ e. apart (sym e)) ∙ none

    within_on : (d : Bool) → n < length (slice_set m.marks i (Some d))
    within_on d = let e = length-set m.marks i (Some d) in omega arith

    swap : (d b : Bool) → (d ≡ true → b ≡ true → bars (text_is texts n) (with_number (text_is texts i) m.numbers) ≡ false) →
        told_mark (told_mark m i (text_is texts i) d) n (text_is texts n) b ≡ told_mark (told_mark m n (text_is texts n) b) i (text_is texts i) d
    swap d b f = told_swap m i n (text_is texts i) (text_is texts n) d b apart f

    -- nothing is known of a field where a test fails
    same : (o p : ℕ) (d : Bool) → excludes (text_is texts o) m ≡ d → excludes (text_is texts o) (told_mark m p (text_is texts p) false) ≡ d
    same o p d e = bars_is (text_is texts o) (told_mark m p (text_is texts p) false) ∙ sym (bars_is (text_is texts o) m) ∙ e

    back : (o p : ℕ) → excludes (text_is texts o) (told_mark m p (text_is texts p) false) ≡ false → excludes (text_is texts o) m ≡ false
    back o p e = bars_is (text_is texts o) m ∙ sym (bars_is (text_is texts o) (told_mark m p (text_is texts p) false)) ∙ e

    missing : (e : mark_at m i ≡ None) (k : Marks) → k ≡ told_mark m i (text_is texts i) false →
        (holds : excludes (text_is texts n) m ≡ false → Go texts (told_mark m n (text_is texts n) true) i c (told_mark (told_mark m i (text_is texts i) false) n (text_is texts n) true)) →
        Go texts (told_mark m n (text_is texts n) false) i c (told_mark (told_mark m i (text_is texts i) false) n (text_is texts n) false) → GoesOn texts n m i c k
    missing e k q holds fails = subst (λ (z : Marks). GoesOn texts n m i c z) (sym q) (record {
      none = none_on false;
      within = within_on false;
      holds = λ x. let y = back n i x in (y, holds y);
      fails = fails;
    })

    -- with a mark
    marked : (d : Bool) → mark_at m i ≡ Some d → (k : Marks) → c ≡ d → k ≡ m → GoesOn texts n m i c k
    marked d e k q r = subst (λ (z : Marks). GoesOn texts n m i c z) (sym r) (record {
      none = none;
      within = h;
      holds = λ x. (x, go texts (told_mark m n (text_is texts n) true) i c (told_mark m n (text_is texts n) true) (Some d) (excludes (text_is texts i) (told_mark m n (text_is texts n) true)) (at true ∙ e) refl (q, refl));
      fails = go texts (told_mark m n (text_is texts n) false) i c (told_mark m n (text_is texts n) false) (Some d) (excludes (text_is texts i) (told_mark m n (text_is texts n) false)) (at false ∙ e) refl (q, refl);
    })

    -- where its field is another number
    barred : mark_at m i ≡ None → excludes (text_is texts i) m ≡ true → (k : Marks) → c ≡ false → k ≡ told_mark m i (text_is texts i) false → GoesOn texts n m i c k
    barred e x k q r = missing e k r
        (λ y.
        let o = text_is texts i in
        let s = text_is texts n in
        let z : excludes o (told_mark m n s true) ≡ true =
        bars_is o (told_mark m n s true) ∙ bars_more s o m.numbers (sym (bars_is o m) ∙ x) (sym (bars_is s m) ∙ y) in
        go texts (told_mark m n s true) i c (told_mark (told_mark m i o false) n s true) None true (at true ∙ e) z (q, swap false true (λ a. absurd (not_so a))))
        (go texts (told_mark m n (text_is texts n) false) i c (told_mark (told_mark m i (text_is texts i) false) n (text_is texts n) false) None true (at false ∙ e) (same i n true x) (q, swap false false (λ a. absurd (not_so a))))

    -- where it may go either way, and fails
    whether : mark_at m i ≡ None → c ≡ false → (d : Bool) → excludes (text_is texts i) (told_mark m n (text_is texts n) true) ≡ d → Go texts (told_mark m n (text_is texts n) true) i c (told_mark (told_mark m i (text_is texts i) false) n (text_is texts n) true)
    whether e q true z = go texts (told_mark m n (text_is texts n) true) i c (told_mark (told_mark m i (text_is texts i) false) n (text_is texts n) true) None true (at true ∙ e) z (q, swap false true (λ a. absurd (not_so a)))
    whether e q false z = go texts (told_mark m n (text_is texts n) true) i c (told_mark (told_mark m i (text_is texts i) false) n (text_is texts n) true) None false (at true ∙ e) z
        (swap false true (λ a. absurd (not_so a)) ∙ ap (told_mark (told_mark m n (text_is texts n) true) i (text_is texts i)) (sym q))

    failed : mark_at m i ≡ None → excludes (text_is texts i) m ≡ false → (k : Marks) → c ≡ false → k ≡ told_mark m i (text_is texts i) false → GoesOn texts n m i c k
    failed e x k q r = missing e k r
        (λ y. whether e q (excludes (text_is texts i) (told_mark m n (text_is texts n) true)) refl)
        (go texts (told_mark m n (text_is texts n) false) i c (told_mark (told_mark m i (text_is texts i) false) n (text_is texts n) false) None false (at false ∙ e) (same i n false x)
        (swap false false (λ a. absurd (not_so a)) ∙ ap (told_mark (told_mark m n (text_is texts n) false) i (text_is texts i)) (sym q)))

    -- and holds
    held : mark_at m i ≡ None → excludes (text_is texts i) m ≡ false → (k : Marks) → c ≡ true → k ≡ told_mark m i (text_is texts i) true → GoesOn texts n m i c k
    held e x k q r = subst (λ (z : Marks). GoesOn texts n m i c z) (sym r) (record {
      none = none_on true;
      within = within_on true;
      holds = λ y.
          let o = text_is texts i in
          let s = text_is texts n in
          let free : bars s (with_number o m.numbers) ≡ false = sym (bars_is s (told_mark m i o true)) ∙ y in
          let fit : bars o m.numbers ≡ false = sym (bars_is o m) ∙ x in
          let z : excludes o (told_mark m n s true) ≡ false = bars_is o (told_mark m n s true) ∙ bars_free s o m.numbers free fit in (
            bars_is s m ∙ unbarred o s m.numbers (bars s m.numbers) refl free fit,
            go texts (told_mark m n s true) i c (told_mark (told_mark m i o true) n s true) None false (at true ∙ e) z
                (swap true true (λ a b. free) ∙ ap (told_mark (told_mark m n s true) i o) (sym q)),
          );
      fails = go texts (told_mark m n (text_is texts n) false) i c (told_mark (told_mark m i (text_is texts i) true) n (text_is texts n) false) None false (at false ∙ e) (same i n false x)
          (swap true false (λ a b. absurd (not_so b)) ∙ ap (told_mark (told_mark m n (text_is texts n) false) i (text_is texts i)) (sym q));
    })

    split : (mark : Option Bool) (a : Bool) → mark_at m i ≡ mark → excludes (text_is texts i) m ≡ a → (d : Bool) (k : Marks) →
        May mark a m (told_mark m i (text_is texts i)) d k → d ≡ c → GoesOn texts n m i c k
    split (Some b) a e x d k w q = marked b e k (sym q ∙ w.0) w.1
    split None true e x d k w q = barred e x k (sym q ∙ w.0) w.1
    split None false e x true k w q = held e x k (sym q) w
    split None false e x false k w q = failed e x k (sym q) w

-- the test itself
own : (texts : List TestText) (n : ℕ) (m : Marks) (e : Bool) (hit miss : Tree ℕ) (c : Bool) (k : Marks) (x : List Branch) → mark_at m n ≡ None → n < length m.marks → Go texts m n c k →
    In e c (leaves texts hit k) (leaves texts miss k) x → Either texts (Tested n e hit miss) n m x
own texts n m e hit miss c k x none h g i =
    split (excludes (text_is texts n) m) refl c k (subst (λ (o : Option Bool). May o (excludes (text_is texts n) m) m (told_mark m n (text_is texts n)) c k) none g) i
  where
    on : (b c : Bool) (k : Marks) → c ≡ b → k ≡ told_mark m n (text_is texts n) b → In e c (leaves texts hit k) (leaves texts miss k) x → Contains (leaves texts (Tested n e hit miss) (told_mark m n (text_is texts n) b)) x
    on b c k q r i =
        let l = told_mark m n (text_is texts n) b in
        goes e (mark_at l n) (excludes (text_is texts n) l) l (told_mark l n (text_is texts n)) (leaves texts hit) (leaves texts miss) x c k
        (go texts l n c k (Some b) (excludes (text_is texts n) l) (get_or-set_same m.marks n (Some b) None h) refl (q, r)) i

    split : (a : Bool) → excludes (text_is texts n) m ≡ a → (c : Bool) (k : Marks) → May None a m (told_mark m n (text_is texts n)) c k → In e c (leaves texts hit k) (leaves texts miss k) x → Either texts (Tested n e hit miss) n m x
    split true y c k w i = inr (on false c k w.0 w.1 i)
    split false y true k w i = inl (y, on true true k refl w i)
    split false y false k w i = inr (on false false k refl w i)

within_either : (texts : List TestText) (n : ℕ) (t : Tree ℕ) (m : Marks) (x : List Branch) → mark_at m n ≡ None → n < length m.marks → Contains (leaves texts t m) x → Either texts t n m x
within_either texts n Leaf m x none h i = inr i
within_either texts n (Free hit miss) m x none h i =
    let s = text_is texts n in
    let y = told_mark m n s true in
    let z = told_mark m n s false in
    let P = excludes s m ≡ false in
    join_one P (ahead Hits (leaves texts hit m)) (ahead Misses (leaves texts miss m)) (ahead Hits (leaves texts hit y)) (ahead Hits (leaves texts hit z)) (ahead Misses (leaves texts miss y)) (ahead Misses (leaves texts miss z)) x
    (ahead_one P Hits (leaves texts hit m) (leaves texts hit y) (leaves texts hit z) (λ v j. within_either texts n hit m v none h j) x)
    (ahead_one P Misses (leaves texts miss m) (leaves texts miss y) (leaves texts miss z) (λ v j. within_either texts n miss m v none h j) x) i
within_either texts n (Tested i e hit miss) m x none h j =
    let s = text_is texts n in
    let w = went e (mark_at m i) (excludes (text_is texts i) m) m (told_mark m i (text_is texts i)) (leaves texts hit) (leaves texts miss) x j in
    elim (cases_eq i n) [
      | inl q ↦ subst (λ (z : ℕ). Either texts (Tested z e hit miss) n m x) (sym q)
          (own texts n m e hit miss w.0 w.1 x none h (subst (λ (z : ℕ). Go texts m z w.0 w.1) q w.2) w.3)
      | inr q ↦
          let y = told_mark m n s true in
          let z = told_mark m n s false in
          let yk = told_mark w.1 n s true in
          let zk = told_mark w.1 n s false in
          let g = goes_on texts n m i w.0 w.1 q none h w.2 in
          elim (in_one (excludes s w.1 ≡ false) e w.0 (leaves texts hit w.1) (leaves texts miss w.1) (leaves texts hit yk) (leaves texts hit zk) (leaves texts miss yk) (leaves texts miss zk)
          (λ v l. within_either texts n hit w.1 v g.none g.within l) (λ v l. within_either texts n miss w.1 v g.none g.within l) x w.3) [
            | inl p ↦ let r = g.holds p.0 in inl (r.0, goes e (mark_at y i) (excludes (text_is texts i) y) y (told_mark y i (text_is texts i)) (leaves texts hit) (leaves texts miss) x w.0 yk r.1 p.1)
            | inr p ↦ inr (goes e (mark_at z i) (excludes (text_is texts i) z) z (told_mark z i (text_is texts i)) (leaves texts hit) (leaves texts miss) x w.0 zk g.fails p)
          ]
    ]
within_either texts n (Made made taken full) m x none h i =
    let s = text_is texts n in
    let y = told_mark m n s true in
    let z = told_mark m n s false in
    let P = excludes s m ≡ false in
    join_one P (ahead Makes (leaves texts made m)) (ahead IsTaken (leaves texts taken m) ++ ahead IsFull (leaves texts full m))
    (ahead Makes (leaves texts made y)) (ahead Makes (leaves texts made z)) (ahead IsTaken (leaves texts taken y) ++ ahead IsFull (leaves texts full y)) (ahead IsTaken (leaves texts taken z) ++ ahead IsFull (leaves texts full z)) x
    (ahead_one P Makes (leaves texts made m) (leaves texts made y) (leaves texts made z) (λ v j. within_either texts n made m v none h j) x)
    (join_one P (ahead IsTaken (leaves texts taken m)) (ahead IsFull (leaves texts full m)) (ahead IsTaken (leaves texts taken y)) (ahead IsTaken (leaves texts taken z)) (ahead IsFull (leaves texts full y)) (ahead IsFull (leaves texts full z)) x
    (ahead_one P IsTaken (leaves texts taken m) (leaves texts taken y) (leaves texts taken z) (λ v j. within_either texts n taken m v none h j) x)
    (ahead_one P IsFull (leaves texts full m) (leaves texts full y) (leaves texts full z) (λ v j. within_either texts n full m v none h j) x)) i

either_way : (texts : List TestText) (n : ℕ) (t : Tree ℕ) (m : Marks) (x : List Branch) → mark_at m n ≡ None → Contains (leaves texts t m) x → Either texts t n m x
either_way texts n t m x none i = elim (cases_lt n (length m.marks)) [
  | inl h ↦ within_either texts n t m x none h i
  | inr h ↦
      let k : length m.marks ≤ n = omega arith in
      let e : told_mark m n (text_is texts n) false ≡ m = ap (λ ms. marks_of ms m.numbers) (set_past m.marks n (Some false) k) in
      inr (subst (λ (z : Marks). Contains (leaves texts t z) x) (sym e) i)
]

-- what is known behind a test, by the way that it goes
own_way : (b : Bool) (m : Marks) → Contains (one_if (is_way b b) m) m
own_way true m = here m []
own_way false m = here m []

in_if : (b : Bool) (m k : Marks) → Contains (one_if b m) k → m ≡ k
in_if true m k i = elim (has m [] k i) [ inl e ↦ e | inr j ↦ absurd (has_none k j) ]
in_if false m k i = absurd (has_none k i)

differ_twice : (e b : Bool) → differ e (differ e b) ≡ b
differ_twice true true = refl
differ_twice true false = refl
differ_twice false b = refl

abbrev Behind : List TestText → ℕ → Bool → Bool → Marks → Marks → Type 0
Behind texts n e way m k = Contains (behind_way e way (mark_at m n) (excludes (text_is texts n) m) m (told_mark m n (text_is texts n))) k

forth : (texts : List TestText) (n : ℕ) (e : Bool) (t : Tree ℕ) (m : Marks) (x : List Branch) → Contains (leaves texts t m) x → (way : Bool) × (k : Marks) × Behind texts n e way m k × Contains (leaves texts t k) x
forth texts n e t m x i = split (mark_at m n) (excludes (text_is texts n) m) refl refl
  where
    split : (mark : Option Bool) (a : Bool) → mark_at m n ≡ mark → excludes (text_is texts n) m ≡ a →
        (way : Bool) × (k : Marks) × Contains (behind_way e way mark a m (told_mark m n (text_is texts n))) k × Contains (leaves texts t k) x
    split (Some b) a q y = (differ e b, m, own_way (differ e b) m, i)
    split None true q y = elim (either_way texts n t m x q i) [
      | inl p ↦ let z = p.0 in cc
      | inr p ↦ (differ e false, told_mark m n (text_is texts n) false, own_way (differ e false) (told_mark m n (text_is texts n) false), p)
    ]
    split None false q y = elim (either_way texts n t m x q i) [
      | inl p ↦ (differ e true, told_mark m n (text_is texts n) true, subst (λ (b : Bool). Contains (told_mark m n (text_is texts n) b ∷ []) (told_mark m n (text_is texts n) true)) (sym (differ_twice e true)) (here (told_mark m n (text_is texts n) true) []), p.1)
      | inr p ↦ (differ e false, told_mark m n (text_is texts n) false, subst (λ (b : Bool). Contains (told_mark m n (text_is texts n) b ∷ []) (told_mark m n (text_is texts n) false)) (sym (differ_twice e false)) (here (told_mark m n (text_is texts n) false) []), p)
    ]

back : (texts : List TestText) (n : ℕ) (e : Bool) (t : Tree ℕ) (m : Marks) (x : List Branch) (way : Bool) (k : Marks) → Behind texts n e way m k → Contains (leaves texts t k) x → Contains (leaves texts t m) x
back texts n e t m x way k b i = split (mark_at m n) (excludes (text_is texts n) m) refl refl b
  where
    split : (mark : Option Bool) (a : Bool) → mark_at m n ≡ mark → excludes (text_is texts n) m ≡ a → Contains (behind_way e way mark a m (told_mark m n (text_is texts n))) k → Contains (leaves texts t m) x
    split (Some d) a q y b = subst (λ (z : Marks). Contains (leaves texts t z) x) (sym (in_if (is_way way (differ e d)) m k b)) i
    split None true q y b =
        let r = in_if (is_way way (differ e false)) (told_mark m n (text_is texts n) false) k b in
        told_within texts t m n false q (λ z. absurd (not_so z)) x (subst (λ (z : Marks). Contains (leaves texts t z) x) (sym r) i)
    split None false q y b =
        let r = in_if true (told_mark m n (text_is texts n) (differ e way)) k b in
        told_within texts t m n (differ e way) q (λ z. y) x (subst (λ (z : Marks). Contains (leaves texts t z) x) (sym r) i)

abbrev behind_asked : List TestText → TestText → Bool → Bool → Marks → List Marks
behind_asked texts x e way = behind_test (asked_of texts x e) way

-- the paths that come to a test go on as those behind it
pub test_untold : (texts : List TestText) (x : TestText) (e : Bool) (t : Tree TestText) (ms : List Marks) →
    HaveSame (all_ahead texts t ms) (all_ahead texts t (flat_map (behind_test (asked_of texts x e) true) ms) ++ all_ahead texts t (flat_map (behind_test (asked_of texts x e) false) ms))
test_untold texts x e t ms = record {
  forth = λ y i.
      let w = from_flat (ahead_of texts t) ms y i in
      let v = forth texts (number_in texts x) e (tree_map (number_in texts) t) w.0 y w.2 in
      put v.0 y (in_flat (ahead_of texts t) (flat_map (behind_asked texts x e v.0) ms) v.1 y (in_flat (behind_asked texts x e v.0) ms w.0 v.1 w.1 v.2) v.3);
  back = λ y i. elim (Contains-append_cases (all_ahead texts t (flat_map (behind_asked texts x e true) ms)) (all_ahead texts t (flat_map (behind_asked texts x e false) ms)) y i) [
    | inl j ↦ from true y j
    | inr j ↦ from false y j
  ];
}
  where
    put : (way : Bool) (y : List Branch) → Contains (all_ahead texts t (flat_map (behind_asked texts x e way) ms)) y → Contains (all_ahead texts t (flat_map (behind_asked texts x e true) ms) ++ all_ahead texts t (flat_map (behind_asked texts x e false) ms)) y
    put true y i = Contains-append_left (all_ahead texts t (flat_map (behind_asked texts x e true) ms)) (all_ahead texts t (flat_map (behind_asked texts x e false) ms)) y i
    put false y i = Contains-append_right (all_ahead texts t (flat_map (behind_asked texts x e true) ms)) (all_ahead texts t (flat_map (behind_asked texts x e false) ms)) y i

    from : (way : Bool) (y : List Branch) → Contains (all_ahead texts t (flat_map (behind_asked texts x e way) ms)) y → Contains (all_ahead texts t ms) y
    from way y i =
        let w = from_flat (ahead_of texts t) (flat_map (behind_asked texts x e way) ms) y i in
        let v = from_flat (behind_asked texts x e way) ms w.0 w.1 in
        in_flat (ahead_of texts t) ms v.0 y v.1 (back texts (number_in texts x) e (tree_map (number_in texts) t) v.0 y way w.0 v.2 w.2)
