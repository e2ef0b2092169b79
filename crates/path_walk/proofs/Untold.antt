-- What a test says may stay untold: paths go on as those do of which it was told.
use Rattle.std.proofs.Common.{◌≡◌, ◌⊎◌, ◌<◌, ◌≤◌, arith, ℕ, Bool, true, false, not, List, [], ◌∷◌, ◌++◌, length, Contains, slice_set, Option, Some, None, if◌then◌else◌, refl, ap, sym, ◌∙◌, subst, inl, inr}
use Rattle.std.proofs.lemmas.Bool.{cases_eq, cases_lt}
use Rattle.std.proofs.lemmas.List.{length-set, get_or-set_same, get_or-set_other, set_past}
use Rattle.std.proofs.lemmas.List.Elements.{Contains-append_left, Contains-append_right, Contains-append_cases}
use Rattle.nf_base.specs.Paths.{Branch, Hits, Misses, Makes, IsTaken, IsFull}
use Rattle.nf_laws.proofs.Listed.{here, there, has, has_none}
use Rattle.path_walk.specs.declared.test.FieldIs.{FieldIs}
use Rattle.path_walk.specs.Tests.{TestText}
use Rattle.path_walk.specs.Feasible.{differ, equals_of}
use Rattle.path_walk.specs.Trees.{Tree, Leaf, Free, Tested, Made}
use Rattle.path_walk.specs.Numbering.{text_at}
use Rattle.path_walk.specs.Known.{Marks, mark_at, excludes, with_number, told_mark}
use Rattle.path_walk.specs.Walks.{ahead, one_way, tested, leaves}
use Rattle.path_walk.proofs.Marking.{marks_of}
use Rattle.path_walk.proofs.Numbered.{bars, bars_is, set_swap, bars_more, bars_free, bars_itself, number_twice, number_swap}

-- paths behind a branch
pub from_ahead : (b : Branch) (ps : List (List Branch)) (x : List Branch) → Contains (ahead b ps) x → (y : List Branch) × Contains ps y × (b ∷ y ≡ x)
from_ahead b [] x i = absurd (has_none x i)
from_ahead b (p ∷ ps) x i = elim (has (b ∷ p) (ahead b ps) x i) [
  | inl q ↦ (p, here p ps, q)
  | inr j ↦ let w = from_ahead b ps x j in (w.0, there p ps w.0 w.1, w.2)
]

pub to_ahead : (b : Branch) (ps : List (List Branch)) (y : List Branch) → Contains ps y → Contains (ahead b ps) (b ∷ y)
to_ahead b [] y i = absurd (has_none y i)
to_ahead b (p ∷ ps) y i = elim (has p ps y i) [
  | inl q ↦ subst (λ (z : List Branch). Contains (ahead b (p ∷ ps)) (b ∷ z)) q (here (b ∷ p) (ahead b ps))
  | inr j ↦ there (b ∷ p) (ahead b ps) (b ∷ y) (to_ahead b ps y j)
]

abbrev pub Within : List (List Branch) → List (List Branch) → Type 0
Within ps qs = (y : List Branch) → Contains ps y → Contains qs y

ahead_more : (b : Branch) (ps qs : List (List Branch)) → Within ps qs → Within (ahead b ps) (ahead b qs)
ahead_more b ps qs h x i =
    let w = from_ahead b ps x i in subst (λ (z : List Branch). Contains (ahead b qs) z) w.2 (to_ahead b qs w.0 (h w.0 w.1))

join_more : (ps qs us vs : List (List Branch)) → Within ps us → Within qs vs → Within (ps ++ qs) (us ++ vs)
join_more ps qs us vs h k x i = elim (Contains-append_cases ps qs x i) [
  | inl j ↦ Contains-append_left us vs x (h x j)
  | inr j ↦ Contains-append_right us vs x (k x j)
]

-- how a test may go, with what is known then
abbrev pub May : Option Bool → Bool → Marks → (Bool → Marks) → Bool → Marks → Type 0
May (Some b) other m told c k = (c ≡ b) × (k ≡ m)
May None true m told c k = (c ≡ false) × (k ≡ told false)
May None false m told c k = k ≡ told c

abbrev pub In : Bool → Bool → List (List Branch) → List (List Branch) → List Branch → Type 0
In e c hits misses x = Contains (one_way e c (ahead Hits hits) (ahead Misses misses)) x

abbrev pub Leaves : Type 0
Leaves = Marks → List (List Branch)

abbrev pub both : Bool → Option Bool → Bool → Marks → (Bool → Marks) → Leaves → Leaves → List (List Branch)
both e mark other m told f g = tested e mark other m told (λ k. ahead Hits (f k)) (λ k. ahead Misses (g k))

differ_not : (e : Bool) → differ e (not e) ≡ true
differ_not true = refl
differ_not false = refl

differ_itself : (e : Bool) → differ e e ≡ false
differ_itself true = refl
differ_itself false = refl

pub went : (e : Bool) (mark : Option Bool) (other : Bool) (m : Marks) (told : Bool → Marks) (f g : Leaves) (x : List Branch) → Contains (both e mark other m told f g) x →
    (c : Bool) × (k : Marks) × May mark other m told c k × In e c (f k) (g k) x
went e (Some b) other m told f g x i = (b, m, (refl, refl), i)
went e None true m told f g x i = (false, told false, (refl, refl), i)
went e None false m told f g x i = elim (Contains-append_cases (ahead Hits (f (told (not e)))) (ahead Misses (g (told e))) x i) [
  | inl j ↦ (not e, told (not e), refl, subst (λ (b : Bool). Contains (if b then ahead Hits (f (told (not e))) else ahead Misses (g (told (not e)))) x) (sym (differ_not e)) j)
  | inr j ↦ (e, told e, refl, subst (λ (b : Bool). Contains (if b then ahead Hits (f (told e)) else ahead Misses (g (told e))) x) (sym (differ_itself e)) j)
]

pub goes : (e : Bool) (mark : Option Bool) (other : Bool) (m : Marks) (told : Bool → Marks) (f g : Leaves) (x : List Branch) (c : Bool) (k : Marks) → May mark other m told c k → In e c (f k) (g k) x → Contains (both e mark other m told f g) x
goes e (Some b) other m told f g x c k w i =
    subst (λ (d : Bool). In e d (f m) (g m) x) w.0 (subst (λ (y : Marks). In e c (f y) (g y) x) w.1 i)
goes e None true m told f g x c k w i =
    subst (λ (d : Bool). In e d (f (told false)) (g (told false)) x) w.0 (subst (λ (y : Marks). In e c (f y) (g y) x) w.1 i)
goes e None false m told f g x c k w i = split e c (subst (λ (y : Marks). In e c (f y) (g y) x) w i)
  where
    split : (e c : Bool) → In e c (f (told c)) (g (told c)) x → Contains (ahead Hits (f (told (not e))) ++ ahead Misses (g (told e))) x
    split true true i = Contains-append_right (ahead Hits (f (told false))) (ahead Misses (g (told true))) x i
    split true false i = Contains-append_left (ahead Hits (f (told false))) (ahead Misses (g (told true))) x i
    split false true i = Contains-append_left (ahead Hits (f (told true))) (ahead Misses (g (told false))) x i
    split false false i = Contains-append_right (ahead Hits (f (told true))) (ahead Misses (g (told false))) x i

-- on the way that a test goes
in_more : (e c : Bool) (ps qs us vs : List (List Branch)) → Within ps us → Within qs vs → (x : List Branch) → In e c ps qs x → In e c us vs x
in_more e c ps qs us vs h k x i = split (differ e c) i
  where
    split : (b : Bool) → Contains (if b then ahead Hits ps else ahead Misses qs) x → Contains (if b then ahead Hits us else ahead Misses vs) x
    split true i = ahead_more Hits ps us h x i
    split false i = ahead_more Misses qs vs k x i

abbrev pub text_is : List TestText → ℕ → Option FieldIs
text_is texts n = equals_of (text_at texts n)

abbrev pub Go : List TestText → Marks → ℕ → Bool → Marks → Type 0
Go texts m n c k = May (mark_at m n) (excludes (text_is texts n) m) m (told_mark m n (text_is texts n)) c k

pub go : (texts : List TestText) (m : Marks) (n : ℕ) (c : Bool) (k : Marks) (mark : Option Bool) (other : Bool) → mark_at m n ≡ mark → excludes (text_is texts n) m ≡ other →
    May mark other m (told_mark m n (text_is texts n)) c k → Go texts m n c k
go texts m n c k mark other e o w =
    subst (λ (b : Option Bool). May b (excludes (text_is texts n) m) m (told_mark m n (text_is texts n)) c k) (sym e)
    (subst (λ (b : Bool). May mark b m (told_mark m n (text_is texts n)) c k) (sym o) w)

-- Where whatever is known goes ways that something else goes too, its paths are among those of that.
abbrev Steps : List TestText → (Marks → Marks → Type 0) → Type 0
Steps texts R = (m l : Marks) (n : ℕ) (c : Bool) (k : Marks) → R m l → Go texts l n c k → (j : Marks) × Go texts m n c j × R j k

among : (texts : List TestText) (R : Marks → Marks → Type 0) → Steps texts R → (t : Tree ℕ) (m l : Marks) → R m l → Within (leaves texts t l) (leaves texts t m)
among texts R s Leaf m l r x i = i
among texts R s (Free hit miss) m l r x i =
    join_more (ahead Hits (leaves texts hit l)) (ahead Misses (leaves texts miss l)) (ahead Hits (leaves texts hit m)) (ahead Misses (leaves texts miss m))
    (ahead_more Hits (leaves texts hit l) (leaves texts hit m) (among texts R s hit m l r))
    (ahead_more Misses (leaves texts miss l) (leaves texts miss m) (among texts R s miss m l r)) x i
among texts R s (Tested n e hit miss) m l r x i =
    let w = went e (mark_at l n) (excludes (text_is texts n) l) l (told_mark l n (text_is texts n)) (leaves texts hit) (leaves texts miss) x i in
    let j = s m l n w.0 w.1 r w.2 in
    goes e (mark_at m n) (excludes (text_is texts n) m) m (told_mark m n (text_is texts n)) (leaves texts hit) (leaves texts miss) x w.0 j.0 j.1
    (in_more e w.0 (leaves texts hit w.1) (leaves texts miss w.1) (leaves texts hit j.0) (leaves texts miss j.0)
    (among texts R s hit j.0 w.1 j.2) (among texts R s miss j.0 w.1 j.2) x w.3)
among texts R s (Made made taken full) m l r x i =
    join_more (ahead Makes (leaves texts made l)) (ahead IsTaken (leaves texts taken l) ++ ahead IsFull (leaves texts full l))
    (ahead Makes (leaves texts made m)) (ahead IsTaken (leaves texts taken m) ++ ahead IsFull (leaves texts full m))
    (ahead_more Makes (leaves texts made l) (leaves texts made m) (among texts R s made m l r))
    (join_more (ahead IsTaken (leaves texts taken l)) (ahead IsFull (leaves texts full l)) (ahead IsTaken (leaves texts taken m)) (ahead IsFull (leaves texts full m))
    (ahead_more IsTaken (leaves texts taken l) (leaves texts taken m) (among texts R s taken m l r))
    (ahead_more IsFull (leaves texts full l) (leaves texts full m) (among texts R s full m l r))) x i

-- a field is known to be a number besides
abbrev with_field : Option FieldIs → Marks → Marks
with_field o m = marks_of m.marks (with_number o m.numbers)

abbrev KnowsField : Option FieldIs → Marks → Marks → Type 0
KnowsField o m l = (bars o m.numbers ≡ false) × (l ≡ with_field o m)

field_steps : (texts : List TestText) (o : Option FieldIs) → Steps texts (KnowsField o)
field_steps texts o m l n c k r g =
    let f = text_is texts n in
    let w = subst (λ (z : Marks). Go texts z n c k) r.1 g in
    split (mark_at m n) (excludes f m) (excludes f (with_field o m)) refl refl refl c k w
  where
    split : (mark : Option Bool) (a b : Bool) → mark_at m n ≡ mark → excludes (text_is texts n) m ≡ a → excludes (text_is texts n) (with_field o m) ≡ b → (c : Bool) (k : Marks) →
        May mark b (with_field o m) (told_mark (with_field o m) n (text_is texts n)) c k → (j : Marks) × Go texts m n c j × KnowsField o j k
    split (Some d) a b e x y c k w = (m, go texts m n c m (Some d) a e x (w.0, refl), (r.0, w.1))
    split None true true e x y c k w = (told_mark m n (text_is texts n) false, go texts m n c (told_mark m n (text_is texts n) false) None true e x (w.0, refl), (r.0, w.1))
    split None true false e x y c k w =
        let p = bars_more o (text_is texts n) m.numbers (sym (bars_is (text_is texts n) m) ∙ x) r.0 in
        let q : bars (text_is texts n) (with_number o m.numbers) ≡ false = sym (bars_is (text_is texts n) (with_field o m)) ∙ y in cc
    split None false true e x y true k w = let q = w.0 in cc
    split None false true e x y false k w = (told_mark m n (text_is texts n) false, go texts m n false (told_mark m n (text_is texts n) false) None false e x refl, (r.0, w.1))
    split None false false e x y false k w = (told_mark m n (text_is texts n) false, go texts m n false (told_mark m n (text_is texts n) false) None false e x refl, (r.0, w))
    split None false false e x y true k w =
        let f = text_is texts n in
        let q : bars f (with_number o m.numbers) ≡ false = sym (bars_is f (with_field o m)) ∙ y in (
          told_mark m n f true,
          go texts m n true (told_mark m n f true) None false e x refl,
          (bars_free f o m.numbers q r.0, w ∙ ap (marks_of (slice_set m.marks n (Some true))) (number_swap f o m.numbers q)),
        )

-- a test has a mark besides, which says nothing that isn't known of its field
pub record KnowsMark (texts : List TestText) (n : ℕ) (b : Bool) (m l : Marks) : Type 0 where
  pub none : mark_at m n ≡ None
  pub within : n < length m.marks
  pub is : l ≡ marks_of (slice_set m.marks n (Some b)) m.numbers
  pub free : b ≡ true → bars (text_is texts n) m.numbers ≡ false
  pub known : b ≡ true → with_number (text_is texts n) m.numbers ≡ m.numbers

abbrev HasMark : List TestText → ℕ → Bool → Marks → Marks → Type 0
HasMark texts n b m l = (l ≡ m) ⊎ KnowsMark texts n b m l

told_known : (texts : List TestText) (n : ℕ) (b : Bool) (m l : Marks) → KnowsMark texts n b m l → told_mark m n (text_is texts n) b ≡ l
told_known texts n true m l r = ap (marks_of (slice_set m.marks n (Some true))) (r.known refl) ∙ sym r.is
told_known texts n false m l r = sym r.is

-- its own test
own_step : (texts : List TestText) (n : ℕ) (b : Bool) (m l : Marks) (c : Bool) (k : Marks) → KnowsMark texts n b m l → Go texts l n c k → (j : Marks) × Go texts m n c j × HasMark texts n b j k
own_step texts n b m l c k r g =
    let at : mark_at l n ≡ Some b = ap (λ (z : Marks). mark_at z n) r.is ∙ get_or-set_same m.marks n (Some b) None r.within in
    let w : May (Some b) (excludes (text_is texts n) l) l (told_mark l n (text_is texts n)) c k =
    subst (λ (o : Option Bool). May o (excludes (text_is texts n) l) l (told_mark l n (text_is texts n)) c k) at g in
    let t = told_known texts n b m l r in
    split (excludes (text_is texts n) m) refl b w.0 t (λ e. r.free e) w.1
  where
    split : (a : Bool) → excludes (text_is texts n) m ≡ a → (d : Bool) → c ≡ d → told_mark m n (text_is texts n) d ≡ l → (d ≡ true → bars (text_is texts n) m.numbers ≡ false) → k ≡ l →
        (j : Marks) × Go texts m n c j × HasMark texts n b j k
    split true x true e t f q = let p = sym (bars_is (text_is texts n) m) ∙ x in let z = f refl in cc
    split true x false e t f q = (l, go texts m n c l None true r.none x (e, sym t), inl q)
    split false x d e t f q = (l, go texts m n c l None false r.none x (sym t ∙ ap (told_mark m n (text_is texts n)) (sym e)), inl q)

pub other_mark : (m : Marks) (n k : ℕ) (b : Bool) (ns : List (Option ℕ)) → (k ≡ n → ⊥) → mark_at (marks_of (slice_set m.marks n (Some b)) ns) k ≡ mark_at m k
other_mark m n k b ns h = get_or-set_other m.marks n k (Some b) None h

-- another test
other_step : (texts : List TestText) (n : ℕ) (b : Bool) (m l : Marks) (i : ℕ) (c : Bool) (k : Marks) → (i ≡ n → ⊥) → KnowsMark texts n b m l → Go texts l i c k → (j : Marks) × Go texts m i c j × HasMark texts n b j k
other_step texts n b m l i c k apart r g =
    let f = text_is texts i in
    let l2 = marks_of (slice_set m.marks n (Some b)) m.numbers in
    let g2 = subst (λ (z : Marks). Go texts z i c k) r.is g in
    let at : mark_at l2 i ≡ mark_at m i = other_mark m n i b m.numbers apart in
    let x : excludes f l2 ≡ excludes f m = bars_is f l2 ∙ sym (bars_is f m) in
    let w : May (mark_at m i) (excludes f m) l2 (told_mark l2 i f) c k =
    subst (λ (o : Option Bool). May o (excludes f m) l2 (told_mark l2 i f) c k) at
    (subst (λ (d : Bool). May (mark_at l2 i) d l2 (told_mark l2 i f) c k) x g2) in
    split (mark_at m i) (excludes f m) refl refl c k w
  where
    none_on : (d : Bool) → mark_at (told_mark m i (text_is texts i) d) n ≡ None
    none_on d = get_or-set_other m.marks i n (Some d) None (λ e. apart (sym e)) ∙ r.none

    within_on : (d : Bool) → n < length (slice_set m.marks i (Some d))
    within_on d = let e = length-set m.marks i (Some d) in let h = r.within in omega arith

    same : (d : Bool) (ns : List (Option ℕ)) → marks_of (slice_set (slice_set m.marks n (Some b)) i (Some d)) ns ≡ marks_of (slice_set (slice_set m.marks i (Some d)) n (Some b)) ns
    same d ns = ap (λ ms. marks_of ms ns) (set_swap m.marks n i (Some b) (Some d) (λ e. apart (sym e)))

    misses : (k : Marks) → k ≡ told_mark (marks_of (slice_set m.marks n (Some b)) m.numbers) i (text_is texts i) false → HasMark texts n b (told_mark m i (text_is texts i) false) k
    misses k e = inr (record { none = none_on false; within = within_on false; is = e ∙ same false m.numbers; free = r.free; known = r.known })

    split : (mark : Option Bool) (a : Bool) → mark_at m i ≡ mark → excludes (text_is texts i) m ≡ a → (c : Bool) (k : Marks) →
        May mark a (marks_of (slice_set m.marks n (Some b)) m.numbers) (told_mark (marks_of (slice_set m.marks n (Some b)) m.numbers) i (text_is texts i)) c k →
        (j : Marks) × Go texts m i c j × HasMark texts n b j k
    split (Some d) a e x c k w = (m, go texts m i c m (Some d) a e x (w.0, refl), inr (record { none = r.none; within = r.within; is = w.1; free = r.free; known = r.known }))
    split None true e x c k w = (told_mark m i (text_is texts i) false, go texts m i c (told_mark m i (text_is texts i) false) None true e x (w.0, refl), misses k w.1)
    split None false e x false k w = (told_mark m i (text_is texts i) false, go texts m i false (told_mark m i (text_is texts i) false) None false e x refl, misses k w)
    split None false e x true k w =
        let f = text_is texts i in
        let o = text_is texts n in
        let y : bars f m.numbers ≡ false = sym (bars_is f m) ∙ x in
        let free : b ≡ true → bars o (with_number f m.numbers) ≡ false =
        λ h. bars_free f o m.numbers (ap (bars f) (r.known h) ∙ y) (r.free h) in (
          told_mark m i f true,
          go texts m i true (told_mark m i f true) None false e x refl,
          inr (record {
            none = none_on true;
            within = within_on true;
            is = w ∙ same true (with_number f m.numbers);
            free = free;
            known = λ h. number_swap o f m.numbers (free h) ∙ ap (with_number f) (r.known h);
          }),
        )

mark_steps : (texts : List TestText) (n : ℕ) (b : Bool) → Steps texts (HasMark texts n b)
mark_steps texts n b m l i c k r g = elim r [
  | inl e ↦ (k, subst (λ (z : Marks). Go texts z i c k) e g, inl refl)
  | inr h ↦ elim (cases_eq i n) [
    | inl q ↦ subst (λ (z : ℕ). (j : Marks) × Go texts m z c j × HasMark texts n b j k) (sym q)
        (own_step texts n b m l c k h (subst (λ (z : ℕ). Go texts l z c k) q g))
    | inr q ↦ other_step texts n b m l i c k q h g
  ]
]

pub not_so : false ≡ true → ⊥
not_so e = cc

-- what a test told leaves no more ways
pub told_within : (texts : List TestText) (t : Tree ℕ) (m : Marks) (n : ℕ) (b : Bool) → mark_at m n ≡ None → (b ≡ true → excludes (text_is texts n) m ≡ false) →
    Within (leaves texts t (told_mark m n (text_is texts n) b)) (leaves texts t m)
told_within texts t m n false none free = elim (cases_lt n (length m.marks)) [
  | inl h ↦ among texts (HasMark texts n false) (mark_steps texts n false) t m (told_mark m n (text_is texts n) false)
      (inr (record { none = none; within = h; is = refl; free = λ e. absurd (not_so e); known = λ e. absurd (not_so e) }))
  | inr h ↦
      let k : length m.marks ≤ n = omega arith in
      let e : told_mark m n (text_is texts n) false ≡ m = ap (λ ms. marks_of ms m.numbers) (set_past m.marks n (Some false) k) in
      λ x i. subst (λ (z : Marks). Contains (leaves texts t z) x) e i
]
told_within texts t m n true none free =
    let o = text_is texts n in
    let mid = with_field o m in
    let y : bars o m.numbers ≡ false = sym (bars_is o m) ∙ free refl in
    let first : Within (leaves texts t mid) (leaves texts t m) = among texts (KnowsField o) (field_steps texts o) t m mid (y, refl) in
    elim (cases_lt n (length m.marks)) [
      | inl h ↦ λ x i. first x (among texts (HasMark texts n true) (mark_steps texts n true) t mid (told_mark m n o true)
          (inr (record { none = none; within = h; is = refl; free = λ e. bars_itself o m.numbers; known = λ e. number_twice o m.numbers })) x i)
      | inr h ↦
          let k : length m.marks ≤ n = omega arith in
          let e : told_mark m n o true ≡ mid = ap (λ ms. marks_of ms (with_number o m.numbers)) (set_past m.marks n (Some true) k) in
          λ x i. first x (subst (λ (z : Marks). Contains (leaves texts t z) x) e i)
    ]
