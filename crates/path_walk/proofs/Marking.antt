-- The marks of texts say what the tests so far say.
use Rattle.std.proofs.Common.{◌≡◌, ◌≢◌, ◌<◌, arith, ℕ, zero, suc, Bool, true, false, not, ◌==◌, eqb-true, eq-eqb, List, [], ◌∷◌, length, map, get_or, replicate, Contains, Option, Some, None, if◌then◌else◌, refl, ap, ap₂, sym, ◌∙◌, subst, inl, inr}
use Rattle.std.proofs.lemmas.Bool.{cases_eq, cases_lt}
use Rattle.std.proofs.lemmas.List.{length-set, length-replicate, get_or-set_same, get_or-set_other, get_or-replicate, get_or_past}
use Rattle.nf_base.specs.declared.packet.Field.{Field}
use Rattle.nf_base.specs.declared.packet.Field.TheVariants.{Time, Length, SrcMac, DstMac, SrcIp, DstIp, SrcIp6, DstIp6, Proto, Ttl, SrcPort, DstPort}
use Rattle.nf_laws.proofs.Listed.{here, there, has, has_none}
use Rattle.path_walk.specs.declared.test.FieldIs.{FieldIs}
use Rattle.path_walk.specs.declared.known.Mark.TheVariants.{Unknown}
use Rattle.path_walk.specs.Tests.{TestText, Told, field_number}
use Rattle.path_walk.specs.Feasible.{equals_of}
use Rattle.path_walk.specs.Numbering.{text_at, AreApart}
use Rattle.path_walk.specs.Known.{Marks, mark_seen, nothing_known, mark_at, number_at, is_other, excludes, with_number, told_mark}
use Rattle.path_walk.proofs.Texts.{one_field}
use Rattle.path_walk.proofs.Agreeing.{is, never_true}
use Rattle.path_walk.proofs.Fitting.{tell, goes, goes_where, goes_is}

pub record Says (before : List Told) (field : Field) (k : ℕ) : Type 0 where
  pub test : Told
  pub among : Contains before test
  pub equals : equals_of test.text ≡ is field k
  pub holds : test.holds ≡ true

pub record Represents (texts : List TestText) (m : Marks) (before : List Told) : Type 0 where
  pub marks : length m.marks ≡ length texts
  pub numbers : length m.numbers ≡ 12
  pub marked : (n : ℕ) (b : Bool) → mark_at m n ≡ Some b → Contains before (tell (text_at texts n) b)
  pub only_mark : (a : Told) (n : ℕ) → n < length texts → Contains before a → a.text ≡ text_at texts n → mark_at m n ≡ Some a.holds
  pub numbered : (field : Field) (k : ℕ) → number_at m field ≡ Some k → Says before field k
  pub only_number : (a : Told) (field : Field) (k : ℕ) → Contains before a → equals_of a.text ≡ is field k → a.holds ≡ true → number_at m field ≡ Some k

abbrev pub marks_of : List (Option Bool) → List (Option ℕ) → Marks
marks_of marks numbers = record { marks = marks; numbers = numbers }

pub none_known : (n : ℕ) → map mark_seen (replicate n Unknown) ≡ replicate n None
none_known zero = refl
none_known (suc n) = ap (λ xs. None ∷ xs) (none_known n)

-- nothing is known of no tests
abbrev no : {A : Type 0} → Option A
no = None

none_at : {A : Type 0} (n i : ℕ) → get_or (replicate n (no {A = A})) i no ≡ no
none_at {A} n i = elim (cases_lt i n) [
  | inl h ↦ get_or-replicate n i (no {A = A}) no h
  | inr h ↦ let e = length-replicate n (no {A = A}) in get_or_past (replicate n (no {A = A})) i no (omega arith)
]

pub nothing : (texts : List TestText) → Represents texts (nothing_known (length texts)) []
nothing texts = record {
  marks = length-replicate (length texts) (no {A = Bool});
  numbers = length-replicate 12 (no {A = ℕ});
  marked = λ n b e. let h = none_at {A = Bool} (length texts) n in cc;
  only_mark = λ a n w i e. absurd (has_none a i);
  numbered = λ field k e. let h = none_at {A = ℕ} 12 (field_number field) in cc;
  only_number = λ a field k i e h. absurd (has_none a i);
}

-- a test that stands among those so far says nothing more
pub again : (texts : List TestText) (m : Marks) (before : List Told) (t : Told) → Represents texts m before → Contains before t → Represents texts m (t ∷ before)
again texts m before t r i = record {
  marks = r.marks;
  numbers = r.numbers;
  marked = λ n b e. there t before (tell (text_at texts n) b) (r.marked n b e);
  only_mark = λ a n w j e. r.only_mark a n w (among a j) e;
  numbered = λ field k e. let s = r.numbered field k e in record { test = s.test; among = there t before s.test s.among; equals = s.equals; holds = s.holds };
  only_number = λ a field k j e h. r.only_number a field k (among a j) e h;
}
  where
    among : (a : Told) → Contains (t ∷ before) a → Contains before a
    among a j = elim (has t before a j) [ inl e ↦ subst (λ (x : Told). Contains before x) e i | inr k ↦ k ]

below_twelve : (field : Field) → field_number field < 12
below_twelve Time = omega arith
below_twelve Length = omega arith
below_twelve SrcMac = omega arith
below_twelve DstMac = omega arith
below_twelve SrcIp = omega arith
below_twelve DstIp = omega arith
below_twelve SrcIp6 = omega arith
below_twelve DstIp6 = omega arith
below_twelve Proto = omega arith
below_twelve Ttl = omega arith
below_twelve SrcPort = omega arith
below_twelve DstPort = omega arith

-- whether a field is known to be another number
same_unless : (m : Marks) (x : TestText) (field : Field) (k l : ℕ) → excludes (equals_of x) m ≡ false → equals_of x ≡ is field l → number_at m field ≡ Some k → k ≡ l
same_unless m x field k l e h n =
    let u : is_other (Some k) l ≡ false = sym (ap (λ (o : Option ℕ). is_other o l) n) ∙ sym (ap (λ (o : Option FieldIs). excludes o m) h) ∙ e in
    eqb-true k l (not_false (k == l) u)
  where
    not_false : (b : Bool) → not b ≡ false → b ≡ true
    not_false true e = refl
    not_false false e = cc

record Excluded (m : Marks) (o : Option FieldIs) : Type 0 where
  pub field : Field
  pub number : ℕ
  pub other : ℕ
  pub equals : o ≡ is field number
  pub known : number_at m field ≡ Some other
  pub apart : other ≡ number → ⊥

excluded : (m : Marks) (o : Option FieldIs) → excludes o m ≡ true → Excluded m o
excluded m None e = cc
excluded m (Some x) e = split (number_at m x.field) refl e
  where
    split : (o : Option ℕ) → number_at m x.field ≡ o → is_other o x.number ≡ true → Excluded m (Some x)
    split None h k = cc
    split (Some n) h k = record {
      field = x.field;
      number = x.number;
      other = n;
      equals = refl;
      known = h;
      apart = λ s. let t : (n == x.number) ≡ true = eq-eqb n x.number s in let u : not (n == x.number) ≡ false = ap not t in cc;
    }

-- how a test may go
pub goes_free : (texts : List TestText) (m : Marks) (before : List Told) (n : ℕ) (b : Bool) → Represents texts m before → n < length texts → mark_at m n ≡ None → (b ≡ true → excludes (equals_of (text_at texts n)) m ≡ false) → goes before (tell (text_at texts n) b) ≡ true
goes_free texts m before n b r w e x = goes_where before (tell (text_at texts n) b) (λ a i. record {
  one_way = λ s. let k = r.only_mark a n w i s in cc;
  one_number = λ field k l ea et ha hb. same_unless m (text_at texts n) field k l (x hb) et (r.only_number a field k i ea ha);
})

pub goes_not : (texts : List TestText) (m : Marks) (before : List Told) (n : ℕ) → Represents texts m before → excludes (equals_of (text_at texts n)) m ≡ true → goes before (tell (text_at texts n) true) ≡ false
goes_not texts m before n r x = never_true (goes before (tell (text_at texts n) true)) (λ e.
    let o = excluded m (equals_of (text_at texts n)) x in
    let s = r.numbered o.field o.other o.known in
    let agree = goes_is before (tell (text_at texts n) true) e s.test s.among in
    o.apart (agree.one_number o.field o.other o.number s.equals o.equals s.holds refl))

pub goes_as_marked : (texts : List TestText) (m : Marks) (before : List Told) (n : ℕ) (b : Bool) → Represents texts m before → n < length texts → mark_at m n ≡ Some b → goes before (tell (text_at texts n) b) ≡ true
goes_as_marked texts m before n b r w e = goes_where before (tell (text_at texts n) b) (λ a i. record {
  one_way = λ s. let k = r.only_mark a n w i s in cc;
  one_number = λ field k l ea et ha hb.
      let x = r.only_number a field k i ea ha in
      let y = r.only_number (tell (text_at texts n) b) field l (r.marked n b e) et hb in cc;
})

pub goes_no_other : (texts : List TestText) (m : Marks) (before : List Told) (n : ℕ) (b : Bool) → Represents texts m before → mark_at m n ≡ Some b → goes before (tell (text_at texts n) (not b)) ≡ false
goes_no_other texts m before n b r e = never_true (goes before (tell (text_at texts n) (not b))) (λ g.
    let agree = goes_is before (tell (text_at texts n) (not b)) g (tell (text_at texts n) b) (r.marked n b e) in
    not_itself b (agree.one_way refl))
  where
    not_itself : (b : Bool) → b ≡ not b → ⊥
    not_itself true e = cc
    not_itself false e = cc

-- one test more, with its mark
length_numbers : (o : Option FieldIs) (ns : List (Option ℕ)) → length (with_number o ns) ≡ length ns
length_numbers None ns = refl
length_numbers (Some x) ns = length-set ns (field_number x.field) (Some x.number)

marks_same : (m : Marks) (n : ℕ) (o : Option FieldIs) (b : Bool) → n < length m.marks → mark_at (told_mark m n o b) n ≡ Some b
marks_same m n o b h = get_or-set_same m.marks n (Some b) None h

marks_other : (m : Marks) (n k : ℕ) (o : Option FieldIs) (b : Bool) → k ≢ n → mark_at (told_mark m n o b) k ≡ mark_at m k
marks_other m n k o b h = get_or-set_other m.marks n k (Some b) None h

number_same : (m : Marks) (n : ℕ) (o : Option FieldIs) (field : Field) (k : ℕ) → field_number field < length m.numbers → o ≡ is field k → number_at (told_mark m n o true) field ≡ Some k
number_same m n o field k h e =
    ap (λ (x : Option FieldIs). number_at (told_mark m n x true) field) e ∙ get_or-set_same m.numbers (field_number field) (Some k) None h

number_other : (m : Marks) (n : ℕ) (x : FieldIs) (field : Field) → field_number field ≢ field_number x.field → number_at (told_mark m n (Some x) true) field ≡ number_at m field
number_other m n x field h = get_or-set_other m.numbers (field_number x.field) (field_number field) (Some x.number) None h

abbrev told_at : List TestText → Marks → ℕ → Bool → Marks
told_at texts m n b = told_mark m n (equals_of (text_at texts n)) b

new_marked : (texts : List TestText) (m : Marks) (before : List Told) (n : ℕ) (b : Bool) → Represents texts m before → n < length texts → (k : ℕ) (d : Bool) → mark_at (told_at texts m n b) k ≡ Some d → Contains (tell (text_at texts n) b ∷ before) (tell (text_at texts k) d)
new_marked texts m before n b r w k d e =
    let l : n < length m.marks = let q = r.marks in omega arith in
    elim (cases_eq k n) [
      | inl q ↦
          let u = marks_same m n (equals_of (text_at texts n)) b l in
          let v : mark_at (told_at texts m n b) n ≡ Some d = sym (ap (mark_at (told_at texts m n b)) q) ∙ e in
          let same : b ≡ d = cc in
          subst (λ (t : Told). Contains (tell (text_at texts n) b ∷ before) t) (ap₂ (λ (i : ℕ) (c : Bool). tell (text_at texts i) c) (sym q) same) (here (tell (text_at texts n) b) before)
      | inr q ↦ there (tell (text_at texts n) b) before (tell (text_at texts k) d) (r.marked k d (sym (marks_other m n k (equals_of (text_at texts n)) b q) ∙ e))
    ]

new_only_mark : (texts : List TestText) (m : Marks) (before : List Told) (n : ℕ) (b : Bool) → Represents texts m before → AreApart texts → n < length texts → mark_at m n ≡ None →
    (a : Told) (k : ℕ) → k < length texts → Contains (tell (text_at texts n) b ∷ before) a → a.text ≡ text_at texts k → mark_at (told_at texts m n b) k ≡ Some a.holds
new_only_mark texts m before n b r apart w none a k v i e =
    let l : n < length m.marks = let q = r.marks in omega arith in
    elim (has (tell (text_at texts n) b) before a i) [
      | inl q ↦
          let s : text_at texts n ≡ text_at texts k = ap (λ (t : Told). t.text) q ∙ e in
          let j : n ≡ k = apart.one n k w v s in
          sym (ap (mark_at (told_at texts m n b)) j) ∙ marks_same m n (equals_of (text_at texts n)) b l ∙ ap (λ (t : Told). Some t.holds) q
      | inr j ↦
          let old = r.only_mark a k v j e in
          elim (cases_eq k n) [
            | inl q ↦ let u : mark_at m k ≡ None = ap (mark_at m) q ∙ none in cc
            | inr q ↦ marks_other m n k (equals_of (text_at texts n)) b q ∙ old
          ]
    ]

says_later : (t : Told) (before : List Told) (field : Field) (k : ℕ) → Says before field k → Says (t ∷ before) field k
says_later t before field k s = record { test = s.test; among = there t before s.test s.among; equals = s.equals; holds = s.holds }

new_numbered : (texts : List TestText) (m : Marks) (before : List Told) (n : ℕ) (b : Bool) (o : Option FieldIs) → Represents texts m before → equals_of (text_at texts n) ≡ o →
    (field : Field) (k : ℕ) → number_at (told_mark m n o b) field ≡ Some k → Says (tell (text_at texts n) b ∷ before) field k
new_numbered texts m before n false o r h field k e = says_later (tell (text_at texts n) false) before field k (r.numbered field k e)
new_numbered texts m before n true None r h field k e = says_later (tell (text_at texts n) true) before field k (r.numbered field k e)
new_numbered texts m before n true (Some x) r h field k e = elim (cases_eq (field_number field) (field_number x.field)) [
  | inl q ↦
      let f : field ≡ x.field = one_field field x.field q in
      let l : field_number x.field < length m.numbers = let y = r.numbers in let z = below_twelve x.field in omega arith in
      let u : number_at (told_mark m n (Some x) true) x.field ≡ Some x.number = number_same m n (Some x) x.field x.number l refl in
      let v : number_at (told_mark m n (Some x) true) x.field ≡ Some k = sym (ap (number_at (told_mark m n (Some x) true)) f) ∙ e in
      let same : x.number ≡ k = cc in
      record {
        test = tell (text_at texts n) true;
        among = here (tell (text_at texts n) true) before;
        equals = h ∙ ap₂ is (sym f) same;
        holds = refl;
      }
  | inr q ↦ says_later (tell (text_at texts n) true) before field k (r.numbered field k (sym (number_other m n x field q) ∙ e))
]

new_only_number : (texts : List TestText) (m : Marks) (before : List Told) (n : ℕ) (b : Bool) (o : Option FieldIs) → Represents texts m before → equals_of (text_at texts n) ≡ o → (b ≡ true → excludes (equals_of (text_at texts n)) m ≡ false) →
    (a : Told) (field : Field) (k : ℕ) → Contains (tell (text_at texts n) b ∷ before) a → equals_of a.text ≡ is field k → a.holds ≡ true → number_at (told_mark m n o b) field ≡ Some k
new_only_number texts m before n false o r h free a field k i e t = elim (has (tell (text_at texts n) false) before a i) [
  | inl q ↦ let u : false ≡ a.holds = ap (λ (t : Told). t.holds) q in cc
  | inr j ↦ r.only_number a field k j e t
]
new_only_number texts m before n true o r h free a field k i e t =
    let l : field_number field < length m.numbers = let y = r.numbers in let z = below_twelve field in omega arith in
    elim (has (tell (text_at texts n) true) before a i) [
      | inl q ↦ number_same m n o field k l (sym h ∙ ap (λ (t : Told). equals_of t.text) q ∙ e)
      | inr j ↦ kept o h (r.only_number a field k j e t)
    ]
  where
    kept : (o : Option FieldIs) → equals_of (text_at texts n) ≡ o → number_at m field ≡ Some k → number_at (told_mark m n o true) field ≡ Some k
    kept None g v = v
    kept (Some x) g v = elim (cases_eq (field_number field) (field_number x.field)) [
      | inl q ↦
          let f : field ≡ x.field = one_field field x.field q in
          let at : equals_of (text_at texts n) ≡ is field x.number = g ∙ ap (λ (y : Field). is y x.number) (sym f) in
          let same : k ≡ x.number = same_unless m (text_at texts n) field k x.number (free refl) at v in
          let l : field_number field < length m.numbers = let y = r.numbers in let z = below_twelve field in omega arith in
          number_same m n (Some x) field k l (ap₂ is (sym f) (sym same))
      | inr q ↦ number_other m n x field q ∙ v
    ]

numbers_length : (o : Option FieldIs) (b : Bool) (ns : List (Option ℕ)) → length (if b then with_number o ns else ns) ≡ length ns
numbers_length o true ns = length_numbers o ns
numbers_length o false ns = refl

pub told_one : (texts : List TestText) (m : Marks) (before : List Told) (n : ℕ) (b : Bool) → Represents texts m before → AreApart texts → n < length texts → mark_at m n ≡ None → (b ≡ true → excludes (equals_of (text_at texts n)) m ≡ false) →
    Represents texts (told_mark m n (equals_of (text_at texts n)) b) (tell (text_at texts n) b ∷ before)
told_one texts m before n b r apart w none free = record {
  marks = length-set m.marks n (Some b) ∙ r.marks;
  numbers = numbers_length (equals_of (text_at texts n)) b m.numbers ∙ r.numbers;
  marked = new_marked texts m before n b r w;
  only_mark = new_only_mark texts m before n b r apart w none;
  numbered = new_numbered texts m before n b (equals_of (text_at texts n)) r refl;
  only_number = new_only_number texts m before n b (equals_of (text_at texts n)) r refl free;
}
