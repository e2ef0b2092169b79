-- What a label is known by.
use Rattle.std.proofs.Common.{◌≡◌, ◌≤◌, ℕ, ◌==◌, eq-eqb, eqb-true, nat_lt, Bool, true, false, List, [], ◌∷◌, Contains, Option, Some, None, if◌then◌else◌, refl, ap, sym, ◌∙◌, subst, arith, inl, inr}
use Rattle.std.specs.List.{list_all}
use Rattle.std.proofs.lemmas.Option.{same_Some}
use Rattle.std.proofs.lemmas.Bool.{ltb-true, ltb-false}
use Rattle.std.specs.Option.{option_and_then}
use Rattle.nf_base.specs.Doors.{blocks}
use Rattle.nf_base.specs.declared.packet.Family.{Family}
use Rattle.nf_base.specs.declared.packet.Field.{Field}
use Rattle.nf_base.specs.Text.{Expression, Number, Read, Index, Label, Column, Cell, Both, Given, Creation}
use Rattle.nf_base.specs.Values.{bits}
use Rattle.nf_base.specs.Statements.{Statement, Ends, Does, Asks, Makes, statements}
use Rattle.path_walk.specs.Tests.{field_number}
use Rattle.nf_base.specs.declared.hash_fields.Hashable.{Hashable}
use Rattle.nf_base.specs.Hashed.{width, hashable}
use Rattle.nf_sites.specs.Named.{Named, lesser, least, or_else}
use Rattle.nf_sites.specs.Known.{of_width, plain_field, field_given, same_field, field_at, sets_alike}
use Rattle.nf_sites.specs.KnownLaws.{IsPlainField, FieldsAreGiven, SetsOneField, TogetherIs, Speaks, NoneSpeaks, SpeakersSpeak, NoneSpeaksWhere}
use Rattle.nf_laws.proofs.Listed.{here, there, has, has_none}
use Rattle.nf_sites.proofs.Lists.{all_has, all_true}
use Rattle.nf_sites.proofs.Fields.{width_is, one_field}

-- plain fields
is_read : (family : Family) (e : Expression) (h : Hashable) → option_and_then (hashable family) (plain_field e) ≡ Some h → (field : Field) × (e ≡ Read field) × (hashable family field ≡ Some h)
is_read family (Read field) h e = (field, refl, e)
is_read family (Number n) h e = cc
is_read family (Index var) h e = cc
is_read family (Label var label) h e = cc
is_read family (Column var column) h e = cc
is_read family (Cell place array at) h e = cc
is_read family (Both operator l r) h e = cc

to_plain : (family : Family) (g : Given) (h : Hashable) → field_given family g ≡ Some h → IsPlainField family g h
to_plain family g h e =
    let w = width_is family (bits g.width) (option_and_then (hashable family) (plain_field g.value)) h e in
    let r = is_read family g.value h w.0 in
    record { field = r.0; plain = r.1; hashed = r.2; fits = w.1 }

has_width : (family : Family) (w : ℕ) (h : Hashable) → w ≡ width family h → of_width family w (Some h) ≡ Some h
has_width family w h e = ap (λ b. if b then Some h else None) (eq-eqb w (width family h) e)

from_plain : (family : Family) (g : Given) (h : Hashable) → IsPlainField family g h → field_given family g ≡ Some h
from_plain family g h p =
    ap (of_width family (bits g.width)) (ap (λ (e : Expression). option_and_then (hashable family) (plain_field e)) p.plain ∙ p.hashed) ∙ has_width family (bits g.width) h p.fits

pub fields_given : FieldsAreGiven
fields_given family g h = (to_plain family g h, from_plain family g h)

-- labels that are together
one_and_one : (a b : Option Field) (h : Field) → a ≡ Some h → b ≡ Some h → same_field a b ≡ true
one_and_one a b h e q = ap (λ x. same_field x b) e ∙ ap (same_field (Some h)) q ∙ eq-eqb (field_number h) (field_number h) refl

when_chain : (b x : Bool) → b ≡ true → (if b then x else true) ≡ true → x ≡ true
when_chain true x t e = e
when_chain false x t e = cc

if_chain : (b x : Bool) → (b ≡ true → x ≡ true) → (if b then x else true) ≡ true
if_chain true x h = h refl
if_chain false x h = refl

alike_by : (chain l r : ℕ) (s : Statement) → ((n : Creation) → s ≡ Makes n → n.chain ≡ chain → SetsOneField n l r) → sets_alike chain l r s ≡ true
alike_by chain l r (Ends e) h = refl
alike_by chain l r (Does op) h = refl
alike_by chain l r (Asks q) h = refl
alike_by chain l r (Makes n) h = if_chain (n.chain == chain) (same_field (field_at n.labels l) (field_at n.labels r)) (λ e. let w = h n refl (eqb-true n.chain chain e) in one_and_one (field_at n.labels l) (field_at n.labels r) w.field w.first w.second)

pub together_is : TogetherIs
together_is f chain l r = (
  λ e block n hb hn same.
      let one = all_has (sets_alike chain l r) (statements block) (Makes n) (all_has (λ b. list_all (sets_alike chain l r) (statements b)) (blocks f) block e hb) hn in
      let w = one_field (field_at n.labels l) (field_at n.labels r) (when_chain (n.chain == chain) _ (eq-eqb n.chain chain same) one) in
      record { field = w.0; first = w.1; second = w.2 },
  λ h. all_true (λ b. list_all (sets_alike chain l r) (statements b)) (blocks f) (λ block hb.
      all_true (sets_alike chain l r) (statements block) (λ s hs. alike_by chain l r s (λ n e same. h block n hb (subst (λ (t : Statement). Contains (statements block) t) e hs) same))),
)

-- the least of those that pass a test
record IsLeast (test : ℕ → Bool) (xs : List (Named Given)) (x : Named Given) : Type 0 where
  pub within : Contains xs x
  pub passes : test x.label ≡ true
  pub first : (y : Named Given) → Contains xs y → test y.label ≡ true → x.label ≤ y.label

record NonePasses (test : ℕ → Bool) (xs : List (Named Given)) : Type 0 where
  pub fails : (y : Named Given) → Contains xs y → test y.label ≡ false

abbrev LeastIs : (ℕ → Bool) → List (Named Given) → Option (Named Given) → Type 0
LeastIs test xs None = NonePasses test xs
LeastIs test xs (Some x) = IsLeast test xs x

-- one in front of others
front_only : (test : ℕ → Bool) (x : Named Given) (xs : List (Named Given)) → test x.label ≡ true → NonePasses test xs → IsLeast test (x ∷ xs) x
front_only test x xs e r = record {
  within = here x xs;
  passes = e;
  first = λ y i t. elim (has x xs y i) [
    | inl q ↦ let same = ap (λ (z : Named Given). z.label) q in omega (arith, same)
    | inr j ↦ let no = r.fails y j in cc
  ];
}

front_least : (test : ℕ → Bool) (x y : Named Given) (xs : List (Named Given)) → test x.label ≡ true → x.label ≤ y.label → IsLeast test xs y → IsLeast test (x ∷ xs) x
front_least test x y xs e le r = record {
  within = here x xs;
  passes = e;
  first = λ z i t. elim (has x xs z i) [
    | inl q ↦ let same = ap (λ (z : Named Given). z.label) q in omega (arith, same)
    | inr j ↦ let more = r.first z j t in omega (arith, le, more)
  ];
}

later_least : (test : ℕ → Bool) (x y : Named Given) (xs : List (Named Given)) → (test x.label ≡ true → y.label ≤ x.label) → IsLeast test xs y → IsLeast test (x ∷ xs) y
later_least test x y xs le r = record {
  within = there x xs y r.within;
  passes = r.passes;
  first = λ z i t. elim (has x xs z i) [
    | inl q ↦ let same = ap (λ (z : Named Given). z.label) q in let less = le (ap test same ∙ t) in omega (arith, same, less)
    | inr j ↦ r.first z j t
  ];
}

of_two : (test : ℕ → Bool) (x y : Named Given) (xs : List (Named Given)) → test x.label ≡ true → IsLeast test xs y → (b : Bool) → nat_lt y.label x.label ≡ b → LeastIs test (x ∷ xs) (if b then Some y else Some x)
of_two test x y xs e r true q = later_least test x y xs (λ _. let lt = ltb-true y.label x.label q in omega (arith, lt)) r
of_two test x y xs e r false q = front_least test x y xs e (ltb-false y.label x.label q) r

of_test : (test : ℕ → Bool) (x : Named Given) (xs : List (Named Given)) (b : Bool) → test x.label ≡ b → (o : Option (Named Given)) → LeastIs test xs o → LeastIs test (x ∷ xs) (if b then lesser x o else o)
of_test test x xs true e None r = front_only test x xs e r
of_test test x xs true e (Some y) r = of_two test x y xs e r (nat_lt y.label x.label) refl
of_test test x xs false e None r = record { fails = λ y i. elim (has x xs y i) [ inl q ↦ sym (ap (λ (z : Named Given). test z.label) q) ∙ e | inr j ↦ r.fails y j ] }
of_test test x xs false e (Some y) r = later_least test x y xs (λ t. cc) r

least_is : (test : ℕ → Bool) (xs : List (Named Given)) → LeastIs test xs (least test xs)
least_is test [] = record { fails = λ y h. absurd (has_none y h) }
least_is test (x ∷ xs) = of_test test x xs (test x.label) refl (least test xs) (least_is test xs)

-- the speaker
spoken : (t : ℕ → Bool) (l : ℕ) (xs : List (Named Given)) (x : Named Given) (o p : Option (Named Given)) → LeastIs (λ r. r == l) xs o → LeastIs t xs p → or_else o p ≡ Some x → Speaks t l xs x
spoken t l xs x (Some y) p a b e = subst (λ (z : Named Given). Speaks t l xs z) (same_Some y x e) (record {
  named = a.within;
  unless_named = λ z i q. eqb-true y.label l a.passes;
  or_together = λ no. absurd (no (eqb-true y.label l a.passes));
  first = λ z no i q. absurd (no (eqb-true y.label l a.passes));
})
spoken t l xs x None (Some y) a b e = subst (λ (z : Named Given). Speaks t l xs z) (same_Some y x e) (record {
  named = b.within;
  unless_named = λ z i q. let no = a.fails z i in let yes : (z.label == l) ≡ true = eq-eqb z.label l q in cc;
  or_together = λ no. b.passes;
  first = λ z no i q. b.first z i q;
})
spoken t l xs x None None a b e = cc

unspoken : (t : ℕ → Bool) (l : ℕ) (xs : List (Named Given)) (o p : Option (Named Given)) → LeastIs (λ r. r == l) xs o → LeastIs t xs p → or_else o p ≡ None → NoneSpeaks t l xs
unspoken t l xs (Some y) p a b e = cc
unspoken t l xs None (Some y) a b e = cc
unspoken t l xs None None a b e = record {
  not_named = λ z i q. let no = a.fails z i in let yes : (z.label == l) ≡ true = eq-eqb z.label l q in cc;
  none_together = λ z i. b.fails z i;
}

pub speakers_speak : SpeakersSpeak
speakers_speak t l xs x e = spoken t l xs x (least (λ r. r == l) xs) (least t xs) (least_is (λ r. r == l) xs) (least_is t xs) e

pub none_speaks : NoneSpeaksWhere
none_speaks t l xs e = unspoken t l xs (least (λ r. r == l) xs) (least t xs) (least_is (λ r. r == l) xs) (least_is t xs) e
