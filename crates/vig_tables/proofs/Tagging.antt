-- Tags beside keys, through a look-up, a pair put and a pair taken out.
use Rattle.std.proofs.Common.{◌≡◌, ◌≢◌, ◌∙◌, ap, sym, refl, subst, arith, ℕ, ◌+◌, ◌<◌, List, [], length, inl, inr, ◌⊎◌, Bool, true, false}
use Rattle.std.specs.Prelude.{Option, Some, None, IfSome, IfNone, IsTrue, Contains, is_none, nat_lt, ◌&&◌}
use Rattle.std.proofs.lemmas.Option.{none-some}
use Rattle.std.proofs.lemmas.List.{length-map, get_or-set_same, get_or-set_other}
use Rattle.std.proofs.lemmas.Bool.{cases_eq}
use Rattle.hash_slots.specs.declared.cells.Pair.{Pair}
use Rattle.hash_slots.specs.Hashes.{tag_of}
use Rattle.hash_slots.specs.Tags.{Tags, Holds, pair_of}
use Rattle.hash_slots.specs.Tags as tags
use Rattle.vig_map.specs.Bindings.{Bindings, value_of, is_bindable, IsPut, IsErased}
use Rattle.vig_tables.specs.Tagged.{binding, bindings_in, AreTagged, IsVacant}
use Rattle.vig_tables.specs.Grid.{Grid, row_at, with_row}
use Rattle.vig_tables.proofs.TagMembers.{value_held, value_unheld, held_value, same_value}

-- the search by the tag of a key finds its value
pub looked_up :
    (keys : ℕ → List ℕ) (t : Tags) (key : List ℕ) (o : Option ℕ) → AreTagged keys t
    → IfSome o (λ i. Holds t (tag_of key) i × (keys i ≡ key))
    → IfNone o ((i : ℕ) → Holds t (tag_of key) i → keys i ≢ key)
    → o ≡ value_of (bindings_in keys t).pairs key
looked_up keys t key (Some i) j found absent = sym (value_held keys t.pairs (pair_of (tag_of key) i) key j.apart found.0 found.1)
looked_up keys t key None j found absent =
    sym (value_unheld keys t.pairs key (λ p held is. absent p.index (subst (λ (n : ℕ). Contains t.pairs (pair_of n p.index)) (j.tagged p held ∙ ap tag_of is) held) is))

-- the same by what the test of a key answers
pub looked_up_by :
    (answers : ℕ → Bool → Type 0) (keys : ℕ → List ℕ) (t : Tags) (tag : ℕ) (key : List ℕ)
    (o : Option ℕ)
    → AreTagged keys t → tag ≡ tag_of key → ((i : ℕ) → answers i true → keys i ≡ key)
    → ((i : ℕ) → answers i false → keys i ≢ key)
    → IfSome o (λ i. Holds t tag i × answers i true)
    → IfNone o ((i : ℕ) → Holds t tag i → answers i false)
    → o ≡ value_of (bindings_in keys t).pairs key
looked_up_by answers keys t tag key (Some i) j is if_true if_false found absent =
    looked_up keys t key (Some i) j (subst (λ (n : ℕ). Holds t n i) is found.0, if_true i found.1) tt
looked_up_by answers keys t tag key None j is if_true if_false found absent =
    looked_up keys t key None j tt (λ i held. if_false i (absent i (subst (λ (n : ℕ). Holds t n i) (sym is) held)))

-- the key under an index that stands with a tag is bound to the index
pub held_bound :
    (keys : ℕ → List ℕ) (t : Tags) (p : Pair) → AreTagged keys t → Contains t.pairs p
    → value_of (bindings_in keys t).pairs (keys p.index) ≡ Some p.index
held_bound keys t p j held = value_held keys t.pairs p (keys p.index) j.apart held refl

-- a key that is bound to an index stands with its tag and is under the index
pub bound_held :
    (keys : ℕ → List ℕ) (t : Tags) (key : List ℕ) (i : ℕ) → AreTagged keys t
    → value_of (bindings_in keys t).pairs key ≡ Some i → Holds t (tag_of key) i × (keys i ≡ key)
bound_held keys t key i j bound =
    let h = held_value keys t.pairs key i bound in
    let is : keys i ≡ key = ap keys (sym h.index_is) ∙ h.key_is in
    let same : h.pair ≡ pair_of (tag_of key) i = pair_is h.pair (j.tagged h.pair h.there ∙ ap tag_of h.key_is) h.index_is in
    (subst (λ (p : Pair). Contains t.pairs p) same h.there, is)
  where
    pair_is : (p : Pair) → p.tag ≡ tag_of key → p.index ≡ i → p ≡ pair_of (tag_of key) i
    pair_is p tag index = ap (λ (n : ℕ). pair_of n p.index) tag ∙ ap (pair_of (tag_of key)) index

same_pair : (q p : Pair) → (q ≡ p) ⊎ (q ≢ p)
same_pair q p = elim (cases_eq q.tag p.tag) [
  | inl e ↦ elim (cases_eq q.index p.index) [
    | inl f ↦ inl (ap (λ (n : ℕ). pair_of n q.index) e ∙ ap (pair_of p.tag) f)
    | inr nf ↦ inr (λ g. nf (ap (λ (x : Pair). x.index) g))
  ]
  | inr ne ↦ inr (λ g. ne (ap (λ (x : Pair). x.tag) g))
]

-- of what stands after a pair is put
pub old_or_new :
    (p q : Pair) (t t' : Tags) → tags.IsPut p t t' → Contains t'.pairs q
    → (q ≡ p) ⊎ ((q ≢ p) × Contains t.pairs q)
old_or_new p q t t' put held = elim (same_pair q p) [
  | inl e ↦ inl e
  | inr ne ↦ inr (ne, (put.others q ne).0 held)
]

pub put_tagged :
    (keys keys' : ℕ → List ℕ) (t t' : Tags) (key : List ℕ) (i : ℕ) → AreTagged keys t
    → ((q : Pair) → Contains t.pairs q → keys' q.index ≡ keys q.index) → keys' i ≡ key
    → value_of (bindings_in keys t).pairs key ≡ None → tags.IsPut (pair_of (tag_of key) i) t t'
    → AreTagged keys' t'
put_tagged keys keys' t t' key i j agree is free put = record {
  tagged = λ q held. elim (old_or_new (pair_of (tag_of key) i) q t t' put held) [
    | inl e ↦ ap (λ (x : Pair). x.tag) e ∙ ap tag_of (sym is ∙ ap (λ (x : Pair). keys' x.index) (sym e))
    | inr o ↦ j.tagged q o.1 ∙ ap tag_of (sym (agree q o.1))
  ];
  apart = λ q r in_q in_r same. elim (old_or_new (pair_of (tag_of key) i) q t t' put in_q) [
    | inl e ↦ elim (old_or_new (pair_of (tag_of key) i) r t t' put in_r) [
      | inl f ↦ e ∙ sym f
      | inr o ↦ absurd (not_free r o.1 (sym same ∙ ap (λ (x : Pair). keys' x.index) e ∙ is))
    ]
    | inr o ↦ elim (old_or_new (pair_of (tag_of key) i) r t t' put in_r) [
      | inl f ↦ absurd (not_free q o.1 (same ∙ ap (λ (x : Pair). keys' x.index) f ∙ is))
      | inr u ↦ j.apart q r o.1 u.1 (sym (agree q o.1) ∙ same ∙ agree r u.1)
    ]
  ];
}
  where
    not_free : (q : Pair) → Contains t.pairs q → keys' q.index ≡ key → ⊥
    not_free q held e = none-some q.index (sym free ∙ value_held keys t.pairs q key j.apart held (sym (agree q held) ∙ e))

pub put_bound :
    (keys keys' : ℕ → List ℕ) (t t' : Tags) (key : List ℕ) (i : ℕ) → AreTagged keys t
    → ((q : Pair) → Contains t.pairs q → keys' q.index ≡ keys q.index) → keys' i ≡ key
    → value_of (bindings_in keys t).pairs key ≡ None → tags.IsPut (pair_of (tag_of key) i) t t'
    → IsPut key i (bindings_in keys t) (bindings_in keys' t')
put_bound keys keys' t t' key i j agree is free put = record {
  bound = value_held keys' t'.pairs (pair_of (tag_of key) i) key j'.apart put.there is;
  others = λ other ne. same_value keys keys' t.pairs t'.pairs other j.apart j'.apart
      (λ q held e. ((put.others q (λ f. ne (sym e ∙ sym (agree q held) ∙ ap (λ (x : Pair). keys' x.index) f ∙ is))).1 held, agree q held ∙ e))
      (λ q held e. old_one other q ne e (old_or_new (pair_of (tag_of key) i) q t t' put held));
  count = length-map t'.pairs (binding keys') ∙ put.count ∙ ap (λ (n : ℕ). n + 1) (sym (length-map t.pairs (binding keys)));
  most = put.most;
}
  where
    j' : AreTagged keys' t'
    j' = put_tagged keys keys' t t' key i j agree is free put

    old_one :
        (other : List ℕ) (q : Pair) → other ≢ key → keys' q.index ≡ other
        → (q ≡ pair_of (tag_of key) i) ⊎ ((q ≢ pair_of (tag_of key) i) × Contains t.pairs q)
        → Contains t.pairs q × (keys q.index ≡ other)
    old_one other q ne e (inl f) = absurd (ne (sym e ∙ ap (λ (x : Pair). keys' x.index) f ∙ is))
    old_one other q ne e (inr o) = (o.1, sym (agree q o.1) ∙ e)

-- what stands after a pair is taken out
pub still :
    (p q : Pair) (t t' : Tags) → tags.IsErased p t t' → Contains t'.pairs q
    → (q ≢ p) × Contains t.pairs q
still p q t t' erased held = elim (same_pair q p) [
  | inl e ↦ absurd (erased.gone (subst (λ (x : Pair). Contains t'.pairs x) e held))
  | inr ne ↦ (ne, (erased.others q ne).0 held)
]

pub erase_tagged :
    (keys : ℕ → List ℕ) (t t' : Tags) (p : Pair) → AreTagged keys t → tags.IsErased p t t'
    → AreTagged keys t'
erase_tagged keys t t' p j erased = record {
  tagged = λ q held. j.tagged q (still p q t t' erased held).1;
  apart = λ q r in_q in_r same. j.apart q r (still p q t t' erased in_q).1 (still p r t t' erased in_r).1 same;
}

pub erase_unbound :
    (keys : ℕ → List ℕ) (t t' : Tags) (p : Pair) (key : List ℕ) → AreTagged keys t
    → Contains t.pairs p → keys p.index ≡ key → tags.IsErased p t t'
    → IsErased key (bindings_in keys t) (bindings_in keys t')
erase_unbound keys t t' p key j held is erased = record {
  unbound = value_unheld keys t'.pairs key (λ q in_q e. let s = still p q t t' erased in_q in s.0 (j.apart q p s.1 held (e ∙ sym is)));
  others = λ other ne. same_value keys keys t.pairs t'.pairs other j.apart j'.apart
      (λ q in_q e. ((erased.others q (λ f. ne (sym e ∙ ap (λ (x : Pair). keys x.index) f ∙ is))).1 in_q, e))
      (λ q in_q e. ((still p q t t' erased in_q).1, e));
  count = length-map t.pairs (binding keys) ∙ erased.count ∙ ap (λ (n : ℕ). n + 1) (sym (length-map t'.pairs (binding keys)));
  most = erased.most;
}
  where
    j' : AreTagged keys t'
    j' = erase_tagged keys t t' p j erased

-- rows with one written over, at an index that stands with no tag
pub row_kept :
    (rows : Grid) (row : List ℕ) (i j : ℕ) → j ≢ i → row_at (with_row i row rows) j ≡ row_at rows j
row_kept rows row i j ne = get_or-set_other rows.rows i j row [] ne

pub row_new :
    (rows : Grid) (row : List ℕ) (i : ℕ) → i < length rows.rows → row_at (with_row i row rows) i ≡ row
row_new rows row i lt = get_or-set_same rows.rows i row [] lt

-- an index to which no key is bound stands with no tag
pub not_held :
    (keys : ℕ → List ℕ) (t : Tags) (i : ℕ) → AreTagged keys t → IsVacant i (bindings_in keys t)
    → (p : Pair) → Contains t.pairs p → p.index ≢ i
not_held keys t i j vacant p held e = vacant (keys p.index) (held_bound keys t p j held ∙ ap (λ (n : ℕ). Some n) e)

both : (a b : Bool) → IsTrue (a && b) → IsTrue a × IsTrue b
both true true t = (refl, refl)
both true false t = absurd (grind (arith, t))
both false b t = absurd (grind (arith, t))

none_of : (o : Option ℕ) → IsTrue (is_none o) → o ≡ None
none_of None t = refl
none_of (Some i) t = absurd (grind (arith, t))

-- a key that can be bound has no value
pub free_of :
    (m : Bindings) (key : List ℕ) → IsTrue (is_bindable m key) → value_of m.pairs key ≡ None
free_of m key can = none_of (value_of m.pairs key) (both (is_none (value_of m.pairs key)) (nat_lt (length m.pairs) m.most) can).0
