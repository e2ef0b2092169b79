-- Keys bound in a map, and the entries that have them.
use Rattle.std.proofs.Common.{◌≡◌, ◌≢◌, ◌∙◌, ap, sym, refl, arith, ℕ, zero, suc, ◌<◌, ◌↔◌, Bool, true, false, ◌||◌, List, [], ◌∷◌, length, map, inl, inr, replicate}
use Rattle.std.specs.Prelude.{Option, Some, None, slice_set, is_some, All}
use Rattle.std.specs.List.{list_any}
use Rattle.std.specs.Option.{option_map}
use Rattle.std.proofs.lemmas.Option.{none-some, same_Some}
use Rattle.std.proofs.lemmas.Bool.{cases_Bool, cases_eq, both_ways}
use Rattle.std.proofs.lemmas.Slice.Eq.{bytes_eq-Decides}
use Rattle.std.proofs.lemmas.List.Elements.{All-head, All-tail}
use Rattle.nf_base.specs.declared.decl.MapDecl.{MapDecl}
use Rattle.nf_base.specs.declared.state.Entry.{Entry}
use Rattle.nf_base.specs.Chains.{key_in, same_key, has_key, found, is_found, is_taken, entry_at}
use Rattle.vig_map.specs.Bindings.{value_of, bindings_of}
use Rattle.vig_tables.specs.Keyed as keyed
use Rattle.vig_tables.specs.Keyed.{Keyed, key_of, value_for, IsBoundTo, IsUnbound}
use Rattle.vig_tables.specs.Joined.{IsJoined}
use Rattle.vig_tables.proofs.Entries.{entry-set_same, entry-set_other, entry_within, entry_none, live-set, live_none, weight}

-- an index that stands behind another
behind :
    (o : Option ℕ) (i : ℕ) → option_map (λ k. suc k) o ≡ Some i
    → (j : ℕ) × ((i ≡ suc j) × (o ≡ Some j))
behind None i e = absurd (none-some i e)
behind (Some j) i e = (j, (sym (same_Some (suc j) i e), refl))

-- no index stands behind none
none_behind : (o : Option ℕ) → option_map (λ k. suc k) o ≡ None → o ≡ None
none_behind None e = refl
none_behind (Some j) e = absurd (none-some (suc j) (sym e))

-- where a key is first found its entry stands
pub index_found :
    (m : MapDecl) (key : List ℕ) (slots : List (Option Entry)) (i : ℕ) → found m key slots ≡ Some i
    → has_key m key (entry_at slots i) ≡ true
index_found m key [] i e = absurd (none-some i e)
index_found m key (s ∷ slots) i e = elim (cases_Bool (has_key m key s)) [
  | inl has ↦ rw (sym (same_Some 0 i (rw has at e))) has
  | inr has ↦
      let f = behind (found m key slots) i (rw has at e) in
      rw f.1.0 (index_found m key slots f.0 f.1.1)
]

-- where none is found no entry has the key
index_none :
    (m : MapDecl) (key : List ℕ) (slots : List (Option Entry)) → found m key slots ≡ None → (j : ℕ)
    → has_key m key (entry_at slots j) ≡ false
index_none m key [] e j = refl
index_none m key (s ∷ slots) e zero = elim (cases_Bool (has_key m key s)) [
  | inl has ↦ absurd (none-some 0 (sym (rw has at e)))
  | inr has ↦ has
]
index_none m key (s ∷ slots) e (suc j) = elim (cases_Bool (has_key m key s)) [
  | inl has ↦ absurd (none-some 0 (sym (rw has at e)))
  | inr has ↦ index_none m key slots (none_behind (found m key slots) (rw has at e)) j
]

-- std's word for a search that found something
found_some : (o : Option ℕ) → is_some o ≡ is_found o
found_some None = refl
found_some (Some i) = refl

-- the index to which a key is bound is the first whose entry has it
pub lookup_is :
    (size : ℕ) (slots : List (Option Entry)) (m : Keyed) (key : List ℕ) → IsJoined size slots m
    → value_of m.map.pairs key ≡ found m.decl key slots
lookup_is size slots m key j = by_index (found m.decl key slots) refl
  where
    by_value :
        (o : Option ℕ) → value_of m.map.pairs key ≡ o → found m.decl key slots ≡ None
        → value_of m.map.pairs key ≡ None
    by_value None e none = e
    by_value (Some i) e none = absurd (both_ways (has_key m.decl key (entry_at slots i)) (index_none m.decl key slots none i) (j.there key i e))

    by_index :
        (o : Option ℕ) → found m.decl key slots ≡ o
        → value_of m.map.pairs key ≡ found m.decl key slots
    by_index (Some i) e = j.back key i (index_found m.decl key slots i e) ∙ sym e
    by_index None e = by_value (value_of m.map.pairs key) refl e ∙ sym e

-- some labels' keys are bound where they are taken
pub taken_is :
    (size : ℕ) (slots : List (Option Entry)) (labels : List ℕ) (maps : List Keyed)
    → All (IsJoined size slots) maps
    → list_any (keyed.is_bound labels) maps ≡ is_taken (map (λ (m : Keyed). m.decl) maps) labels slots
taken_is size slots labels [] all = refl
taken_is size slots labels (m ∷ maps) all =
    ap (λ (b : Bool). b || list_any (keyed.is_bound labels) maps) (ap (λ (o : Option ℕ). is_some o) (lookup_is size slots m (key_of labels m) (All-head (IsJoined size slots) m maps all)) ∙ found_some (found m.decl (key_of labels m) slots))
    ∙ ap (λ (b : Bool). is_found (found m.decl (key_of labels m) slots) || b) (taken_is size slots labels maps (All-tail (IsJoined size slots) m maps all))

-- the key of an entry's own labels
has_own :
    (m : MapDecl) (e : Entry) (labels : List ℕ) → e.labels ≡ labels
    → has_key m (key_in m labels) (Some e) ≡ true
has_own m e labels same = (bytes_eq-Decides (key_in m e.labels) (key_in m labels)).1 (ap (key_in m) same)

no_key : (m : MapDecl) (key : List ℕ) (o : Option Entry) → o ≡ None → has_key m key o ≡ true → ⊥
no_key m key o none has = both_ways (has_key m key o) (ap (has_key m key) none) has

-- an entry made at an index without one
pub joined_entered :
    (size : ℕ) (slots : List (Option Entry)) (labels : List ℕ) (i : ℕ) (e : Entry) (old new : Keyed)
    → IsJoined size slots old → IsBoundTo labels i old new → i < length slots
    → entry_at slots i ≡ None → value_for labels old ≡ None → e.labels ≡ labels
    → IsJoined size (slice_set slots i (Some e)) new
joined_entered size slots labels i e old new j to lt none unbound same = record {
  room = to.put.most ∙ j.room;
  count = omega (arith, to.put.count, j.count, live-set slots i (Some e) lt, ap weight none);
  there = λ key k is. rw to.decl (there key k is);
  back = λ key k has. back key k (rw to.decl at has);
}
  where
    decides : (key : List ℕ) → (same_key (key_of labels old) key ≡ true) ↔ (key_of labels old ≡ key)
    decides key = bytes_eq-Decides (key_of labels old) key

    here :
        (key : List ℕ) (k : ℕ) → k ≡ i
        → has_key old.decl key (entry_at (slice_set slots i (Some e)) k) ≡ same_key (key_of labels old) key
    here key k is =
        ap (λ (x : ℕ). has_key old.decl key (entry_at (slice_set slots i (Some e)) x)) is
        ∙ ap (has_key old.decl key) (entry-set_same slots i (Some e) lt)
        ∙ ap (λ (ls : List ℕ). same_key (key_in old.decl ls) key) same

    elsewhere :
        (key : List ℕ) (k : ℕ) → k ≢ i
        → has_key old.decl key (entry_at (slice_set slots i (Some e)) k) ≡ has_key old.decl key (entry_at slots k)
    elsewhere key k ne = ap (has_key old.decl key) (entry-set_other slots i k (Some e) ne)

    there :
        (key : List ℕ) (k : ℕ) → value_of new.map.pairs key ≡ Some k
        → has_key old.decl key (entry_at (slice_set slots i (Some e)) k) ≡ true
    there key k is = elim (cases_Bool (same_key (key_of labels old) key)) [
      | inl t ↦
          let at = same_Some i k (sym to.put.bound ∙ ap (value_of new.map.pairs) ((decides key).0 t) ∙ is) in
          here key k (sym at) ∙ t
      | inr f ↦
          let ne : key ≢ key_of labels old = λ q. both_ways (same_key (key_of labels old) key) f ((decides key).1 (sym q)) in
          let has = j.there key k (sym (to.put.others key ne) ∙ is) in
          elsewhere key k (λ q. no_key old.decl key (entry_at slots k) (ap (entry_at slots) q ∙ none) has) ∙ has
    ]

    back :
        (key : List ℕ) (k : ℕ)
        → has_key old.decl key (entry_at (slice_set slots i (Some e)) k) ≡ true
        → value_of new.map.pairs key ≡ Some k
    back key k has = elim (cases_eq k i) [
      | inl q ↦ ap (value_of new.map.pairs) (sym ((decides key).0 (sym (here key k q) ∙ has))) ∙ to.put.bound ∙ ap (λ (x : ℕ). Some x) (sym q)
      | inr nq ↦
          let was = j.back key k (sym (elsewhere key k nq) ∙ has) in
          to.put.others key (λ q. none-some k (sym unbound ∙ ap (value_of old.map.pairs) (sym q) ∙ was)) ∙ was
    ]

-- the key of an entry is bound to its index
pub bound_own :
    (size : ℕ) (slots : List (Option Entry)) (i : ℕ) (e : Entry) (m : Keyed) → IsJoined size slots m
    → entry_at slots i ≡ Some e → value_for e.labels m ≡ Some i
bound_own size slots i e m j stood = j.back (key_of e.labels m) i (ap (has_key m.decl (key_of e.labels m)) stood ∙ has_own m.decl e e.labels refl)

-- none is bound to an index without an entry
pub bound_none :
    (size : ℕ) (slots : List (Option Entry)) (i : ℕ) (m : Keyed) → IsJoined size slots m
    → entry_at slots i ≡ None → (key : List ℕ) → value_of m.map.pairs key ≡ Some i → ⊥
bound_none size slots i m j none key bound = no_key m.decl key (entry_at slots i) none (j.there key i bound)

-- an entry given up
pub joined_freed :
    (size : ℕ) (slots : List (Option Entry)) (labels : List ℕ) (i : ℕ) (e : Entry) (old new : Keyed)
    → IsJoined size slots old → IsUnbound labels old new → entry_at slots i ≡ Some e
    → e.labels ≡ labels → IsJoined size (slice_set slots i None) new
joined_freed size slots labels i e old new j un stood same = record {
  room = un.erased.most ∙ j.room;
  count = omega (arith, un.erased.count, j.count, live-set slots i None lt, ap weight stood);
  there = λ key k is. rw un.decl (there key k is);
  back = λ key k has. back key k (rw un.decl at has);
}
  where
    lt : i < length slots
    lt = entry_within slots i e stood

    decides : (key : List ℕ) → (same_key (key_of labels old) key ≡ true) ↔ (key_of labels old ≡ key)
    decides key = bytes_eq-Decides (key_of labels old) key

    here :
        (key : List ℕ) (k : ℕ) → k ≡ i
        → has_key old.decl key (entry_at slots k) ≡ same_key (key_of labels old) key
    here key k is =
        ap (λ (x : ℕ). has_key old.decl key (entry_at slots x)) is
        ∙ ap (has_key old.decl key) stood
        ∙ ap (λ (ls : List ℕ). same_key (key_in old.decl ls) key) same

    elsewhere :
        (key : List ℕ) (k : ℕ) → k ≢ i
        → has_key old.decl key (entry_at (slice_set slots i None) k) ≡ has_key old.decl key (entry_at slots k)
    elsewhere key k ne = ap (has_key old.decl key) (entry-set_other slots i k None ne)

    was_bound : value_of old.map.pairs (key_of labels old) ≡ Some i
    was_bound = j.back (key_of labels old) i (here (key_of labels old) i refl ∙ (decides (key_of labels old)).1 refl)

    there :
        (key : List ℕ) (k : ℕ) → value_of new.map.pairs key ≡ Some k
        → has_key old.decl key (entry_at (slice_set slots i None) k) ≡ true
    there key k is = elim (cases_Bool (same_key (key_of labels old) key)) [
      | inl t ↦ absurd (none-some k (sym un.erased.unbound ∙ ap (value_of new.map.pairs) ((decides key).0 t) ∙ is))
      | inr f ↦
          let ne : key ≢ key_of labels old = λ q. both_ways (same_key (key_of labels old) key) f ((decides key).1 (sym q)) in
          let has = j.there key k (sym (un.erased.others key ne) ∙ is) in
          elsewhere key k (λ q. both_ways (same_key (key_of labels old) key) f (sym (here key k q) ∙ has)) ∙ has
    ]

    back :
        (key : List ℕ) (k : ℕ) → has_key old.decl key (entry_at (slice_set slots i None) k) ≡ true
        → value_of new.map.pairs key ≡ Some k
    back key k has = elim (cases_eq k i) [
      | inl q ↦ absurd (no_key old.decl key (entry_at (slice_set slots i None) k) (ap (entry_at (slice_set slots i None)) q ∙ entry-set_same slots i None lt) has)
      | inr nq ↦
          let was = j.back key k (sym (elsewhere key k nq) ∙ has) in
          un.erased.others key (λ q. nq (same_Some k i (sym was ∙ ap (value_of old.map.pairs) q ∙ was_bound))) ∙ was
    ]

-- an entry changed that keeps its labels
pub joined_changed :
    (size : ℕ) (slots : List (Option Entry)) (i : ℕ) (u v : Entry) (m : Keyed)
    → IsJoined size slots m → entry_at slots i ≡ Some u → v.labels ≡ u.labels
    → IsJoined size (slice_set slots i (Some v)) m
joined_changed size slots i u v m j stood same = record {
  room = j.room;
  count = omega (arith, j.count, live-set slots i (Some v) lt, ap weight stood);
  there = λ key k is. alike key k ∙ j.there key k is;
  back = λ key k has. j.back key k (sym (alike key k) ∙ has);
}
  where
    lt : i < length slots
    lt = entry_within slots i u stood

    alike :
        (key : List ℕ) (k : ℕ)
        → has_key m.decl key (entry_at (slice_set slots i (Some v)) k) ≡ has_key m.decl key (entry_at slots k)
    alike key k = elim (cases_eq k i) [
      | inl q ↦
          ap (λ (x : ℕ). has_key m.decl key (entry_at (slice_set slots i (Some v)) x)) q
          ∙ ap (has_key m.decl key) (entry-set_same slots i (Some v) lt)
          ∙ ap (λ (ls : List ℕ). same_key (key_in m.decl ls) key) same
          ∙ sym (ap (has_key m.decl key) stood)
          ∙ ap (λ (x : ℕ). has_key m.decl key (entry_at slots x)) (sym q)
      | inr nq ↦ ap (has_key m.decl key) (entry-set_other slots i k (Some v) nq)
    ]

-- maps in which no key is bound, beside no entries
pub joined_none :
    (size : ℕ) (decl : MapDecl)
    → IsJoined size (replicate size None) (keyed.keyed decl (bindings_of [] size))
joined_none size decl = record {
  room = refl;
  count = sym (live_none size);
  there = λ key k is. absurd (none-some k is);
  back = λ key k has. absurd (no_key decl key (entry_at (replicate size None) k) (entry_none size k) has);
}
