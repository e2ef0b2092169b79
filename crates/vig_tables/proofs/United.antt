-- One chain of the union, entry by entry.
use Rattle.std.proofs.Common.{◌≡◌, ◌≢◌, ◌∙◌, ap, sym, refl, subst, arith, ℕ, zero, suc, ◌+◌, ◌<◌, ◌≤◌, max, Bool, true, false, ◌||◌, not, List, [], ◌∷◌, length, get_or, inl, inr}
use Rattle.std.specs.Prelude.{Option, Some, None, slice_get, slice_set, if◌then◌else◌, IsTrue}
use Rattle.std.specs.List.Sorted.{IsNonDecreasingBy}
use Rattle.std.proofs.lemmas.Bool.{cases_eq, cases_Bool, both_ways, and_from, cond-true, cond-false}
use Rattle.std.proofs.lemmas.List.{get_or_default, length-set, length-replicate}
use Rattle.std.proofs.lemmas.Option.{none-some}
use Rattle.std.proofs.lemmas.Slice.Eq.{bytes_eq-Decides}
use Rattle.nf_base.specs.declared.decl.ChainDecl.{ChainDecl}
use Rattle.nf_base.specs.declared.decl.MapDecl.{MapDecl}
use Rattle.nf_base.specs.declared.share.Share.{Share}
use Rattle.nf_base.specs.declared.state.Entry.{Entry}
use Rattle.nf_base.specs.Chains.{entry_at, found, has_key, is_found, is_taken, is_vacant, key_in}
use Rattle.nf_base.specs.Shares.{owns}
use Rattle.vig_tables.specs.declared.tables.merged.Aged.{Aged}
use Rattle.vig_tables.specs.Merging.{AreListed, IsAged}
use Rattle.vig_tables.specs.Table.{Table, opened, adopted, can_adopt, can_make_at, is_open}
use Rattle.vig_tables.proofs.Entries.{entry-set_same, entry-set_other, entry_none}
use Rattle.vig_tables.proofs.Joining.{index_found}
use Rattle.vig_tables.proofs.Merging.{AreApart, IsMerging}

-- an entry that has a key of some labels
record HasKeyOf (maps : List MapDecl) (labels : List ℕ) (slots : List (Option Entry)) : Type 0 where
  pub n : ℕ
  pub m : MapDecl
  pub j : ℕ
  pub it : Entry
  pub map : slice_get maps n ≡ Some m
  pub there : entry_at slots j ≡ Some it
  pub same : key_in m it.labels ≡ key_in m labels

behind :
    (m : MapDecl) (maps : List MapDecl) (labels : List ℕ) (slots : List (Option Entry))
    → HasKeyOf maps labels slots → HasKeyOf (m ∷ maps) labels slots
behind m maps labels slots h = record { n = suc h.n; m = h.m; j = h.j; it = h.it; map = h.map; there = h.there; same = h.same }

keyed_entry :
    (m : MapDecl) (key : List ℕ) (o : Option Entry) → has_key m key o ≡ true
    → (e : Entry) × (o ≡ Some e) × (key_in m e.labels ≡ key)
keyed_entry m key None has = absurd (grind arith)
keyed_entry m key (Some e) has = (e, refl, (bytes_eq-Decides (key_in m e.labels) key).0 has)

found_with :
    (m : MapDecl) (maps : List MapDecl) (labels : List ℕ) (slots : List (Option Entry))
    (o : Option ℕ) → found m (key_in m labels) slots ≡ o → is_found o ≡ true
    → HasKeyOf (m ∷ maps) labels slots
found_with m maps labels slots None is at = absurd (grind arith)
found_with m maps labels slots (Some j) is at =
    let e = keyed_entry m (key_in m labels) (entry_at slots j) (index_found m (key_in m labels) slots j is) in
    record { n = 0; m = m; j = j; it = e.0; map = refl; there = e.1; same = e.2 }

-- a key that is taken is that of an entry
taken_by :
    (maps : List MapDecl) (labels : List ℕ) (slots : List (Option Entry))
    → is_taken maps labels slots ≡ true → HasKeyOf maps labels slots
taken_by [] labels slots taken = absurd (grind arith)
taken_by (m ∷ maps) labels slots taken = elim (cases_Bool (is_found (found m (key_in m labels) slots))) [
  | inl t ↦ found_with m maps labels slots (found m (key_in m labels) slots) refl t
  | inr f ↦ behind m maps labels slots (taken_by maps labels slots (sym (ap (λ (b : Bool). b || is_taken maps labels slots) f) ∙ taken))
]

vacant_at :
    (slots : List (Option Entry)) (i : ℕ) → i < length slots → entry_at slots i ≡ None
    → is_vacant (slice_get slots i) ≡ true
vacant_at [] i lt none = absurd (omega arith)
vacant_at (None ∷ slots) zero lt none = refl
vacant_at (Some e ∷ slots) zero lt none = absurd (none-some e (sym none))
vacant_at (s ∷ slots) (suc i) lt none = vacant_at slots i (omega (arith, lt)) none

-- where an entry can't be made at an index of the whole share, it stands there already
refused :
    (maps : List MapDecl) (entry : ℕ → Option Entry) (share : Share) (slots : List (Option Entry))
    (i : ℕ) (it : Entry) → IsTrue (owns share i) → i < length slots → AreApart maps entry
    → ((j : ℕ) (e : Entry) → entry_at slots j ≡ Some e → entry j ≡ Some e) → entry i ≡ Some it
    → can_make_at maps it.labels share slots i ≡ false → entry_at slots i ≡ Some it
refused maps entry share slots i it own lt apart only here cannot = by_slot (entry_at slots i) refl
  where
    by_slot : (o : Option Entry) → entry_at slots i ≡ o → entry_at slots i ≡ Some it
    by_slot (Some e) at = at ∙ sym (only i e at) ∙ here
    by_slot None at =
        let vacant : is_open share slots i ≡ true = and_from (owns share i) (is_vacant (slice_get slots i)) own (vacant_at slots i lt at) in
        let taken : is_taken maps it.labels slots ≡ true = elim (cases_Bool (is_taken maps it.labels slots)) [
          | inl t ↦ t
          | inr f ↦ absurd (both_ways (can_make_at maps it.labels share slots i) cannot (and_from (not (is_taken maps it.labels slots)) (is_open share slots i) (ap (λ (b : Bool). not b) f) vacant))
        ] in
        let h = taken_by maps it.labels slots taken in
        let same = apart h.n h.j i h.m h.it it h.map (only h.j h.it h.there) here h.same in
        absurd (none-some h.it (sym at ∙ ap (entry_at slots) (sym same) ∙ h.there))

-- nothing was made yet
pub begun :
    (entry : ℕ → Option Entry) (top : ℕ) (entries : List Aged) (share : Share) (decl : ChainDecl)
    (t : Table) → t ≡ opened decl share → IsMerging entry top entries 0 share decl t
begun entry top entries share decl t is = rw is (record {
  decl_is = refl;
  share_is = refl;
  size = length-replicate decl.size None;
  done = λ apart n d lt. absurd (omega (arith, lt));
  only = λ i e at. absurd (none-some e (sym (entry_none decl.size i) ∙ at));
  ahead = λ n d lo hi. omega arith;
  under = omega arith;
})

-- one more was made
pub gone_on :
    (entry : ℕ → Option Entry) (tops : ℕ → ℕ) (top : ℕ) (entries : List Aged) (made : ℕ)
    (share : Share) (decl : ChainDecl) (owned : Option Entry) (d : Aged) (old new : Table)
    → ((i : ℕ) → tops i ≤ top) → ((i : ℕ) → IsTrue (owns share i))
    → AreListed entry tops decl.size entries
    → IsNonDecreasingBy (λ (x : Aged). x.stamp) entries → made < length entries
    → ((e : Entry) → entry (get_or entries made d).index ≡ Some e → owned ≡ Some e)
    → IsMerging entry top entries made share decl old
    → new ≡ (if can_adopt owned old (get_or entries made d).index then adopted owned (get_or entries made d).index old else old)
    → IsMerging entry top entries (made + 1) share decl new
gone_on entry tops top entries made share decl owned d old new below own listed rising lt is_owned m changed =
    elim (cases_Bool (can_make_at old.decl.maps it.labels old.share old.chain.slots i)) [
      | inl t ↦ subst (IsMerging entry top entries (made + 1) share decl) (sym (to ∙ cond-true (can_make_at old.decl.maps it.labels old.share old.chain.slots i) (adopted (Some it) i old) old t)) was_made
      | inr f ↦ subst (IsMerging entry top entries (made + 1) share decl) (sym (to ∙ cond-false (can_make_at old.decl.maps it.labels old.share old.chain.slots i) (adopted (Some it) i old) old f)) (was_there f)
    ]
  where
    i : ℕ
    i = (get_or entries made d).index

    aged : IsAged entry tops decl.size (get_or entries made d)
    aged = listed.sound made d lt

    it : Entry
    it = aged.it

    to : new ≡ (if can_make_at old.decl.maps it.labels old.share old.chain.slots i then adopted (Some it) i old else old)
    to = changed ∙ ap (λ (o : Option Entry). if can_adopt o old i then adopted o i old else old) (is_owned it aged.there)

    -- whichever entry stands for none
    index_at : (n : ℕ) (x y : Aged) → n < length entries → get_or entries n x ≡ get_or entries n y
    index_at n x y within = get_or_default entries n x y within

    was_there :
        can_make_at old.decl.maps it.labels old.share old.chain.slots i ≡ false
        → IsMerging entry top entries (made + 1) share decl old
    was_there f = record {
      decl_is = m.decl_is;
      share_is = m.share_is;
      size = m.size;
      done = λ apart n x below_n. elim (cases_eq n made) [
        | inl q ↦
            let at : get_or entries n x ≡ get_or entries made d = ap (λ (k : ℕ). get_or entries k x) q ∙ index_at made x d lt in
            let stands = refused decl.maps entry share old.chain.slots i it (own i) (omega (arith, aged.within, m.size)) apart m.only aged.there (rw (m.decl_is, m.share_is) at f) in
            ap (λ (y : Aged). entry_at old.chain.slots y.index) at ∙ stands ∙ sym aged.there ∙ ap (λ (y : Aged). entry y.index) (sym at)
        | inr nq ↦ m.done apart n x (omega (arith, nq, below_n))
      ];
      only = m.only;
      ahead = λ n x lo hi. m.ahead n x (omega (arith, lo)) hi;
      under = m.under;
    }

    stamp_is : max it.stamp old.chain.greatest ≡ it.stamp
    stamp_is = omega (arith, m.ahead made d (omega arith) lt, aged.stamp)

    within : i < length old.chain.slots
    within = omega (arith, aged.within, m.size)

    put : Option Entry
    put = Some (record it { stamp = max it.stamp old.chain.greatest })

    put_is : put ≡ Some it
    put_is = ap (λ (s : ℕ). Some (record it { stamp = s })) stamp_is

    was_made : IsMerging entry top entries (made + 1) share decl (adopted (Some it) i old)
    was_made = record {
      decl_is = m.decl_is;
      share_is = m.share_is;
      size = length-set old.chain.slots i put ∙ m.size;
      done = λ apart n x below_n. elim (cases_eq (get_or entries n x).index i) [
        | inl q ↦ ap (entry_at (slice_set old.chain.slots i put)) q ∙ entry-set_same old.chain.slots i put within ∙ put_is ∙ sym aged.there ∙ ap entry (sym q)
        | inr nq ↦ entry-set_other old.chain.slots i (get_or entries n x).index put nq ∙ m.done apart n x (before n x below_n nq)
      ];
      only = λ j e at. elim (cases_eq j i) [
        | inl q ↦ ap entry q ∙ aged.there ∙ sym put_is ∙ sym (entry-set_same old.chain.slots i put within) ∙ ap (entry_at (slice_set old.chain.slots i put)) (sym q) ∙ at
        | inr nq ↦ m.only j e (sym (entry-set_other old.chain.slots i j put nq) ∙ at)
      ];
      ahead = λ n x lo hi. omega (arith, stamp_is, aged.stamp, rising made n d (omega (arith, lo)) hi, ap (λ (y : Aged). y.stamp) (index_at n d x hi));
      under = omega (arith, stamp_is, aged.stamp, aged.under, below i);
    }
      where
        before : (n : ℕ) (x : Aged) → n < made + 1 → (get_or entries n x).index ≢ i → n < made
        before n x below_n nq = elim (cases_eq n made) [
          | inl q ↦ absurd (nq (ap (λ (k : ℕ). (get_or entries k x).index) q ∙ ap (λ (y : Aged). y.index) (index_at made x d lt)))
          | inr ne ↦ omega (arith, ne, below_n)
        ]

-- all were made: at each index stands what is to stand
pub ended :
    (entry : ℕ → Option Entry) (tops : ℕ → ℕ) (top : ℕ) (entries : List Aged) (made : ℕ)
    (share : Share) (decl : ChainDecl) (t : Table) → AreListed entry tops decl.size entries
    → IsMerging entry top entries made share decl t → length entries ≤ made
    → AreApart decl.maps entry → (i : ℕ) → i < decl.size → entry_at t.chain.slots i ≡ entry i
ended entry tops top entries made share decl t listed m all apart i lt = by_entry (entry i) refl
  where
    by_slot : (o : Option Entry) → entry i ≡ None → entry_at t.chain.slots i ≡ o → entry_at t.chain.slots i ≡ None
    by_slot None none at = at
    by_slot (Some e) none at = absurd (none-some e (sym none ∙ m.only i e at))

    by_entry : (o : Option Entry) → entry i ≡ o → entry_at t.chain.slots i ≡ entry i
    by_entry None none = by_slot (entry_at t.chain.slots i) none refl ∙ sym none
    by_entry (Some e) here =
        let one : Aged = record { stamp = e.stamp; index = i } in
        let c = listed.all i e lt here in
        let at : (get_or entries c.0 one).index ≡ i = ap (λ (y : Aged). y.index) c.2 in
        ap (entry_at t.chain.slots) (sym at) ∙ m.done apart c.0 one (omega (arith, c.1, all)) ∙ ap entry at
