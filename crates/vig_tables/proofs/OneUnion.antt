-- There is one union of some states.
use Rattle.std.proofs.Common.{◌≡◌, ◌≢◌, ◌∙◌, ap, sym, refl, arith, ℕ, zero, suc, ◌<◌, max, eq-eqb, List, [], ◌∷◌, length, inl, inr}
use Rattle.std.specs.Prelude.{Option, Some, slice_get, nat_lt, if◌then◌else◌, ◌==◌}
use Rattle.std.proofs.lemmas.Bool.{cases_eq, cases_Bool, cond-true, cond-false, eqb-true, ltb-true, ltb-false}
use Rattle.std.proofs.lemmas.Option.{same_Some, slice_get_within}
use Rattle.nf_base.specs.declared.state.Chain.{Chain}
use Rattle.nf_base.specs.declared.state.Entry.{Entry}
use Rattle.nf_base.specs.declared.state.State.{State}
use Rattle.nf_base.specs.Chains.{chain_at, entry_at}
use Rattle.nf_base.specs.Step.{expired_state}
use Rattle.vig_tables.specs.Union.{cell_at, greatest_of, merged_cell, UnionsAreOne, GreatestIsOneOfTheirs, CellsAreTheChangedOnes}
use Rattle.vig_tables.proofs.Collecting.{same_items}
use Rattle.vig_tables.proofs.Owners.{greatest_above}

some_at :
    {A : Type 0} (xs : List A) (k : ℕ) → k < length xs → (x : A) × (slice_get xs k ≡ Some x)
some_at [] k lt = absurd (omega (arith, lt))
some_at (x ∷ xs) zero lt = (x, refl)
some_at (x ∷ xs) (suc k) lt = some_at xs k (omega (arith, lt))

-- slots with the same entries are one
same_slots :
    (xs ys : List (Option Entry)) → length xs ≡ length ys
    → ((i : ℕ) → i < length xs → entry_at xs i ≡ entry_at ys i) → xs ≡ ys
same_slots [] [] all each = refl
same_slots [] (y ∷ ys) all each = absurd (omega (arith, all))
same_slots (x ∷ xs) [] all each = absurd (omega (arith, all))
same_slots (x ∷ xs) (y ∷ ys) all each =
    ap (λ (z : Option Entry). z ∷ xs) (each 0 (omega arith))
    ∙ ap (λ (zs : List (Option Entry)). y ∷ zs) (same_slots xs ys (omega (arith, all)) (λ i lt. each (suc i) (omega (arith, lt))))

same_chain : (x y : Chain) → x.slots ≡ y.slots → x.greatest ≡ y.greatest → x ≡ y
same_chain x y slots greatest =
    ap (λ (s : List (Option Entry)). let chain : Chain = record { slots = s; greatest = x.greatest } in chain) slots
    ∙ ap (λ (g : ℕ). let chain : Chain = record { slots = y.slots; greatest = g } in chain) greatest

same_state : (s t : State) → s.chains ≡ t.chains → s.arrays ≡ t.arrays → s ≡ t
same_state s t chains arrays =
    ap (λ (cs : List Chain). let state : State = record { chains = cs; arrays = s.arrays } in state) chains
    ∙ ap (λ (cells : List (List ℕ)). let state : State = record { chains = t.chains; arrays = cells } in state) arrays

-- what is united of states that agree
same_greatest :
    (k shares : ℕ) (parts others : ℕ → State) → ((w : ℕ) → w < shares → parts w ≡ others w)
    → greatest_of k parts shares ≡ greatest_of k others shares
same_greatest k zero parts others agree = refl
same_greatest k (suc shares) parts others agree =
    ap (λ (s : State). max (chain_at s.chains k).greatest (greatest_of k parts shares)) (agree shares (omega arith))
    ∙ ap (max (chain_at (others shares).chains k).greatest) (same_greatest k shares parts others (λ w lt. agree w (omega (arith, lt))))

same_cell :
    (a i opened shares : ℕ) (parts others : ℕ → State)
    → ((w : ℕ) → w < shares → parts w ≡ others w)
    → merged_cell a i opened parts shares ≡ merged_cell a i opened others shares
same_cell a i opened zero parts others agree = refl
same_cell a i opened (suc shares) parts others agree =
    ap (λ (s : State). if cell_at s a i == opened then merged_cell a i opened parts shares else cell_at s a i) (agree shares (omega arith))
    ∙ ap (λ (v : ℕ). if cell_at (others shares) a i == opened then v else cell_at (others shares) a i) (same_cell a i opened shares parts others (λ w lt. agree w (omega (arith, lt))))

pub one_union : UnionsAreOne
one_union owner f time shares parts others s t within agree u v = same_state s t chains arrays
  where
    chains : s.chains ≡ t.chains
    chains = same_items s.chains t.chains (u.chain_count ∙ sym v.chain_count) (λ k x y at there.
        let decl = some_at f.chains k (omega (arith, slice_get_within s.chains k x at, u.chain_count)) in
        let a = u.chains k decl.0 x decl.1 at in
        let b = v.chains k decl.0 y decl.1 there in
        same_chain x y
        (same_slots x.slots y.slots (a.size ∙ sym b.size) (λ i lt.
        a.entries i (omega (arith, lt, a.size))
        ∙ ap (λ (part : State). entry_at (chain_at (expired_state f time part).chains k).slots i) (agree (owner k i) (within k i))
        ∙ sym (b.entries i (omega (arith, lt, a.size)))))
        (a.greatest ∙ same_greatest k shares parts others agree ∙ sym b.greatest))

    arrays : s.arrays ≡ t.arrays
    arrays = same_items s.arrays t.arrays (u.array_count ∙ sym v.array_count) (λ k x y at there.
        let decl = some_at f.arrays k (omega (arith, slice_get_within s.arrays k x at, u.array_count)) in
        let a = u.arrays k decl.0 x decl.1 at in
        let b = v.arrays k decl.0 y decl.1 there in
        same_items x y (a.size ∙ sym b.size) (λ i p q here also.
        let opened = some_at decl.0.cells i (omega (arith, slice_get_within x i p here, a.size)) in
        same_Some p q (sym here ∙ a.each i opened.0 opened.1 ∙ ap (λ (c : ℕ). Some c) (same_cell k i opened.0 shares parts others agree) ∙ sym (b.each i opened.0 opened.1) ∙ also)))

greatest_reached :
    (k shares : ℕ) (parts : ℕ → State) → 0 < shares
    → (w : ℕ) × (w < shares) × (greatest_of k parts shares ≡ (chain_at (parts w).chains k).greatest)
greatest_reached k zero parts some = absurd (omega (arith, some))
greatest_reached k (suc zero) parts some = (0, omega arith, omega arith)
greatest_reached k (suc (suc shares)) parts some =
    let before = greatest_reached k (suc shares) parts (omega arith) in
    let last = (chain_at (parts (suc shares)).chains k).greatest in
    elim (cases_Bool (nat_lt (greatest_of k parts (suc shares)) last)) [
      | inl t ↦ (suc shares, omega arith, omega (arith, ltb-true (greatest_of k parts (suc shares)) last t))
      | inr f ↦ (before.0, omega (arith, before.1), omega (arith, ltb-false (greatest_of k parts (suc shares)) last f, before.2))
    ]

pub one_of_theirs : GreatestIsOneOfTheirs
one_of_theirs = record {
  above = λ k shares w parts lt. greatest_above k shares w parts lt;
  reached = greatest_reached;
}

unchanged :
    (a i opened shares : ℕ) (parts : ℕ → State)
    → ((v : ℕ) → v < shares → cell_at (parts v) a i ≡ opened)
    → merged_cell a i opened parts shares ≡ opened
unchanged a i opened zero parts same = refl
unchanged a i opened (suc shares) parts same =
    cond-true (cell_at (parts shares) a i == opened) (merged_cell a i opened parts shares) (cell_at (parts shares) a i) (eq-eqb (cell_at (parts shares) a i) opened (same shares (omega arith)))
    ∙ unchanged a i opened shares parts (λ v lt. same v (omega (arith, lt)))

changed :
    (a i opened shares w : ℕ) (parts : ℕ → State) → w < shares
    → ((v : ℕ) → v < shares → v ≢ w → cell_at (parts v) a i ≡ opened)
    → merged_cell a i opened parts shares ≡ cell_at (parts w) a i
changed a i opened zero w parts lt others = absurd (omega (arith, lt))
changed a i opened (suc shares) w parts lt others = elim (cases_eq w shares) [
  | inl q ↦
      let before = unchanged a i opened shares parts (λ v below. others v (omega (arith, below)) (λ e. omega (arith, e, q, below))) in
      elim (cases_Bool (cell_at (parts shares) a i == opened)) [
        | inl t ↦
            cond-true (cell_at (parts shares) a i == opened) (merged_cell a i opened parts shares) (cell_at (parts shares) a i) t
            ∙ before
            ∙ sym (eqb-true (cell_at (parts shares) a i) opened t)
            ∙ ap (λ (v : ℕ). cell_at (parts v) a i) (sym q)
        | inr f ↦
            cond-false (cell_at (parts shares) a i == opened) (merged_cell a i opened parts shares) (cell_at (parts shares) a i) f
            ∙ ap (λ (v : ℕ). cell_at (parts v) a i) (sym q)
      ]
  | inr nq ↦
      cond-true (cell_at (parts shares) a i == opened) (merged_cell a i opened parts shares) (cell_at (parts shares) a i) (eq-eqb (cell_at (parts shares) a i) opened (others shares (omega arith) (λ e. nq (sym e))))
      ∙ changed a i opened shares w parts (omega (arith, lt, nq)) (λ v below ne. others v (omega (arith, below)) ne)
]

pub the_changed_ones : CellsAreTheChangedOnes
the_changed_ones = record { changed = changed; unchanged = unchanged }
