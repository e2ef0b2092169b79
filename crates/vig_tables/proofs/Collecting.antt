-- The chains and arrays of the union, one after the other.
use Rattle.std.proofs.Common.{◌≡◌, ◌∙◌, ap, sym, refl, subst, arith, ℕ, zero, suc, ◌+◌, ◌⊎◌, List, [], ◌∷◌, ◌++◌, length, map, get_or, inl, inr}
use Rattle.std.specs.Prelude.{Some, slice_get, All}
use Rattle.std.proofs.lemmas.List.{length-append, length-map}
use Rattle.std.proofs.lemmas.Option.{none-some, same_Some, slice_get-get_or}
use Rattle.nf_base.specs.declared.decl.ArrayDecl.{ArrayDecl}
use Rattle.nf_base.specs.declared.decl.ChainDecl.{ChainDecl}
use Rattle.nf_base.specs.declared.share.Share.{Share}
use Rattle.nf_base.specs.declared.state.Chain.{Chain}
use Rattle.nf_base.specs.declared.state.State.{State}
use Rattle.nf_base.specs.Text.{Function}
use Rattle.vig_tables.specs.Merging.{AreUnionTables, AreUnionArrays, IsUnionTable}
use Rattle.vig_tables.specs.Table.{Table}
use Rattle.vig_tables.specs.TablesState.{TablesState, decls_of, chains_of, IsOfShare}
use Rattle.vig_tables.specs.Union.{owner_among, state_in, HasNamesApart, IsUnion, IsUnionArray, IsUnionChain}

-- an item of a list with one more is one of the list, or that one
pub added :
    {A : Type 0} (xs : List A) (y x : A) (j : ℕ) → slice_get (xs ++ y ∷ []) j ≡ Some x
    → (slice_get xs j ≡ Some x) ⊎ ((j ≡ length xs) × (y ≡ x))
added [] y x zero at = inr (refl, same_Some y x at)
added [] y x (suc j) at = absurd (none-some x at)
added (z ∷ xs) y x zero at = inl at
added (z ∷ xs) y x (suc j) at = elim (added xs y x j at) [
  | inl there ↦ inl there
  | inr last ↦ inr (ap suc last.0, last.1)
]

-- lists with the same items are one
pub same_items :
    {A : Type 0} (xs ys : List A) → length xs ≡ length ys
    → ((k : ℕ) (x y : A) → slice_get xs k ≡ Some x → slice_get ys k ≡ Some y → x ≡ y) → xs ≡ ys
same_items [] [] all each = refl
same_items [] (y ∷ ys) all each = absurd (omega (arith, all))
same_items (x ∷ xs) [] all each = absurd (omega (arith, all))
same_items {A} (x ∷ xs) (y ∷ ys) all each =
    ap (λ (z : A). z ∷ xs) (each 0 x y refl refl)
    ∙ ap (λ (zs : List A). y ∷ zs) (same_items xs ys (omega (arith, all)) (λ k u v. each (suc k) u v))

-- an item of a list that a function made
mapped :
    {A B : Type 0} (f : A → B) (xs : List A) (k : ℕ) (y : B) → slice_get (map f xs) k ≡ Some y
    → (x : A) × (slice_get xs k ≡ Some x) × (f x ≡ y)
mapped f [] k y at = absurd (none-some y at)
mapped f (x ∷ xs) zero y at = (x, refl, same_Some (f x) y at)
mapped f (x ∷ xs) (suc k) y at = mapped f xs k y at

-- one more chain
pub one_chain_more :
    (f : Function) (share : Share) (time : ℕ) (parts : List TablesState) (k : ℕ) (t : Table)
    (old new : List Table) → AreUnionTables f share time parts k old
    → IsUnionTable f share time parts k t → new ≡ old ++ t ∷ []
    → AreUnionTables f share time parts (k + 1) new
one_chain_more f share time parts k t old new so_far it pushed = rw pushed (record {
  all = omega (arith, length-append old (t ∷ []), so_far.all);
  each = λ j u at. elim (added old t u j at) [
    | inl there ↦ so_far.each j u there
    | inr last ↦
        subst (λ (x : Table). IsUnionTable f share time parts j x) last.1
        (subst (λ (n : ℕ). IsUnionTable f share time parts n t) (sym (last.0 ∙ so_far.all)) it)
  ];
})

-- one more array
pub one_array_more :
    (shares : ℕ) (parts : ℕ → State) (decls : List ArrayDecl) (a : ℕ) (decl : ArrayDecl)
    (cells : List ℕ) (old new : List (List ℕ)) → AreUnionArrays shares parts decls a old
    → slice_get decls a ≡ Some decl → IsUnionArray shares parts a decl cells
    → new ≡ old ++ cells ∷ [] → AreUnionArrays shares parts decls (a + 1) new
one_array_more shares parts decls a decl cells old new so_far here it pushed = rw pushed (record {
  all = omega (arith, length-append old (cells ∷ []), so_far.all);
  each = λ j d u at there. elim (added old cells u j there) [
    | inl earlier ↦ so_far.each j d u at earlier
    | inr last ↦
        let same : decl ≡ d = same_Some decl d (sym here ∙ ap (slice_get decls) (sym (last.0 ∙ so_far.all)) ∙ at) in
        subst (λ (x : List ℕ). IsUnionArray shares parts j d x) last.1
        (subst (λ (n : ℕ). IsUnionArray shares parts n d cells) (sym (last.0 ∙ so_far.all))
        (subst (λ (x : ArrayDecl). IsUnionArray shares parts a x cells) same it))
  ];
})

-- all tables are of the share that they were made for
pub all_of_share :
    (f : Function) (share : Share) (time : ℕ) (parts : List TablesState) (tables : List Table)
    → AreUnionTables f share time parts (length f.chains) tables → All (IsOfShare share) tables
all_of_share f share time parts tables all k d lt =
    (all.each k (get_or tables k d) (slice_get-get_or tables k d lt)).share_is

-- their declarations are the function's
pub decls_united :
    (f : Function) (share : Share) (time : ℕ) (parts : List TablesState) (tables : List Table)
    → AreUnionTables f share time parts (length f.chains) tables → decls_of tables ≡ f.chains
decls_united f share time parts tables all =
    same_items (decls_of tables) f.chains (length-map tables (λ (t : Table). t.decl) ∙ all.all)
    (λ k x y at here.
    let t = mapped (λ (t : Table). t.decl) tables k x at in
    same_Some x y (ap (λ (d : ChainDecl). Some d) (sym t.2) ∙ sym (all.each k t.0 t.1).decl ∙ here))

-- they are the union
pub is_union :
    (f : Function) (share : Share) (time : ℕ) (parts : List TablesState) (tables : List Table)
    (arrays : List (List ℕ)) → AreUnionTables f share time parts (length f.chains) tables
    → AreUnionArrays (length parts) (state_in parts) f.arrays (length f.arrays) arrays
    → HasNamesApart (owner_among (length parts)) f time (state_in parts)
    → IsUnion (owner_among (length parts)) f time (length parts) (state_in parts) (record { chains = chains_of tables; arrays = arrays })
is_union f share time parts tables arrays all cells apart = record {
  chain_count = length-map tables (λ (t : Table). t.chain) ∙ all.all;
  array_count = cells.all;
  chains = λ k decl chain here at.
      let t = mapped (λ (t : Table). t.chain) tables k chain at in
      let it = all.each k t.0 t.1 in
      let same : t.0.decl ≡ decl = same_Some t.0.decl decl (sym it.decl ∙ here) in
      subst (λ (c : Chain). IsUnionChain (owner_among (length parts)) f time (length parts) (state_in parts) k decl c) t.2
      (subst (λ (d : ChainDecl). IsUnionChain (owner_among (length parts)) f time (length parts) (state_in parts) k d t.0.chain) same (it.chain apart));
  arrays = cells.each;
}
