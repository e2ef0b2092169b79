-- The union of shares, step by step.
use Rattle.std.proofs.Common.{◌≡◌, ◌∙◌, ap, sym, refl, arith, ℕ, zero, suc, ◌+◌, ◌<◌, ◌≤◌, List, [], ◌∷◌, ◌++◌, length, get_or, inl, inr}
use Rattle.std.specs.Prelude.{Option, Some, None, slice_get, All, IfSome}
use Rattle.std.specs.List.Sorted.{IsPermutation}
use Rattle.std.specs.Option.{option_map}
use Rattle.std.proofs.lemmas.Bool.{cases_eq}
use Rattle.std.proofs.lemmas.List.{append-nil}
use Rattle.std.proofs.lemmas.List.Elements.{All-append, Contains-append_left, Contains-append_right}
use Rattle.std.proofs.lemmas.List.Sorted.{All-permutation, Contains-permutation}
use Rattle.std.proofs.lemmas.Option.{none-some, same_Some}
use Rattle.nf_base.specs.declared.decl.ChainDecl.{ChainDecl}
use Rattle.nf_base.specs.declared.decl.MapDecl.{MapDecl}
use Rattle.nf_base.specs.declared.share.Share.{Share}
use Rattle.nf_base.specs.declared.state.Entry.{Entry}
use Rattle.nf_base.specs.declared.state.State.{State}
use Rattle.nf_base.specs.Chains.{entry_at, key_in}
use Rattle.vig_tables.specs.declared.tables.merged.Aged.{Aged}
use Rattle.vig_tables.specs.Merging.{AreListed, IsAged, aged_of}
use Rattle.vig_tables.specs.Table.{Table}
use Rattle.vig_tables.specs.Union.{merged_cell}

-- the cells of an array below an index
pub record AreCells (shares : ℕ) (parts : ℕ → State) (a : ℕ) (opened : List ℕ) (below : ℕ)
    (cells : List ℕ) : Type 0 where
  pub size : length cells ≡ below
  pub each :
      (i value : ℕ) → i < below → slice_get opened i ≡ Some value
      → slice_get cells i ≡ Some (merged_cell a i value parts shares)

-- no two entries have one key of a map
abbrev pub AreApart : List MapDecl → (ℕ → Option Entry) → Type 0
AreApart maps entry =
    (n i j : ℕ) (m : MapDecl) (a b : Entry) → slice_get maps n ≡ Some m → entry i ≡ Some a
    → entry j ≡ Some b → key_in m a.labels ≡ key_in m b.labels → i ≡ j

-- The first of some listed entries were made: each stands, where no two have one key, and no others
-- do; those to come have no lesser stamps.
pub record IsMerging (entry : ℕ → Option Entry) (top : ℕ) (entries : List Aged) (made : ℕ)
    (share : Share) (decl : ChainDecl) (t : Table) : Type 0 where
  pub decl_is : t.decl ≡ decl
  pub share_is : t.share ≡ share
  pub size : length t.chain.slots ≡ decl.size
  pub done :
      AreApart decl.maps entry → (n : ℕ) (d : Aged) → n < made
      → entry_at t.chain.slots (get_or entries n d).index ≡ entry (get_or entries n d).index
  pub only : (i : ℕ) (e : Entry) → entry_at t.chain.slots i ≡ Some e → entry i ≡ Some e
  pub ahead :
      (n : ℕ) (d : Aged) → made ≤ n → n < length entries
      → t.chain.greatest ≤ (get_or entries n d).stamp
  pub under : t.chain.greatest ≤ top

alone : {A : Type 0} (P : A → Type 0) (x : A) → P x → All P (x ∷ [])
alone P x p zero d lt = p
alone P x p (suc k) d lt = absurd (omega (arith, lt))

-- one more index was looked at
pub listed_more :
    (entry : ℕ → Option Entry) (top : ℕ → ℕ) (below : ℕ) (old new : List Aged) (o : Option ℕ)
    → AreListed entry top below old → o ≡ option_map (λ (e : Entry). e.stamp) (entry below)
    → IfSome o (λ stamp. stamp ≤ top below) → new ≡ old ++ aged_of below o
    → AreListed entry top (below + 1) new
listed_more entry top below old new o listed is under pushed = by_entry (entry below) o refl is under pushed
  where
    older : (x : Aged) → IsAged entry top below x → IsAged entry top (below + 1) x
    older x a = record { within = omega (arith, a.within); it = a.it; there = a.there; stamp = a.stamp; under = a.under }

    sound_old : All (IsAged entry top (below + 1)) old
    sound_old k d lt = older (get_or old k d) (listed.sound k d lt)

    by_entry :
        (x : Option Entry) (p : Option ℕ) → entry below ≡ x
        → p ≡ option_map (λ (e : Entry). e.stamp) (entry below)
        → IfSome p (λ stamp. stamp ≤ top below) → new ≡ old ++ aged_of below p
        → AreListed entry top (below + 1) new
    by_entry None None here is under pushed = record {
      sound = rw (pushed, append-nil) sound_old;
      all = λ i e lt at. rw (pushed, append-nil) (elim (cases_eq i below) [
        | inl q ↦ absurd (none-some e (sym here ∙ ap entry (sym q) ∙ at))
        | inr nq ↦ listed.all i e (omega (arith, nq)) at
      ]);
    }
    by_entry None (Some s) here is under pushed = absurd (none-some s (sym (is ∙ ap (option_map (λ (e : Entry). e.stamp)) here)))
    by_entry (Some x) None here is under pushed = absurd (none-some x.stamp (is ∙ ap (option_map (λ (e : Entry). e.stamp)) here))
    by_entry (Some x) (Some s) here is under pushed =
        let same : s ≡ x.stamp = same_Some s x.stamp (is ∙ ap (option_map (λ (e : Entry). e.stamp)) here) in
        let one : Aged = record { stamp = s; index = below } in
        let aged : IsAged entry top (below + 1) one = record { within = omega arith; it = x; there = here; stamp = sym same; under = under } in
        record {
          sound = rw pushed (All-append (IsAged entry top (below + 1)) old (one ∷ []) sound_old (alone (IsAged entry top (below + 1)) one aged));
          all = λ i e lt at. rw pushed (elim (cases_eq i below) [
            | inl q ↦
                let it : x ≡ e = same_Some x e (sym here ∙ ap entry (sym q) ∙ at) in
                Contains-append_right old (one ∷ []) _ (0, omega arith, added i e q (same ∙ ap (λ (y : Entry). y.stamp) it))
            | inr nq ↦ Contains-append_left old (one ∷ []) _ (listed.all i e (omega (arith, nq)) at)
          ]);
        }
      where
        added : (i : ℕ) (e : Entry) → i ≡ below → s ≡ e.stamp → ◌≡◌ {A = Aged} (record { stamp = s; index = below }) (record { stamp = e.stamp; index = i })
        added i e q is = rw (q, is) refl

-- the same entries in another order
pub listed_again :
    (entry : ℕ → Option Entry) (top : ℕ → ℕ) (below : ℕ) (old new : List Aged)
    → IsPermutation old new → AreListed entry top below old → AreListed entry top below new
listed_again entry top below old new moved listed = record {
  sound = All-permutation (IsAged entry top below) old new moved listed.sound;
  all = λ i e lt at. Contains-permutation old new (record { stamp = e.stamp; index = i }) moved (listed.all i e lt at);
}
