-- The union of the queues' last states is that of their tables.
use Rattle.std.proofs.Common.{◌≡◌, ◌<◌, ℕ, zero, suc, max, ◌==◌, List, [], ◌∷◌, length, map, Option, Some, None, if◌then◌else◌, slice_get, refl, ap, sym, ◌∙◌, arith}
use Rattle.std.specs.Option.{option_map}
use Rattle.std.proofs.lemmas.Nat.{mod_below}
use Rattle.std.proofs.lemmas.Option.{slice_get_within, slice_get-map, get_or_from_slice_get}
use Rattle.nf_base.specs.declared.decl.ArrayDecl.{ArrayDecl}
use Rattle.nf_base.specs.declared.state.Chain.{Chain}
use Rattle.nf_base.specs.declared.state.Entry.{Entry}
use Rattle.nf_base.specs.declared.state.State.{State}
use Rattle.nf_base.specs.Chains.{no_chain, chain_at, array_at, joined, entry_at}
use Rattle.nf_base.specs.Context.{or_zero}
use Rattle.nf_base.specs.Step.{expired_state, opening_cells}
use Rattle.nf_base.specs.Text.{Function}
use Rattle.nf_laws.specs.States.{IsSound, HasShape}
use Rattle.shard_laws.specs.Parts.{opened_of}
use Rattle.shard_laws.specs.Rule.{owner_of}
use Rattle.shard_laws.specs.Unions as queues
use Rattle.vig_tables.specs.Union as tables
use Rattle.vig_tables.specs.Union.{owner_among, united_entry, HasNamesApart}

-- the definitions on both sides say one thing
same_cell : (a i opened n : ℕ) (parts : ℕ → State) → queues.merged_cell a i opened parts n ≡ tables.merged_cell a i opened parts n
same_cell a i opened zero parts = refl
same_cell a i opened (suc n) parts = ap (λ (v : ℕ). if queues.cell_at (parts n) a i == opened then v else queues.cell_at (parts n) a i) (same_cell a i opened n parts)

same_greatest : (k n : ℕ) (parts : ℕ → State) → queues.greatest_of k parts n ≡ tables.greatest_of k parts n
same_greatest k zero parts = refl
same_greatest k (suc n) parts = ap (max (chain_at (parts n).chains k).greatest) (same_greatest k n parts)

some_at : {A : Type 0} (xs : List A) (i : ℕ) → i < length xs → (y : A) × (slice_get xs i ≡ Some y)
some_at [] i lt = absurd (omega (arith, lt))
some_at (x ∷ xs) zero lt = (x, refl)
some_at (x ∷ xs) (suc i) lt = some_at xs i (omega (arith, lt))

opened_is : (f : Function) (a i opened : ℕ) (decl : ArrayDecl) → slice_get f.arrays a ≡ Some decl → slice_get decl.cells i ≡ Some opened → opened_of f a i ≡ opened
opened_is f a i opened decl at there =
    let cells : slice_get (map opening_cells f.arrays) a ≡ Some decl.cells = slice_get-map opening_cells f.arrays a ∙ ap (option_map opening_cells) at in
    let here : array_at (map opening_cells f.arrays) a ≡ decl.cells = get_or_from_slice_get (map opening_cells f.arrays) a decl.cells [] cells in
    ap (λ (cs : List ℕ). or_zero (slice_get cs i)) here ∙ ap or_zero there

pub united : (n : ℕ) (f : Function) (time : ℕ) (parts : ℕ → State) (s : State) → queues.IsUnion (owner_of n) f time n parts s → HasShape f s → tables.IsUnion (owner_among n) f time n parts s
united n f time parts s u shape = record {
  chain_count = shape.chains;
  array_count = shape.arrays;
  chains = λ k decl chain at there.
      let here : chain_at s.chains k ≡ chain = get_or_from_slice_get s.chains k chain no_chain there in
      record {
        size = (shape.chain k decl chain at there).size;
        entries = λ i lt. ap (λ (c : Chain). entry_at c.slots i) (sym here) ∙ ap joined (u.slots k i);
        greatest = ap (λ (c : Chain). c.greatest) (sym here) ∙ u.greatest k ∙ same_greatest k n parts;
      };
  arrays = λ a decl cells at there.
      let size = shape.cells a decl cells at there in
      let here : array_at s.arrays a ≡ cells = get_or_from_slice_get s.arrays a cells [] there in
      record {
        size = size;
        each = λ i opened got.
            let lt = slice_get_within decl.cells i opened got in
            let v = some_at cells i (omega (arith, lt, size)) in
            v.1 ∙ ap (λ (z : ℕ). Some z) (u.cells a i v.0 (ap (λ (cs : List ℕ). slice_get cs i) here ∙ v.1) ∙ ap (λ (o : ℕ). queues.merged_cell a i o parts n) (opened_is f a i opened decl at got) ∙ same_cell a i opened n parts);
      };
}

-- no key of a map is that of two entries
live_of : (o : Option (Option Entry)) (e : Entry) → joined o ≡ Some e → o ≡ Some (Some e)
live_of None e q = cc
live_of (Some o) e q = ap (λ (z : Option Entry). Some z) q

there_chain : (chains : List Chain) (k i : ℕ) (e : Entry) → slice_get (chain_at chains k).slots i ≡ Some (Some e) → slice_get chains k ≡ Some (chain_at chains k)
there_chain [] k i e at = cc
there_chain (c ∷ chains) zero i e at = refl
there_chain (c ∷ chains) (suc k) i e at = there_chain chains k i e at

pub apart_names : (n : ℕ) (f : Function) (time : ℕ) (parts : ℕ → State) (s : State) → queues.IsUnion (owner_of n) f time n parts s → IsSound f s → HasNamesApart (owner_among n) f time parts
apart_names n f time parts s u sound k m i j decl a b at here there same =
    let first = live_of (slice_get (chain_at s.chains k).slots i) a (ap joined (u.slots k i) ∙ here) in
    let second = live_of (slice_get (chain_at s.chains k).slots j) b (ap joined (u.slots k j) ∙ there) in
    (sound k (chain_at s.chains k) (there_chain s.chains k i a first)).keys m i j decl a b at first second same

-- the same of states that agree
pub same_names : (n : ℕ) (f : Function) (time : ℕ) (parts others : ℕ → State) → 0 < n → ((w : ℕ) → w < n → parts w ≡ others w) → HasNamesApart (owner_among n) f time parts → HasNamesApart (owner_among n) f time others
same_names n f time parts others some agree apart k m i j decl a b at here there same =
    let as_ = λ (v : ℕ). ap (λ (s : State). entry_at (chain_at (expired_state f time s).chains k).slots v) (agree (owner_among n k v) (mod_below v n some)) in
    apart k m i j decl a b at (as_ i ∙ here) (as_ j ∙ there) same
