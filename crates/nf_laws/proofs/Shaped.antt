-- Each step keeps the shape of a state.
use Rattle.std.proofs.Common.{◌≡◌, ℕ, zero, suc, List, [], ◌∷◌, length, map, replicate, All, Contains, Option, Some, None, slice_get, slice_set, refl, ap, sym, ◌∙◌, subst, inl, inr}
use Rattle.std.proofs.lemmas.Option.{same_Some}
use Rattle.std.proofs.lemmas.List.{length-map, length-replicate}
use Rattle.nf_base.specs.Doors.{blocks}
use Rattle.nf_base.specs.declared.decl.ColumnDecl.{ColumnDecl}
use Rattle.nf_base.specs.declared.decl.ChainDecl.{ChainDecl}
use Rattle.nf_base.specs.declared.decl.ArrayDecl.{ArrayDecl}
use Rattle.nf_base.specs.declared.packet.Fields.{Fields}
use Rattle.nf_base.specs.declared.width.Width.TheVariants.{W16}
use Rattle.nf_base.specs.declared.state.Entry.{Entry}
use Rattle.nf_base.specs.declared.state.Chain.{Chain}
use Rattle.nf_base.specs.declared.state.State.{State}
use Rattle.nf_base.specs.Text.{Function, Block, Operation, Touch, Free, Set, Write, Store}
use Rattle.nf_base.specs.Statements.{statements}
use Rattle.nf_base.specs.Limits.{AreFor, Fits}
use Rattle.nf_base.specs.Values.{narrowed}
use Rattle.nf_base.specs.Chains.{chain_at, array_at, zeros_of, lifetime_of, entry_at, alive, expired, next_stamp, on_live, stamped, touched, freed, with_column, written}
use Rattle.nf_base.specs.Context.{Context, Var, var_at, value, given}
use Rattle.nf_base.specs.Operations.{Stops, new_entry, on_var, after}
use Rattle.nf_base.specs.Step.{input, expired_state, opening_chain, opening_cells}
use Rattle.nf_base.proofs.Mixes.{got_set}
use Rattle.nf_laws.specs.Entries.{IsLive}
use Rattle.nf_laws.specs.States.{HasChainShape, HasShape, OpeningsHaveTheirShape, StepsKeepTheShape}
use Rattle.nf_laws.proofs.Indexed.{set_length, was_there}
use Rattle.nf_laws.proofs.Chained.{IsKeptByChains, does_keeps, makes_keeps, expired_keeps}
use Rattle.nf_laws.proofs.Kept.{IsKept, step_keeps}
use Rattle.nf_laws.proofs.Sound.{slot_of, kept_stood}

-- an entry with as many labels and columns as its chain declares
record Fitting (decl : ChainDecl) (entry : Entry) : Type 0 where
  pub labels : length entry.labels ≡ length decl.labels
  pub columns : length entry.columns ≡ length decl.columns

fitting : (decl : ChainDecl) (chain : Chain) (i : ℕ) (entry : Entry) → HasChainShape decl chain → IsLive chain.slots i entry → Fitting decl entry
fitting decl chain i entry h live = record { labels = h.labels i entry live; columns = h.columns i entry live }

-- one entry put, or none
put_shape : (decl : ChainDecl) (chain : Chain) (i greatest : ℕ) (new : Entry) → HasChainShape decl chain → Fitting decl new → HasChainShape decl (record { slots = slice_set chain.slots i (Some new); greatest = greatest })
put_shape decl chain i greatest new h fit = record {
  size = set_length chain.slots i (Some new) ∙ h.size;
  labels = λ j entry live. elim (got_set chain.slots i j (Some new) (Some entry) live) [
    | inl g ↦ subst (λ (x : Entry). length x.labels ≡ length decl.labels) (same_Some _ _ g.1) fit.labels
    | inr g ↦ h.labels j entry g.1
  ];
  columns = λ j entry live. elim (got_set chain.slots i j (Some new) (Some entry) live) [
    | inl g ↦ subst (λ (x : Entry). length x.columns ≡ length decl.columns) (same_Some _ _ g.1) fit.columns
    | inr g ↦ h.columns j entry g.1
  ];
}

fewer_shape : (decl : ChainDecl) (chain : Chain) (slots : List (Option Entry)) → length slots ≡ length chain.slots → ((i : ℕ) (entry : Entry) → IsLive slots i entry → IsLive chain.slots i entry) → HasChainShape decl chain → HasChainShape decl (record chain { slots = slots })
fewer_shape decl chain slots same fewer h = record {
  size = same ∙ h.size;
  labels = λ i entry live. h.labels i entry (fewer i entry live);
  columns = λ i entry live. h.columns i entry (fewer i entry live);
}

freed_shape : (decl : ChainDecl) (i : ℕ) (chain : Chain) → HasChainShape decl chain → HasChainShape decl (freed i chain)
freed_shape decl i chain h =
    fewer_shape decl chain (slice_set chain.slots i None) (set_length chain.slots i None) (λ j entry live. elim (got_set chain.slots i j None (Some entry) live) [ inl g ↦ let no_entry = g.1 in cc | inr g ↦ g.1 ]) h

touched_shape : (decl : ChainDecl) (time i : ℕ) (chain : Chain) → HasChainShape decl chain → HasChainShape decl (touched time i chain)
touched_shape decl time i chain h = of_entry (entry_at chain.slots i) refl
  where
    of_entry : (o : Option Entry) → entry_at chain.slots i ≡ o → HasChainShape decl (on_live (stamped time i) o chain)
    of_entry None e = h
    of_entry (Some entry) e =
        let fit = fitting decl chain i entry h (slot_of chain.slots i entry e) in
        put_shape decl chain i (next_stamp time chain) (record entry { stamp = next_stamp time chain }) h (record { labels = fit.labels; columns = fit.columns })

written_shape : (decl : ChainDecl) (column v i : ℕ) (chain : Chain) → HasChainShape decl chain → HasChainShape decl (written column v i chain)
written_shape decl column v i chain h = of_entry (entry_at chain.slots i) refl
  where
    of_entry : (o : Option Entry) → entry_at chain.slots i ≡ o → HasChainShape decl (on_live (with_column column v i) o chain)
    of_entry None e = h
    of_entry (Some entry) e =
        let fit = fitting decl chain i entry h (slot_of chain.slots i entry e) in
        put_shape decl chain i chain.greatest (record entry { columns = slice_set entry.columns column v }) h (record { labels = fit.labels; columns = set_length entry.columns column v ∙ fit.columns })

zeros_length : (decls : List ChainDecl) (k : ℕ) (decl : ChainDecl) → slice_get decls k ≡ Some decl → length (zeros_of decls k) ≡ length decl.columns
zeros_length [] k decl e = cc
zeros_length (d ∷ decls) zero decl e = length-map d.columns (λ (column : ColumnDecl). 0) ∙ ap (λ (x : ChainDecl). length x.columns) (same_Some _ _ e)
zeros_length (d ∷ decls) (suc k) decl e = zeros_length decls k decl e

labels_length : (count : ℕ) (o : Option ChainDecl) (decl : ChainDecl) → o ≡ Some decl → AreFor count o → count ≡ length decl.labels
labels_length count None decl e h = cc
labels_length count (Some d) decl e h = h ∙ ap (λ (x : ChainDecl). length x.labels) (same_Some _ _ e)

abbrev Good : List ChainDecl → ℕ → Chain → Type 0
Good decls k chain = (decl : ChainDecl) → slice_get decls k ≡ Some decl → HasChainShape decl chain

by_chains : (stops : Stops) (f : Function) (time : ℕ) (fields : Fields) → IsKeptByChains stops (input f time fields) (Fits f.chains) (Good f.chains)
by_chains stops f time fields =
    let p = input f time fields in
    record {
      touch = λ k i chain good decl is. touched_shape decl time i chain (good decl is);
      free = λ k i chain good decl is. freed_shape decl i chain (good decl is);
      write = λ k column v i chain good decl is. written_shape decl column v i chain (good decl is);
      make = λ n c i fits e good decl is. put_shape decl (chain_at c.state.chains n.chain) i (next_stamp time (chain_at c.state.chains n.chain)) (record (new_entry p c n) { stamp = next_stamp time (chain_at c.state.chains n.chain) }) (good decl is)
          (record { labels = length-map n.labels (given p c) ∙ labels_length (length n.labels) (slice_get f.chains n.chain) decl is fits.1; columns = zeros_length f.chains n.chain decl is });
    }

-- arrays
abbrev Cells : List ArrayDecl → List (List ℕ) → Type 0
Cells decls arrays = (k : ℕ) (decl : ArrayDecl) (cells : List ℕ) → slice_get decls k ≡ Some decl → slice_get arrays k ≡ Some cells → length cells ≡ length decl.cells

store_cells : (decls : List ArrayDecl) (arrays : List (List ℕ)) (array i v : ℕ) → Cells decls arrays → Cells decls (slice_set arrays array (slice_set (array_at arrays array) i v))
store_cells decls arrays array i v h k decl cells is at = elim (got_set arrays array k (slice_set (array_at arrays array) i v) cells at) [
  | inl g ↦
      let there : slice_get (slice_set arrays array (slice_set (array_at arrays array) i v)) array ≡ Some cells = subst (λ (j : ℕ). slice_get (slice_set arrays array (slice_set (array_at arrays array) i v)) j ≡ Some cells) g.0 at in
      let was = was_there arrays array (slice_set (array_at arrays array) i v) cells [] there in
      ap length (sym g.1) ∙ set_length (array_at arrays array) i v ∙ h array decl (array_at arrays array) (subst (λ (j : ℕ). slice_get decls j ≡ Some decl) g.0 is) was
  | inr g ↦ h k decl cells is g.1
]

var_length : (op : ℕ → Chain → Chain) (v : Var) (chains : List Chain) → length (on_var op v chains) ≡ length chains
var_length op None chains = refl
var_length op (Some at) chains = set_length chains at.chain (op at.index (chain_at chains at.chain))

does_shape : (stops : Stops) (f : Function) (time : ℕ) (fields : Fields) (op : Operation) (c : Context) → HasShape f c.state → HasShape f (after (input f time fields) c op).state
does_shape stops f time fields op c h =
    let p = input f time fields in
    let all = does_keeps stops p (Fits f.chains) (Good f.chains) (by_chains stops f time fields) op c (λ k chain at decl is. h.chain k decl chain is at) in
    of_op op (λ k decl chain is at. all k chain at decl is)
  where
    of_op : (op : Operation) → ((k : ℕ) (decl : ChainDecl) (chain : Chain) → slice_get f.chains k ≡ Some decl → slice_get (after (input f time fields) c op).state.chains k ≡ Some chain → HasChainShape decl chain) → HasShape f (after (input f time fields) c op).state
    of_op (Touch var) all = record { chains = var_length (touched time) (var_at c.vars var) c.state.chains ∙ h.chains; arrays = h.arrays; chain = all; cells = h.cells }
    of_op (Free var) all = record { chains = var_length freed (var_at c.vars var) c.state.chains ∙ h.chains; arrays = h.arrays; chain = all; cells = h.cells }
    of_op (Set field g) all = record { chains = h.chains; arrays = h.arrays; chain = all; cells = h.cells }
    of_op (Write var column g) all = record { chains = var_length (written column (given (input f time fields) c g)) (var_at c.vars var) c.state.chains ∙ h.chains; arrays = h.arrays; chain = all; cells = h.cells }
    of_op (Store place array at g) all =
        let i = narrowed W16 (value (input f time fields) c at) in
        let v = given (input f time fields) c g in
        record { chains = h.chains; arrays = set_length c.state.arrays array (slice_set (array_at c.state.arrays array) i v) ∙ h.arrays; chain = all; cells = store_cells f.arrays c.state.arrays array i v h.cells }

kept : (stops : Stops) (f : Function) (time : ℕ) (fields : Fields) → IsKept stops (input f time fields) (Fits f.chains) (HasShape f)
kept stops f time fields =
    let p = input f time fields in
    record {
      does = λ op c o h. does_shape stops f time fields op c h;
      makes = λ n c i o e h. record {
        chains = set_length c.state.chains n.chain (stamped time i (new_entry p c n) (chain_at c.state.chains n.chain)) ∙ h.chains;
        arrays = h.arrays;
        chain = λ k decl chain is at. makes_keeps stops p (Fits f.chains) (Good f.chains) (by_chains stops f time fields) n c i o e (λ j x there d there_is. h.chain j d x there_is there) k chain at decl is;
        cells = h.cells;
      };
    }

pub expired_length : (time : ℕ) (lifetime : ℕ → ℕ) (chains : List Chain) → length (expired time lifetime chains) ≡ length chains
expired_length time lifetime [] = refl
expired_length time lifetime (c ∷ chains) = ap suc (expired_length time (λ k. lifetime (suc k)) chains)

expired_shape : (f : Function) (time : ℕ) (s : State) → HasShape f s → HasShape f (expired_state f time s)
expired_shape f time s h = record {
  chains = expired_length time (lifetime_of f.chains) s.chains ∙ h.chains;
  arrays = h.arrays;
  chain = λ k decl chain is at.
      expired_keeps (Good f.chains) time (lifetime_of f.chains) s.chains
      (λ j x good d there. fewer_shape d x (map (alive time (lifetime_of f.chains j)) x.slots) (length-map x.slots (alive time (lifetime_of f.chains j))) (kept_stood time (lifetime_of f.chains j) x.slots) (good d there))
      (λ j x there d is_there. h.chain j d x is_there there) k chain at decl is;
  cells = h.cells;
}

-- a fact of each element, at one of them
pub at_element : {A : Type 0} (P : A → Type 0) (xs : List A) (x : A) → All P xs → Contains xs x → P x
at_element P xs x all h = subst P h.2 (all h.0 x h.1)

pub step_shape : StepsKeepTheShape
step_shape stops f s packet choices r fit h e =
    step_keeps stops f s packet choices r (Fits f.chains) (HasShape f) (kept stops f packet.time)
    (λ block i t j. at_element (Fits f.chains) (statements block) t (at_element (λ (b : Block). All (Fits f.chains) (statements b)) (blocks f) block fit i) j) h (expired_shape f packet.time s h) e

-- the opening state
no_entry : (n i : ℕ) (entry : Entry) → IsLive (replicate n None) i entry → ⊥
no_entry zero i entry at = cc
no_entry (suc n) zero entry at = cc
no_entry (suc n) (suc i) entry at = no_entry n i entry at

empty_shape : (decl : ChainDecl) → HasChainShape decl (opening_chain decl)
empty_shape decl = record {
  size = length-replicate decl.size None;
  labels = λ i entry live. absurd (no_entry decl.size i entry live);
  columns = λ i entry live. absurd (no_entry decl.size i entry live);
}

opening_chains : (decls : List ChainDecl) (k : ℕ) (decl : ChainDecl) (chain : Chain) → slice_get decls k ≡ Some decl → slice_get (map opening_chain decls) k ≡ Some chain → HasChainShape decl chain
opening_chains [] k decl chain is at = cc
opening_chains (d ∷ decls) zero decl chain is at = subst (HasChainShape decl) (ap opening_chain (sym (same_Some _ _ is)) ∙ same_Some _ _ at) (empty_shape decl)
opening_chains (d ∷ decls) (suc k) decl chain is at = opening_chains decls k decl chain is at

opening_arrays : (decls : List ArrayDecl) → Cells decls (map opening_cells decls)
opening_arrays [] k decl cells is at = cc
opening_arrays (d ∷ decls) zero decl cells is at = ap length (sym (same_Some _ _ at)) ∙ ap (λ (x : ArrayDecl). length x.cells) (same_Some _ _ is)
opening_arrays (d ∷ decls) (suc k) decl cells is at = opening_arrays decls k decl cells is at

pub opening_shape : OpeningsHaveTheirShape
opening_shape f = record {
  chains = length-map f.chains opening_chain;
  arrays = length-map f.arrays opening_cells;
  chain = opening_chains f.chains;
  cells = opening_arrays f.arrays;
}
