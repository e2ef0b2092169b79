-- What the owners of a chain's indices have.
use Rattle.std.proofs.Common.{◌≡◌, ◌∙◌, ap, sym, refl, arith, ℕ, zero, suc, ◌+◌, ◌<◌, ◌≤◌, ◌%◌, Bool, true, false, inl, inr, eq-eqb, List, [], ◌∷◌, length, map}
use Rattle.std.specs.Prelude.{Option, Some, None, slice_get, IsTrue, if◌then◌else◌, nat_eq, nat_lt}
use Rattle.std.proofs.lemmas.Bool.{cases_eq}
use Rattle.std.proofs.lemmas.List.Elements.{All-head, All-tail}
use Rattle.std.proofs.lemmas.Option.{none-some}
use Rattle.nf_base.specs.declared.decl.ChainDecl.{ChainDecl}
use Rattle.nf_base.specs.declared.decl.MapDecl.{MapDecl}
use Rattle.nf_base.specs.declared.share.Share.{Share}
use Rattle.nf_base.specs.declared.state.Chain.{Chain}
use Rattle.nf_base.specs.declared.state.Entry.{Entry}
use Rattle.nf_base.specs.declared.state.State.{State}
use Rattle.nf_base.specs.Chains.{chain_at, entry_at, alive, expired, unexpired, lifetime_of}
use Rattle.nf_base.specs.Shares.{owns}
use Rattle.nf_base.specs.Text.{Function}
use Rattle.vig_tables.specs.declared.tables.merged.Aged.{Aged}
use Rattle.vig_tables.specs.Merging.{decls_in, living_entry, owned_entry, owned_greatest, AreListed, HaveChain, IsUnionTable}
use Rattle.vig_tables.specs.Table.{Table, with_chain, raised}
use Rattle.vig_tables.specs.TablesState.{TablesState}
use Rattle.vig_tables.specs.Union.{owner_among, united_entry, greatest_of, state_in, AreOf, HasNamesApart}
use Rattle.vig_tables.proofs.Merging.{AreApart, IsMerging}
use Rattle.vig_tables.proofs.StateLemmas.{some_read}
use Rattle.vig_tables.proofs.United.{ended}

-- a chain of those that are without what is past its lifetime
pub expired_at :
    (time : ℕ) (lifetime : ℕ → ℕ) (chains : List Chain) (k : ℕ)
    → chain_at (expired time lifetime chains) k ≡ unexpired time (lifetime k) (chain_at chains k)
expired_at time lifetime [] k = refl
expired_at time lifetime (chain ∷ chains) zero = refl
expired_at time lifetime (chain ∷ chains) (suc k) = expired_at time (λ j. lifetime (suc j)) chains k

-- an entry of such a chain
alive_at :
    (time lifetime : ℕ) (slots : List (Option Entry)) (i : ℕ)
    → entry_at (map (alive time lifetime) slots) i ≡ alive time lifetime (entry_at slots i)
alive_at time lifetime [] i = refl
alive_at time lifetime (s ∷ slots) zero = refl
alive_at time lifetime (s ∷ slots) (suc i) = alive_at time lifetime slots i

-- an entry that is not past its lifetime is the one that stands
alive_same :
    (time lifetime : ℕ) (o : Option Entry) (e : Entry) → alive time lifetime o ≡ Some e
    → o ≡ Some e
alive_same time lifetime None e here = absurd (none-some e here)
alive_same time lifetime (Some x) e here = by_age (nat_lt (x.stamp + lifetime) time) here
  where
    by_age : (past : Bool) → (if past then None else Some x) ≡ Some e → Some x ≡ Some e
    by_age true here = absurd (none-some e here)
    by_age false here = here

decls_are :
    (chains : List ChainDecl) (parts : List TablesState) → AreOf chains parts → (w : ℕ)
    → w < length parts → decls_in parts w ≡ chains
decls_are chains [] all w lt = absurd (omega (arith, lt))
decls_are chains (t ∷ parts) all zero lt = All-head (λ (x : TablesState). x.decls ≡ chains) t parts all
decls_are chains (t ∷ parts) all (suc w) lt = decls_are chains parts (All-tail (λ (x : TablesState). x.decls ≡ chains) t parts all) w (omega (arith, lt))

owner_within : (i shares : ℕ) → 1 ≤ shares → i % shares < shares
owner_within i shares some = omega (arith, some)

-- what an owner has that is not past its lifetime is the union's
pub living_is :
    (f : Function) (time : ℕ) (parts : List TablesState) (k i : ℕ) → AreOf f.chains parts
    → 1 ≤ length parts
    → living_entry parts k time i ≡ united_entry (owner_among (length parts)) f time (state_in parts) k i
living_is f time parts k i all some =
    let w = i % length parts in
    ap (λ (ds : List ChainDecl). alive time (lifetime_of ds k) (owned_entry parts k i)) (decls_are f.chains parts all w (owner_within i (length parts) some))
    ∙ sym (alive_at time (lifetime_of f.chains k) (chain_at (state_in parts w).chains k).slots i)
    ∙ sym (ap (λ (chain : Chain). entry_at chain.slots i) (expired_at time (lifetime_of f.chains) (state_in parts w).chains k))

pub owned_is :
    (time : ℕ) (parts : List TablesState) (k i : ℕ) (e : Entry)
    → living_entry parts k time i ≡ Some e → owned_entry parts k i ≡ Some e
owned_is time parts k i e here = alive_same time (lifetime_of (decls_in parts (i % length parts)) k) (owned_entry parts k i) e here

-- no share's greatest stamp is above that of all
pub greatest_above :
    (k shares w : ℕ) (parts : ℕ → State) → w < shares
    → (chain_at (parts w).chains k).greatest ≤ greatest_of k parts shares
greatest_above k zero w parts lt = absurd (omega (arith, lt))
greatest_above k (suc shares) w parts lt = elim (cases_eq w shares) [
  | inl q ↦ rw q (omega arith)
  | inr nq ↦ omega (arith, greatest_above k shares w parts (omega (arith, lt, nq)))
]

pub owned_below :
    (parts : List TablesState) (k i : ℕ) → 1 ≤ length parts
    → owned_greatest parts k i ≤ greatest_of k (state_in parts) (length parts)
owned_below parts k i some = greatest_above k (length parts) (i % length parts) (state_in parts) (owner_within i (length parts) some)

-- each index is the whole share's own
pub whole_owns : (share : Share) → share.of ≡ 1 → (i : ℕ) → IsTrue (owns share i)
whole_owns share one i =
    let first : share.queue ≡ 0 = omega (arith, share.within.0) in
    rw (one, first) (only_one i)
  where
    only_one : (i : ℕ) → nat_eq (i % 1) 0 ≡ true
    only_one i = eq-eqb (i % 1) 0 (omega arith)

pub have_chain :
    (chains : List ChainDecl) (parts : List TablesState) (k : ℕ) (decl : ChainDecl)
    → AreOf chains parts → slice_get chains k ≡ Some decl → HaveChain k decl parts
have_chain chains parts k decl all at w t lt = ap (λ (ds : List ChainDecl). slice_get ds k) (all w t lt) ∙ at

pub entries_apart :
    (f : Function) (time : ℕ) (parts : List TablesState) (k : ℕ) (decl : ChainDecl)
    → AreOf f.chains parts → 1 ≤ length parts → slice_get f.chains k ≡ Some decl
    → HasNamesApart (owner_among (length parts)) f time (state_in parts)
    → AreApart decl.maps (living_entry parts k time)
entries_apart f time parts k decl all some at apart n i j m a b map here there same =
    apart k n i j m a b
    (ap (λ (ms : List MapDecl). slice_get ms n) (some_read (λ (d : ChainDecl). d.maps) f.chains k decl [] at) ∙ map)
    (sym (living_is f time parts k i all some) ∙ here)
    (sym (living_is f time parts k j all some) ∙ there)
    same

-- where all entries were made, and the greatest stamp is that of all, the chain is the union's
pub united :
    (f : Function) (share : Share) (time : ℕ) (parts : List TablesState) (k : ℕ)
    (tops : ℕ → ℕ) (entries : List Aged) (made : ℕ) (decl : ChainDecl) (m t : Table)
    → AreOf f.chains parts → 1 ≤ length parts → slice_get f.chains k ≡ Some decl
    → AreListed (living_entry parts k time) tops decl.size entries
    → IsMerging (living_entry parts k time) (greatest_of k (state_in parts) (length parts)) entries made share decl m
    → length entries ≤ made
    → t ≡ with_chain (raised (greatest_of k (state_in parts) (length parts)) m.chain) m
    → IsUnionTable f share time parts k t
united f share time parts k tops entries made decl m t all some at listed merging done is = rw is (record {
  decl = at ∙ ap (λ (d : ChainDecl). Some d) (sym merging.decl_is);
  share_is = merging.share_is;
  chain = λ apart. record {
    size = merging.size ∙ ap (λ (d : ChainDecl). d.size) (sym merging.decl_is);
    entries = λ i lt.
        ended (living_entry parts k time) tops (greatest_of k (state_in parts) (length parts)) entries made share decl m listed merging done (entries_apart f time parts k decl all some at apart) i (rw merging.decl_is at lt)
        ∙ living_is f time parts k i all some;
    greatest = omega (arith, merging.under);
  };
})
