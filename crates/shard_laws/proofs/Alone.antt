-- Two unions of the same states are one state.
use Rattle.std.proofs.Common.{◌≡◌, ℕ, suc, List, [], ◌∷◌, length, get_or, Option, Some, slice_get, refl, ap₂, sym, ◌∙◌, arith}
use Rattle.std.proofs.lemmas.Option.{same_Some}
use Rattle.nf_base.specs.declared.state.Entry.{Entry}
use Rattle.nf_base.specs.declared.state.Chain.{Chain}
use Rattle.nf_base.specs.declared.state.State.{State}
use Rattle.nf_base.specs.Chains.{no_chain, chain_at, array_at}
use Rattle.shard_laws.specs.Parts.{opened_of}
use Rattle.shard_laws.specs.Unions.{merged_cell}
use Rattle.shard_laws.specs.Laws.{UnionsAreOne}

same_slots : {A : Type 0} (xs ys : List A) → ((i : ℕ) → slice_get xs i ≡ slice_get ys i) → xs ≡ ys
same_slots [] [] e = refl
same_slots [] (y ∷ ys) e = let q = e 0 in cc
same_slots (x ∷ xs) [] e = let q = e 0 in cc
same_slots (x ∷ xs) (y ∷ ys) e = ap₂ (λ z zs. z ∷ zs) (same_Some _ _ (e 0)) (same_slots xs ys (λ i. e (suc i)))

same_at : {A : Type 0} (d : A) (xs ys : List A) → length xs ≡ length ys → ((k : ℕ) → get_or xs k d ≡ get_or ys k d) → xs ≡ ys
same_at d [] [] long e = refl
same_at d [] (y ∷ ys) long e = cc
same_at d (x ∷ xs) [] long e = cc
same_at d (x ∷ xs) (y ∷ ys) long e = ap₂ (λ z zs. z ∷ zs) (e 0) (same_at d xs ys (omega (arith, long)) (λ k. e (suc k)))

same_cells : (m : ℕ → ℕ) (xs ys : List ℕ) → length xs ≡ length ys → ((i v : ℕ) → slice_get xs i ≡ Some v → v ≡ m i) → ((i v : ℕ) → slice_get ys i ≡ Some v → v ≡ m i) → xs ≡ ys
same_cells m [] [] long e g = refl
same_cells m [] (y ∷ ys) long e g = cc
same_cells m (x ∷ xs) [] long e g = cc
same_cells m (x ∷ xs) (y ∷ ys) long e g = ap₂ (λ z zs. z ∷ zs) (e 0 x refl ∙ sym (g 0 y refl)) (same_cells (λ i. m (suc i)) xs ys (omega (arith, long)) (λ i v q. e (suc i) v q) (λ i v q. g (suc i) v q))

same_chain : (a b : Chain) → a.slots ≡ b.slots → a.greatest ≡ b.greatest → a ≡ b
same_chain a b p q = ap₂ chain_of p q
  where
    chain_of : List (Option Entry) → ℕ → Chain
    chain_of slots greatest = record { slots = slots; greatest = greatest }

same_state : (s t : State) → s.chains ≡ t.chains → s.arrays ≡ t.arrays → s ≡ t
same_state s t p q = ap₂ state_of p q
  where
    state_of : List Chain → List (List ℕ) → State
    state_of chains arrays = record { chains = chains; arrays = arrays }

pub unions_are_one : UnionsAreOne
unions_are_one owner f time n parts s t a b = same_state s t
    (same_at no_chain s.chains t.chains (a.chains 0 ∙ sym (b.chains 0)) (λ k. same_chain (chain_at s.chains k) (chain_at t.chains k) (same_slots _ _ (λ i. a.slots k i ∙ sym (b.slots k i))) (a.greatest k ∙ sym (b.greatest k))))
    (same_at [] s.arrays t.arrays (a.arrays 0 ∙ sym (b.arrays 0)) (λ k. same_cells (λ i. merged_cell k i (opened_of f k i) parts n) (array_at s.arrays k) (array_at t.arrays k) (a.sizes 0 k ∙ sym (b.sizes 0 k)) (a.cells k) (b.cells k)))
