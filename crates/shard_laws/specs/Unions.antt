-- The union of the last states of several queues.
use Rattle.std.specs.Prelude.{◌≡◌, ◌≢◌, ◌<◌, ℕ, zero, suc, max, ◌==◌, length, Some, if◌then◌else◌, slice_get}
use Rattle.nf_base.specs.declared.state.State.{State}
use Rattle.nf_base.specs.Text.{Function}
use Rattle.nf_base.specs.Chains.{chain_at, array_at, expired, lifetime_of}
use Rattle.nf_base.specs.Context.{or_zero}
use Rattle.shard_laws.specs.Parts.{opened_of}

-- a cell of an array of a state
abbrev pub cell_at : State → ℕ → ℕ → ℕ
cell_at s a i = or_zero (slice_get (array_at s.arrays a) i)

-- of the copies 0 to below n of a cell, one that differs from the opening value, or else that value
abbrev pub merged_cell : ℕ → ℕ → ℕ → (ℕ → State) → ℕ → ℕ
merged_cell a i opened parts zero = opened
merged_cell a i opened parts (suc n) =
    if cell_at (parts n) a i == opened then merged_cell a i opened parts n
    else cell_at (parts n) a i

-- the greatest stamp that a chain has in the states 0 to below n
abbrev pub greatest_of : ℕ → (ℕ → State) → ℕ → ℕ
greatest_of k parts zero = 0
greatest_of k parts (suc n) = max (chain_at (parts n).chains k).greatest (greatest_of k parts n)

-- of the copies 0 to below n of a cell, at most one differs from the opening value
abbrev pub OneDiffers : ℕ → ℕ → ℕ → (ℕ → State) → ℕ → Type 0
OneDiffers a i opened parts n =
    (v w : ℕ) → v < n → w < n → cell_at (parts v) a i ≢ opened → cell_at (parts w) a i ≢ opened →
    v ≡ w

-- A state is the union of the states 0 to below n: at each index what its owner has there, without
-- what is past its lifetime at a time; in each cell the one copy that differs from the opening
-- value, or else that value; of each chain the greatest stamp of all.
pub record IsUnion (owner : ℕ → ℕ → ℕ) (f : Function) (time n : ℕ) (parts : ℕ → State) (s : State)
    : Type 0 where
  pub chains : (w : ℕ) → length s.chains ≡ length (parts w).chains
  pub arrays : (w : ℕ) → length s.arrays ≡ length (parts w).arrays
  pub slots : (k i : ℕ) →
      slice_get (chain_at s.chains k).slots i
      ≡ slice_get
      (chain_at (expired time (lifetime_of f.chains) (parts (owner k i)).chains) k).slots i
  pub sizes : (w a : ℕ) → length (array_at s.arrays a) ≡ length (array_at (parts w).arrays a)
  pub cells : (a i v : ℕ) → slice_get (array_at s.arrays a) i ≡ Some v →
      v ≡ merged_cell a i (opened_of f a i) parts n
  pub alone : (a i v : ℕ) → slice_get (array_at s.arrays a) i ≡ Some v →
      OneDiffers a i (opened_of f a i) parts n
  pub greatest : (k : ℕ) → (chain_at s.chains k).greatest ≡ greatest_of k parts n
