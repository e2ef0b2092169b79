-- Tables of shares that were opened.
use Rattle.std.specs.Prelude.{◌≡◌, ◌+◌, ℕ, List, length, Some, Result, Ok, slice_get}
use Rattle.std.specs.declared.alloc.AllocError.{AllocError}
use Rattle.nf_base.specs.declared.share.Share.{Share}
use Rattle.nf_base.specs.Text.{Function}
use Rattle.vig_tables.specs.TablesState.{TablesState, opened_tables}

-- the tables of the share of a queue, of so many
abbrev pub IsOpenedAt : Function → ℕ → ℕ → TablesState → Type 0
IsOpenedAt f workers queue tables =
    (share : Share)
    × (share.queue ≡ queue)
    × (share.of ≡ workers)
    × (tables ≡ opened_tables f share)

-- those of all queues from one on, where there was memory for them
pub record AreOpenedFrom (f : Function) (workers first : ℕ)
    (opened : List (Result TablesState AllocError)) : Type 0 where
  pub all : first + length opened ≡ workers
  pub each : (k : ℕ) (tables : TablesState) → slice_get opened k ≡ Some (Ok tables) →
      IsOpenedAt f workers (first + k) tables
