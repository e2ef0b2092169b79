-- What stands at a place of code, and the block that a place stands for.
use Rattle.std.specs.Prelude.{◌≡◌, ℕ, ◌<◌, ◌≤◌, List, [], ◌∷◌, length, nat_eq, if◌then◌else◌}
use Rattle.nf_base.specs.Text.{Block, End, FallsOff, Forward, Flood, Discard, Do, Ask, Make}
use Rattle.nf_base.specs.View.{expression_of, operation_of, question_of, creation_of}
use Rattle.nf_code.specs.declared.code.Op.{Op}
use Rattle.nf_code.specs.declared.code.Op.TheVariants as op

-- whether what may follow a statement stands below a place
abbrev pub IsBelow : ℕ → Op → Type 0
IsBelow at op.Falls = Unit {0}
IsBelow at (op.Forward port) = Unit {0}
IsBelow at op.Flood = Unit {0}
IsBelow at op.Discard = Unit {0}
IsBelow at (op.Do o next) = next < at
IsBelow at (op.Ask q hit miss) = (hit < at) × (miss < at)
IsBelow at (op.Make n made taken full) = (made < at) × (taken < at) × (full < at)

-- whether what may follow each statement stands below it
abbrev pub AreLow : List Op → Type 0
AreLow [] = Unit {0}
AreLow (last ∷ older) = IsBelow (length older) last × AreLow older

-- a statement, with the blocks that its places stand for; nothing stands behind one that branches
abbrev pub read_as : Op → (ℕ → Block) → Block
read_as op.Falls at = End FallsOff
read_as (op.Forward port) at = End (Forward (expression_of port.now))
read_as op.Flood at = End Flood
read_as op.Discard at = End Discard
read_as (op.Do o next) at = Do (operation_of o.now) (at next)
read_as (op.Ask q hit miss) at = Ask (question_of q.now) (at hit) (at miss) (End FallsOff)
read_as (op.Make n made taken full) at =
    Make (creation_of n.now) (at made) (at taken) (at full) (End FallsOff)

-- the block that a place stands for
abbrev pub block_at : List Op → ℕ → Block
block_at [] at = End FallsOff
block_at (last ∷ older) at =
    if nat_eq at (length older) then read_as last (block_at older) else block_at older at

-- statements were only added: lower places stand for what they stood for
pub record Keeps (old new : List Op) : Type 0 where
  pub longer : length old ≤ length new
  pub same : (at : ℕ) → at < length old → block_at new at ≡ block_at old at

-- with what was added, a place stands for a block
pub record Puts (block : Block) (old new : List Op) (at : ℕ) : Type 0 where
  pub keeps : Keeps old new
  pub within : at < length new
  pub stands : block_at new at ≡ block
