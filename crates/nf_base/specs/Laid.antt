-- A block as the list of its statements.
use Rattle.std.specs.Prelude.{ℕ, ◌+◌, List, [], ◌∷◌, Option, Some, None}
use denote.Ref.{Bor}
use Rattle.nf_base.specs.declared.block.Block as block
use Rattle.nf_base.specs.Text.{Block, End, FallsOff, Do, Ask, Make}
use Rattle.nf_base.specs.View.{block_of}

-- a statement with something else behind it
abbrev pub before : Block → Block → Block
before (End e) next = End e
before (Do op rest) next = Do op next
before (Ask q hit miss rest) next = Ask q hit miss next
before (Make n made taken full rest) next = Make n made taken full next

-- statements in front of a block
abbrev pub laid : List Block → Block → Block
laid [] next = next
laid (b ∷ bs) next = before b (laid bs next)

-- what is left of a block, where something is
abbrev pub rest_of : Option (Bor block.Block) → Block
rest_of None = End FallsOff
rest_of (Some b) = block_of b.now

-- its depth and one more, or 0
abbrev pub rest_size : Option (Bor block.Block) → ℕ
rest_size None = 0
rest_size (Some b) = block.size-Block b.now + 1

-- a block behind a reference
abbrev pub block_seen : Bor block.Block → Block
block_seen b = block_of b.now
