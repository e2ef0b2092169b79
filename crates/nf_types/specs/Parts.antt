-- A checked block as the list of its finished statements.
use Rattle.std.specs.Prelude.{ℕ, ◌+◌, List, [], ◌∷◌, Option, Some, None}
use denote.Ref.{Bor}
use Rattle.nf_base.specs.Text as text
use Rattle.nf_base.specs.View.{ending_of, operation_of, question_of, creation_of, block_of}
use Rattle.nf_tree.specs.Tree.{Block, End, Do, Ask, Make}
use Rattle.nf_tree.specs.View as syntax
use Rattle.nf_tree.specs.declared.block.Block as declared
use Rattle.nf_types.specs.declared.part.Part.{Part}
use Rattle.nf_types.specs.declared.part.Part.TheVariants as parts
use Rattle.nf_types.specs.declared.objects.Objects.{Objects}
use Rattle.nf_types.specs.Variables.{Variable}
use Rattle.nf_types.specs.Places.{places}
use Rattle.nf_types.specs.Blocks.{checked_block}

-- a statement in front of a block; nothing stands behind an end
abbrev pub in_front : Part → text.Block → text.Block
in_front (parts.End e) next = text.End (ending_of e)
in_front (parts.Do op) next = text.Do (operation_of op) next
in_front (parts.Ask q hit miss) next =
    text.Ask (question_of q) (block_of hit.value) (block_of miss.value) next
in_front (parts.Make n made taken full) next =
    text.Make (creation_of n) (block_of made.value) (block_of taken.value) (block_of full.value)
    next

-- statements in front of a block
abbrev pub laid : List Part → text.Block → text.Block
laid [] next = next
laid (p ∷ ps) next = in_front p (laid ps next)

-- what follows the first statement of a block
abbrev pub rest_of : Block → Option Block
rest_of (End e) = None
rest_of (Do op next) = Some next
rest_of (Ask q hit miss next) = Some next
rest_of (Make n made taken full next) = Some next

-- what is left of a block stands for, where something is
abbrev pub checked_rest : ℕ → Objects → List Variable → Option Block → text.Block
checked_rest place o xs None = text.End text.FallsOff
checked_rest place o xs (Some b) = checked_block place o xs b

-- how many places it has
abbrev pub rest_places : Option Block → ℕ
rest_places None = 0
rest_places (Some b) = places b

-- a block behind a reference, where there is one, and its size and one more, or 0
abbrev pub rest_seen : Option (Bor declared.Block) → Option Block
rest_seen None = None
rest_seen (Some b) = Some (syntax.block_of b.now)

abbrev pub rest_size : Option (Bor declared.Block) → ℕ
rest_size None = 0
rest_size (Some b) = declared.size-Block b.now + 1
