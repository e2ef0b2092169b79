-- The statements of a block in text order, by what is still to be listed.
use Rattle.std.specs.Prelude.{List, [], ◌∷◌, ◌++◌}
use denote.Ref.{Bor}
use Rattle.nf_base.specs.declared.block.Block as block
use Rattle.nf_base.specs.Text.{Block, End, Do, Ask, Make}
use Rattle.nf_base.specs.Statements.{Statement, Ends, Does, Asks, Makes, statements}
use Rattle.nf_base.specs.View.{block_of}

-- the first statement of a block
abbrev pub head_of : Block → Statement
head_of (End e) = Ends e
head_of (Do op next) = Does op
head_of (Ask q hit miss next) = Asks q
head_of (Make n made taken full next) = Makes n

-- that of a block behind a reference
abbrev pub head_seen : Bor block.Block → Statement
head_seen b = head_of (block_of b.now)

-- the statements of blocks that wait, the last block first
abbrev pub waiting : List Block → List Statement
waiting [] = []
waiting (b ∷ bs) = waiting bs ++ statements b
