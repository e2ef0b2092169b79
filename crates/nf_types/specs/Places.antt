-- How many places a block's text has: each `get`, `find`, `new` and `if`, and each array that is read or written.
use Rattle.std.specs.Prelude.{ℕ, ◌+◌}
use Rattle.nf_tree.specs.Tree.{Ending, FallsOff, Missing, Flood, Discard, Forward, Operation, Touch, Free, Set, Write, Store, Question, Get, Find, Test, Creation, Block, End, Do, Ask, Make}
use Rattle.nf_types.specs.Expressions.{cells}
use Rattle.nf_types.specs.Statements.{key_cells, given_cells, asked}

-- those of an end
abbrev pub ending_places : Ending → ℕ
ending_places FallsOff = 0
ending_places Missing = 0
ending_places Flood = 0
ending_places Discard = 0
ending_places (Forward v) = cells v

-- those of a statement with no block
abbrev pub operation_places : Operation → ℕ
operation_places (Touch x) = 0
operation_places (Free at x) = 0
operation_places (Set f at v) = cells v
operation_places (Write x y v) = cells v
operation_places (Store a i v) = 1 + cells i + cells v

-- those of a statement with two blocks, without the blocks
abbrev pub question_places : Question → ℕ
question_places (Get at x c m key close) = 1 + key_cells key
question_places (Find at x c i gs) = 1 + cells i + given_cells (asked gs)
question_places (Test l comparison r) = 1 + cells l + cells r

-- those of a `new`, without its blocks
abbrev pub creation_places : Creation → ℕ
creation_places n = 1 + given_cells n.given

-- those of a block
abbrev pub places : Block → ℕ
places (End e) = ending_places e
places (Do op next) = operation_places op + places next
places (Ask q hit miss next) = question_places q + places hit + places miss + places next
places (Make n made taken full next) =
    creation_places n + places made + places taken + places full + places next
