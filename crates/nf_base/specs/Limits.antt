-- The limits that the declared types keep.
use Rattle.std.specs.Prelude.{◌≡◌, ℕ, ◌+◌, ◌<◌, ◌≤◌, List, [], ◌∷◌, length, All, Option, Some, None, slice_get}
use Rattle.std.specs.List.{count_by}
use Rattle.nf_base.specs.declared.block.Block as block
use Rattle.nf_base.specs.declared.decl.MapDecl.{MapDecl}
use Rattle.nf_base.specs.declared.decl.ChainDecl.{ChainDecl}
use Rattle.nf_base.specs.Text.{Question, Get, Find, Test, Creation}
use Rattle.nf_base.specs.View.{block_of}
use Rattle.nf_base.specs.Statements.{Statement, Ends, Does, Asks, Makes, statements, is_new, is_lookup, open_blocks}

-- at most 16 `new`, at most 32 of `get`, `find` and `new` together, and at most 64 blocks open
abbrev pub IsWithinLimits : block.Block → Type 0
IsWithinLimits b =
    (count_by is_new (statements (block_of b)) ≤ 16)
    × (count_by is_lookup (statements (block_of b)) ≤ 32)
    × (open_blocks (block_of b) ≤ 64)

-- so many values are one for each label of a chain; where there is no such chain, no entry is made
abbrev pub AreFor : ℕ → Option ChainDecl → Type 0
AreFor count None = Unit {0}
AreFor count (Some decl) = count ≡ length decl.labels

-- a `get` looks up at most 8 parts
abbrev pub QuestionFits : Question → Type 0
QuestionFits (Get place chain m key var) = length key ≤ 8
QuestionFits (Find place chain at guards var) = Unit {0}
QuestionFits (Test place comparison left right) = Unit {0}

-- a `new` gives at most 136 labels, those that its chain has
abbrev pub CreationFits : List ChainDecl → Creation → Type 0
CreationFits decls n =
    (length n.labels ≤ 136) × AreFor (length n.labels) (slice_get decls n.chain)

-- whether a statement fits the tables of these chains
abbrev pub Fits : List ChainDecl → Statement → Type 0
Fits decls (Ends e) = Unit {0}
Fits decls (Does op) = Unit {0}
Fits decls (Asks q) = QuestionFits q
Fits decls (Makes n) = CreationFits decls n

-- how many maps some chains have together
abbrev pub maps_in : List ChainDecl → ℕ
maps_in [] = 0
maps_in (decl ∷ decls) = length decl.maps + maps_in decls

-- no key has more parts than a key may have
abbrev pub HaveShortKeys : List MapDecl → Type 0
HaveShortKeys decls = All (λ (decl : MapDecl). decl.parts ≤ 8) decls

-- no key of any chain has more parts than a key may have
abbrev pub HaveAllShortKeys : List ChainDecl → Type 0
HaveAllShortKeys decls = All (λ (decl : ChainDecl). HaveShortKeys decl.maps) decls

-- a queue, and how many there are
abbrev pub IsShare : ℕ → ℕ → Type 0
IsShare queue of = (queue < of) × (of ≤ 16)
