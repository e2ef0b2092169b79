-- Which texts are of the language, the tree of each, and the first fault of the others.
use Rattle.std.specs.Prelude.{◌≡◌, ◌≤◌, ◌<◌, Bool, true, ℕ, List, [], ◌∷◌, ◌++◌, length, Result, Ok, Err}
use Rattle.std.specs.List.{All}
use Rattle.nf_tokens.specs.declared.token.Place.{Place}
use Rattle.nf_tokens.specs.declared.token.Placed.{Placed}
use Rattle.nf_tokens.specs.declared.token.Token.{Token}
use Rattle.nf_tokens.specs.Tokens.{tokens_of, start, behind_all}
use Rattle.nf_tree.specs.Tree.{Tree}
use Rattle.nf_tree.specs.Depth.{depth}
use Rattle.nf_syntax.specs.declared.fault.ParseFault.{ParseFault}
use Rattle.nf_syntax.specs.declared.fault.ParseFault.TheVariants as faults
use Rattle.nf_syntax.specs.declared.fault.SyntaxKind.{SyntaxKind}
use Rattle.nf_syntax.specs.declared.fault.SyntaxKind.TheVariants as kinds
use Rattle.nf_syntax.specs.declared.fault.TokenFault.{TokenFault}
use Rattle.nf_syntax.specs.declared.fault.TokenFault.TheVariants as stops
use Rattle.nf_syntax.specs.Items.{Item, item, kind_of, Marked, unmarked}
use Rattle.nf_syntax.specs.Grammar.{IsText, spelling}

-- the trees that texts spell
abbrev pub SyntaxTree : Type 0
SyntaxTree = Tree

abbrev pub marked : Item → Bool → Marked
marked i past = record { item = i; past = past }

-- the tree is well formed and has these items
pub record Spells (ms : List Marked) (tree : Tree) : Type 0 where
  pub well_formed : IsText tree
  pub tokens : spelling tree ≡ ms

-- some text of the grammar begins with these items
pub record CanGoOn (ms : List Marked) : Type 0 where
  pub tree : Tree
  pub more : List Marked
  pub well_formed : IsText tree
  pub tokens : spelling tree ≡ ms ++ more

-- where the last token stands
abbrev pub last_place : Place → List Placed → Place
last_place at [] = at
last_place at (p ∷ ps) = last_place p.place ps

-- the tree of these tokens, none of which passes a limit; it ends where the last one stands
pub record IsTreeOf (ps : List Placed) (tree : Tree) : Type 0 where
  pub spelled : Spells (unmarked ps) tree
  pub end : tree.end ≡ last_place start ps

-- a text of at most 1,048,576 bytes whose tokens are those of the tree
pub record IsTextOf (text : List ℕ) (tree : Tree) : Type 0 where
  pub small : length text ≤ 1048576
  pub spelled : IsTreeOf (tokens_of 0 start text) tree

-- at most 64 blocks are open at a place of each handler
abbrev pub IsShallow : Tree → Type 0
IsShallow tree = All (λ h. depth h.block ≤ 64) tree.handlers

-- the first token that no text of the grammar has behind the tokens before it
pub record IsFirstStuck (kind : SyntaxKind) (at : Place) (ps : List Placed) : Type 0 where
  pub front : List Placed
  pub token : Token
  pub rest : List Placed
  pub split : ps ≡ front ++ record { token = token; place = at } ∷ rest
  pub of_kind : kind ≡ kind_of token
  pub before : CanGoOn (unmarked front)
  pub stuck : (past : Bool) → CanGoOn (unmarked front ++ marked (item token at) past ∷ []) → ⊥

-- the first token that passes a limit: some text of the grammar has it there, and it is marked in that text
pub record IsFirstPast (at : Place) (ps : List Placed) : Type 0 where
  pub front : List Placed
  pub token : Token
  pub rest : List Placed
  pub split : ps ≡ front ++ record { token = token; place = at } ∷ rest
  pub past : CanGoOn (unmarked front ++ marked (item token at) true ∷ [])

-- these tokens begin a text of the grammar, and are none
pub record IsShort (ps : List Placed) : Type 0 where
  pub before : CanGoOn (unmarked ps)
  pub unfinished : (tree : Tree) → Spells (unmarked ps) tree → ⊥

-- where and why the reading of tokens stops
abbrev pub IsFirstFault : TokenFault → List Placed → Type 0
IsFirstFault (stops.Stuck kind at) ps = IsFirstStuck kind at ps
IsFirstFault (stops.Past at) ps = IsFirstPast at ps
IsFirstFault stops.Short ps = IsShort ps
IsFirstFault stops.Memory ps = Unit {0}

-- what is wrong with a text, and where: it is too long; else its first token that may not stand where it stands
-- or that passes a limit; else it ends too early, and the place is just past its last byte
pub data IsFault (kind : SyntaxKind) (at : Place) (text : List ℕ) : Type 0 where
  Long : 1048576 < length text → kind ≡ kinds.Limit → at ≡ start → IsFault kind at text
  Misplaced : length text ≤ 1048576 → IsFirstStuck kind at (tokens_of 0 start text) → IsFault kind at text
  Passing : length text ≤ 1048576 → kind ≡ kinds.Limit → IsFirstPast at (tokens_of 0 start text) → IsFault kind at text
  Unfinished : length text ≤ 1048576 → kind ≡ kinds.End → at ≡ behind_all start text → IsShort (tokens_of 0 start text) → IsFault kind at text

-- want of memory alone is free
abbrev pub Explains : ParseFault → List ℕ → Type 0
Explains (faults.Syntax kind line column) text = IsFault kind (record { line = line; column = column }) text
Explains faults.Memory text = Unit {0}

-- this tree was answered, or memory ran out
abbrev pub Gives : {X : Type 0} → (X → Tree) → Tree → Result X ParseFault → Type 0
Gives view tree (Ok x) = view x ≡ tree
Gives view tree (Err faults.Memory) = Unit {0}
Gives view tree (Err e) = ⊥

-- the same of the reading of tokens
abbrev pub Finds : {X : Type 0} → (X → Tree) → Tree → Result X TokenFault → Type 0
Finds view tree (Ok x) = view x ≡ tree
Finds view tree (Err stops.Memory) = Unit {0}
Finds view tree (Err e) = ⊥
