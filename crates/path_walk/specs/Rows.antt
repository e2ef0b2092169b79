-- Worked rows: blocks, and how their feasible paths branch.
use Rattle.std.specs.Prelude.{◌≡◌, ℕ, Bool, true, false, List, [], ◌∷◌, map}
use Rattle.nf_base.specs.declared.packet.Field.TheVariants.{SrcIp, DstIp, SrcPort, DstPort}
use Rattle.nf_base.specs.declared.width.Width.TheVariants.{W32, W16}
use Rattle.nf_base.specs.declared.expr.Comparison.{Comparison}
use Rattle.nf_base.specs.declared.expr.Comparison.TheVariants.{Equal, NotEqual, Less, LessOrEqual, Greater}
use Rattle.nf_base.specs.Text.{Number, Read, Cell, Given, Question, Get, Test, FallsOff, Flood, Forward, Discard, Touch, Block, End, Do, Ask, Make}
use Rattle.nf_base.specs.Paths.{Branch, Hits, Misses, Makes, IsTaken, IsFull}
use Rattle.path_walk.specs.Feasible.{feasible_paths, branches_along}
use Rattle.path_walk.specs.Listed.{block_branches}
use Rattle.path_walk.specs.Alive.{alive}

-- a block that does nothing
abbrev pub nothing : Block
nothing = End FallsOff

-- one test after another, each with two blocks that do nothing
abbrev pub tested : List Question → Block
tested [] = nothing
tested (q ∷ qs) = Ask q nothing nothing (tested qs)

-- a block's paths branch so
abbrev pub BranchAs : Block → List (List Branch) → Type 0
BranchAs block all = map branches_along (feasible_paths block) ≡ all

abbrev pub port_is : Comparison → ℕ → Question
port_is comparison n = Test 0 comparison (Read SrcPort) (Number n)

-- a test of a cell of array 0 at a source port
abbrev pub cell_is : ℕ → Question
cell_is n = Test 0 Equal (Cell 0 0 (Read SrcPort)) (Number n)

-- a label's value: one field
abbrev pub plain : List Given
plain =
    record { width = W32; value = Read SrcIp }
    ∷ record { width = W32; value = Read DstIp }
    ∷ record { width = W16; value = Read SrcPort }
    ∷ record { width = W16; value = Read DstPort }
    ∷ []

-- A firewall's handler: a flow that is known is touched, another one gets an entry, and where none is
-- vacant its packet is dropped.
abbrev pub firewall : Block
firewall =
    Ask (Get 0 0 0 plain 0) (Do (Touch 0) nothing)
    (Make (record { place = 1; chain = 0; labels = plain; var = 0 }) nothing nothing (End Discard) nothing)
    (End (Forward (Number 1)))

pub record PathsBranchAs : Type 0 where
  -- a look-up hits, or misses and then a `new` makes an entry, or finds a key taken or no index vacant
  pub firewall_has_four : BranchAs firewall ((Hits ∷ []) ∷ (Misses ∷ Makes ∷ []) ∷ (Misses ∷ IsTaken ∷ []) ∷ (Misses ∷ IsFull ∷ []) ∷ [])
  -- two tests of one text go the same way
  pub one_text_goes_one_way : BranchAs (tested (port_is Less 7 ∷ port_is Less 7 ∷ [])) ((Hits ∷ Hits ∷ []) ∷ (Misses ∷ Misses ∷ []) ∷ [])
  -- two bounds are two texts, whatever follows from one for the other
  pub two_bounds_go_all_ways :
      BranchAs (tested (port_is Less 1 ∷ port_is Less 2 ∷ []))
      ((Hits ∷ Hits ∷ []) ∷ (Hits ∷ Misses ∷ []) ∷ (Misses ∷ Hits ∷ []) ∷ (Misses ∷ Misses ∷ []) ∷ [])
  -- a field is no two numbers
  pub two_numbers_have_three :
      BranchAs (tested (port_is Equal 1 ∷ port_is Equal 2 ∷ [])) ((Hits ∷ Misses ∷ []) ∷ (Misses ∷ Hits ∷ []) ∷ (Misses ∷ Misses ∷ []) ∷ [])
  -- `!=` is `==` with outcomes exchanged, and `>` is `<=`
  pub not_equal_is_exchanged : BranchAs (tested (port_is Equal 1 ∷ port_is NotEqual 1 ∷ [])) ((Hits ∷ Misses ∷ []) ∷ (Misses ∷ Hits ∷ []) ∷ [])
  pub greater_is_exchanged : BranchAs (tested (port_is LessOrEqual 1 ∷ port_is Greater 1 ∷ [])) ((Hits ∷ Misses ∷ []) ∷ (Misses ∷ Hits ∷ []) ∷ [])
  pub neither_of_two_numbers :
      BranchAs (tested (port_is NotEqual 1 ∷ port_is NotEqual 2 ∷ [])) ((Hits ∷ Hits ∷ []) ∷ (Hits ∷ Misses ∷ []) ∷ (Misses ∷ Hits ∷ []) ∷ [])
  -- the number of a field stands on the right, and sides stay where they are
  pub sides_stay :
      BranchAs (tested (port_is Equal 1 ∷ Test 0 Equal (Number 1) (Read SrcPort) ∷ []))
      ((Hits ∷ Hits ∷ []) ∷ (Hits ∷ Misses ∷ []) ∷ (Misses ∷ Hits ∷ []) ∷ (Misses ∷ Misses ∷ []) ∷ [])
  -- a test that reads the state goes either way each time
  pub cells_go_all_ways :
      BranchAs (tested (cell_is 1 ∷ cell_is 1 ∷ []))
      ((Hits ∷ Hits ∷ []) ∷ (Hits ∷ Misses ∷ []) ∷ (Misses ∷ Hits ∷ []) ∷ (Misses ∷ Misses ∷ []) ∷ [])

-- the statements of a block that its feasible paths come to, in text order
abbrev pub Reaches : Block → List Bool → Type 0
Reaches block marks = alive block (block_branches block) ≡ marks

-- a question with one block that is looked at, behind which the handler ends
abbrev pub asked_first : Question → Block → Block
asked_first q hit = Ask q hit nothing (End Flood)

pub record StatementsAreReached : Type 0 where
  -- of the firewall all
  pub firewall_whole :
      Reaches firewall (true ∷ true ∷ true ∷ true ∷ true ∷ true ∷ true ∷ true ∷ true ∷ [])
  -- a field is no two numbers: the second test's hit
  pub no_two_numbers :
      Reaches (asked_first (port_is Equal 1) (asked_first (port_is Equal 2) (End Discard)))
      (true ∷ true ∷ false ∷ true ∷ true ∷ true ∷ true ∷ [])
  -- what is dropped doesn't go on: a later test of that text misses
  pub dropped_ends :
      Reaches (Ask (port_is Less 7) (End Discard) nothing (tested (port_is Less 7 ∷ [])))
      (true ∷ true ∷ true ∷ true ∷ false ∷ true ∷ true ∷ [])
  -- behind a `new` whose blocks all drop stands nothing that is reached
  pub nothing_behind :
      Reaches (Make (record { place = 0; chain = 0; labels = plain; var = 0 }) (End Discard) (End Discard) (End Discard) nothing)
      (true ∷ true ∷ true ∷ true ∷ false ∷ [])
