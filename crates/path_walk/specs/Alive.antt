-- Which statements of a block stand on one of some paths, by how the paths branch.
use Rattle.std.specs.Prelude.{◌≡◌, Bool, true, false, List, [], ◌∷◌, ◌++◌, Option, Some, None}
use Rattle.std.specs.List.{filter_map}
use denote.Ref.{Bor}
use Rattle.nf_base.specs.declared.block.Block as block
use Rattle.nf_base.specs.View.{block_of}
use Rattle.nf_base.specs.Text.{Question, Ending, FallsOff, Flood, Discard, Forward, Block, End, Do, Ask, Make}
use Rattle.nf_base.specs.Paths.{Branch, Hits, Misses, Makes, IsTaken, IsFull}

-- what follows a branch into the first block of its statement
abbrev pub into_first : Branch → List Branch → Option (List Branch)
into_first Hits rest = Some rest
into_first Makes rest = Some rest
into_first Misses rest = None
into_first IsTaken rest = None
into_first IsFull rest = None

-- into the second
abbrev pub into_second : Branch → List Branch → Option (List Branch)
into_second Hits rest = None
into_second Makes rest = None
into_second Misses rest = Some rest
into_second IsTaken rest = Some rest
into_second IsFull rest = None

-- into the third
abbrev pub into_third : Branch → List Branch → Option (List Branch)
into_third Hits rest = None
into_third Makes rest = None
into_third Misses rest = None
into_third IsTaken rest = None
into_third IsFull rest = Some rest

-- what follows the first branch of a path, where it goes so
abbrev pub behind_first : (Branch → List Branch → Option (List Branch)) → List Branch →
    Option (List Branch)
behind_first into [] = None
behind_first into (b ∷ bs) = into b bs

-- of some paths, what is left of those that go so
abbrev pub those : (Branch → List Branch → Option (List Branch)) → List (List Branch) →
    List (List Branch)
those into live = filter_map (behind_first into) live

-- whether there is one
abbrev pub is_any : {A : Type 0} → List A → Bool
is_any [] = false
is_any (x ∷ xs) = true

-- the paths that go on behind the end of a block
abbrev pub past_ending : Ending → List (List Branch) → List (List Branch)
past_ending FallsOff live = live
past_ending Flood live = []
past_ending Discard live = []
past_ending (Forward port) live = []

-- the paths that go on behind a block, each with what is left of it
abbrev pub past : Block → List (List Branch) → List (List Branch)
past (End e) live = past_ending e live
past (Do op next) live = past next live
past (Ask q hit miss next) live =
    past next (past hit (those into_first live) ++ past miss (those into_second live))
past (Make n made taken full next) live =
    past next
    (past made (those into_first live)
    ++ (past taken (those into_second live) ++ past full (those into_third live)))

-- of each statement of a block, in text order, whether one of the paths comes to it
abbrev pub alive : Block → List (List Branch) → List Bool
alive (End e) live = is_any live ∷ []
alive (Do op next) live = is_any live ∷ alive next live
alive (Ask q hit miss next) live =
    is_any live
    ∷ (alive hit (those into_first live)
    ++ (alive miss (those into_second live)
    ++ alive next (past hit (those into_first live) ++ past miss (those into_second live))))
alive (Make n made taken full next) live =
    is_any live
    ∷ (alive made (those into_first live)
    ++ (alive taken (those into_second live)
    ++ (alive full (those into_third live)
    ++ alive next
    (past made (those into_first live)
    ++ (past taken (those into_second live) ++ past full (those into_third live))))))

-- the same of a block's first statement with the blocks in it
abbrev pub past_one : Block → List (List Branch) → List (List Branch)
past_one (End e) live = past_ending e live
past_one (Do op next) live = live
past_one (Ask q hit miss next) live =
    past hit (those into_first live) ++ past miss (those into_second live)
past_one (Make n made taken full next) live =
    past made (those into_first live)
    ++ (past taken (those into_second live) ++ past full (those into_third live))

-- and whether paths come to them
abbrev pub alive_one : Block → List (List Branch) → List Bool
alive_one (End e) live = is_any live ∷ []
alive_one (Do op next) live = is_any live ∷ []
alive_one (Ask q hit miss next) live =
    is_any live ∷ (alive hit (those into_first live) ++ alive miss (those into_second live))
alive_one (Make n made taken full next) live =
    is_any live
    ∷ (alive made (those into_first live)
    ++ (alive taken (those into_second live) ++ alive full (those into_third live)))

-- what follows the first statement of a block
abbrev pub next_of : Block → Option Block
next_of (End e) = None
next_of (Do op next) = Some next
next_of (Ask q hit miss next) = Some next
next_of (Make n made taken full next) = Some next

-- the block behind a reference, where there is one
abbrev pub rest_seen : Option (Bor block.Block) → Option Block
rest_seen None = None
rest_seen (Some b) = Some (block_of b.now)

-- the paths that go on behind what is left of a block
abbrev pub past_rest : Option Block → List (List Branch) → List (List Branch)
past_rest None live = live
past_rest (Some b) live = past b live

-- and whether paths come to its statements
abbrev pub alive_rest : Option Block → List (List Branch) → List Bool
alive_rest None live = []
alive_rest (Some b) live = alive b live

-- a question whose blocks do nothing
pub record AsksInVain (b : Block) (q : Question) : Type 0 where
  pub next : Block
  pub is : b ≡ Ask q (End FallsOff) (End FallsOff) next

-- whether paths come to it, and to its blocks
abbrev pub alive_in_vain : List (List Branch) → List Bool
alive_in_vain live = is_any live ∷ is_any (those into_first live) ∷ is_any (those into_second live) ∷ []
