-- A block as a tree of its branchings, and lines as trees.
use Rattle.std.specs.Prelude.{Bool, ◌&&◌, if◌then◌else◌}
use Rattle.nf_base.specs.declared.expr.Comparison.{Comparison}
use Rattle.nf_base.specs.Text.{Expression, Ending, FallsOff, Flood, Discard, Forward, Question, Get, Find, Test, Block, End, Do, Ask, Make}
use Rattle.nf_laws.specs.Paths.{of_packet}
use Rattle.path_walk.specs.Tests.{TestText, sign_of, is_exchanged}

-- a block as a tree of its branchings
pub data Tree (A : Type 0) : Type 0 where
  Leaf : Tree A
  Free : (hit miss : Tree A) → Tree A
  Tested : A → Bool → (hit miss : Tree A) → Tree A
  Made : (made taken full : Tree A) → Tree A

abbrev pub text_of : Comparison → Expression → Expression → TestText
text_of c l r = record { sign = sign_of c; left = l; right = r }

abbrev pub asking : Question → Tree TestText → Tree TestText → Tree TestText
asking (Get place chain n key var) h m = Free h m
asking (Find place chain at guards var) h m = Free h m
asking (Test place c l r) h m = if of_packet l && of_packet r then Tested (text_of c l r) (is_exchanged c) h m else Free h m

abbrev pub ending_tree : Ending → Tree TestText → Tree TestText
ending_tree FallsOff t = t
ending_tree Flood t = Leaf
ending_tree Discard t = Leaf
ending_tree (Forward port) t = Leaf

-- a block that goes on with a tree where it falls off
abbrev pub unfolded : Block → Tree TestText → Tree TestText
unfolded (End e) t = ending_tree e t
unfolded (Do op next) t = unfolded next t
unfolded (Ask q hit miss next) t = asking q (unfolded hit (unfolded next t)) (unfolded miss (unfolded next t))
unfolded (Make n made taken full next) t =
    Made (unfolded made (unfolded next t)) (unfolded taken (unfolded next t)) (unfolded full (unfolded next t))

-- a tree with other names for its tests
abbrev pub tree_map : {A B : Type 0} → (A → B) → Tree A → Tree B
tree_map f Leaf = Leaf
tree_map f (Free hit miss) = Free (tree_map f hit) (tree_map f miss)
tree_map f (Tested test e hit miss) = Tested (f test) e (tree_map f hit) (tree_map f miss)
tree_map f (Made made taken full) = Made (tree_map f made) (tree_map f taken) (tree_map f full)
