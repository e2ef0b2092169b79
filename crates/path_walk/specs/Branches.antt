-- What a branch stands for.
use Rattle.nf_base.specs.Paths.{Branch, Hits, Misses, Makes, IsTaken, IsFull}
use Rattle.path_walk.specs.declared.branch.Branch as rust
use Rattle.path_walk.specs.declared.branch.Branch.TheVariants as branch

-- a branch
abbrev pub branch_seen : rust.Branch → Branch
branch_seen branch.Hits = Hits
branch_seen branch.Misses = Misses
branch_seen branch.Makes = Makes
branch_seen branch.IsTaken = IsTaken
branch_seen branch.IsFull = IsFull
