-- What a way through a block takes at most: where it branches, only one of its blocks is gone through.
use Rattle.std.specs.Prelude.{ℕ, ◌+◌, ◌≤◌, max, length}
use Rattle.nf_base.specs.Text.{Block, End, Do, Ask, Make}
use Rattle.nf_engine.specs.declared.context.Context.{Context}
use Rattle.nf_engine.specs.Course.{bound_by}

-- how many variables a way binds
abbrev pub most_bound : Block → ℕ
most_bound (End e) = 0
most_bound (Do op next) = most_bound next
most_bound (Ask q hit miss next) =
    bound_by q + (max (most_bound hit) (most_bound miss) + most_bound next)
most_bound (Make n made taken full next) =
    1 + (max (most_bound made) (max (most_bound taken) (most_bound full)) + most_bound next)

-- how many entries a way makes
abbrev pub most_made : Block → ℕ
most_made (End e) = 0
most_made (Do op next) = most_made next
most_made (Ask q hit miss next) = max (most_made hit) (most_made miss) + most_made next
most_made (Make n made taken full next) =
    1 + (max (most_made made) (max (most_made taken) (most_made full)) + most_made next)

-- there is room for what any way through a block binds and makes
pub record HasWay (c : Context) (b : Block) : Type 0 where
  pub vars : length c.vars + most_bound b ≤ 32
  pub picks : length c.picks + most_made b ≤ 16
