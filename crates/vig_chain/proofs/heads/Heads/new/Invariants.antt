use Rattle.std.proofs.Common.{◌≡◌, map}
use Rattle.std.specs.List.{range_with_len}
use Rattle.vig_chain.specs.Heads.{head_at_start}
use Rattle.vig_chain.proofs.heads.Heads.new.Given as goal

abbrev pub invariant-loop-cell : goal.invariant-loop-cell
invariant-loop-cell l =
    l.heads.items ≡ map (head_at_start l.size l.share) (range_with_len 0 l.cell)
