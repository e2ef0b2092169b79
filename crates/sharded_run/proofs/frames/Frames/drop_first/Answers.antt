use Rattle.std.proofs.Common.{◌≡◌, ◌<◌, ◌+◌, ◌++◌, ℕ, List, length, drop, sym, subst, ap, ◌∙◌, arith}
use Rattle.packet_feed.specs.Arrivals.{Arrival}
use Rattle.sharded_run.proofs.Slots.{row_gone, some_left}
use Rattle.sharded_run.proofs.frames.Frames.drop_first.Goals as goal

-- src/kept.rt:214:5
pub returns-clause-rest : goal.returns-clause-rest
returns-clause-rest c =
    let row : List Arrival = c.self.inside.current in
    let more : List Arrival = c.self.inside.filling in
    let at : ℕ = c.self.inside.at in
    let some : 0 < length (drop at row ++ more) =
    subst (λ (t : List Arrival). 0 < length t) (sym c.self.view_is) c.requires in
    let left : at < length row = some_left row more at some c.self.invariant.0 c.self.invariant.1 in
    let last : length row ≡ at + 1 = omega (arith, left, c.len-end.ensures, c.if-self-end.false) in
    row_gone row more c.swap.new.y c.clear.new.self at last c.swap.ensures.y_after
    (ap (λ (t : List Arrival). length t) c.clear.ensures)
    ∙ ap (λ (t : List Arrival). drop 1 t) c.self.view_is
