use Rattle.std.proofs.Common.{Bool, List, subst, sym}
use Rattle.key_rows.specs.Systems.{AreGroupsOf}
use Rattle.key_rows.proofs.Solved.{solved_if}
use Rattle.key_rows.proofs.nearest.solved.Goals as goal

pub returns : goal.returns
returns c =
    solved_if c.args.ports c.args.objects.now c.args.card c.in_ok-system.system c.as_slice.result.now c.in_ok-wanted.wanted c.nearest.result c.in_ok-system.ensures
    (subst (λ (l : List (List Bool)). AreGroupsOf c.args.ports c.args.objects.now c.args.card.table l) (sym c.as_slice.ensures) c.in_ok-groups.ensures)
    c.in_ok-wanted.ensures c.nearest.ensures
