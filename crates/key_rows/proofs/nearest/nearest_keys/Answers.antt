use Rattle.std.proofs.Common.{Bool, List, length, map, subst, ap, ◌∙◌}
use Rattle.std.specs.List.{range_with_len}
use Rattle.key_rows.specs.Positions.{positions_at}
use Rattle.key_rows.specs.Solutions.{given_key, IsNearestFor, IsSolved}
use Rattle.key_rows.proofs.Solved.{given_from}
use Rattle.key_rows.proofs.nearest.nearest_keys.Goals as goal

pub returns-in_ok-ports-in-Some : goal.returns-in_ok-ports-in-Some
returns-in_ok-ports-in-Some c =
    let near : IsNearestFor (length c.args.six.now) c.args.objects.now c.args.card.table c.in-Some.bits = subst (IsSolved (length c.args.six.now) c.args.objects.now c.args.card) c.in-Some.is c.in_ok-bits.ensures in
    given_from c.args.six.now (length c.args.six.now) c.args.objects.now c.args.card c.in-Some.bits c.in_ok-ports-in-Some.ports near
    (c.in_ok-ports-in-Some.ensures
    ∙ ap (λ (bits : List Bool). map (given_key c.args.card.key (positions_at c.args.six.now c.args.objects.now) c.args.objects.now bits) (range_with_len 0 (length c.args.six.now))) c.as_slice.ensures)
