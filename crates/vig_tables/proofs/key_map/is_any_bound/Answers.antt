use Rattle.std.proofs.Common.{sym, arith}
use Rattle.std.proofs.lemmas.List.Folds.{list_any_none}
use Rattle.vig_tables.specs.Tagged.{is_bound_in}
use Rattle.vig_tables.proofs.key_map.is_any_bound.Goals as goal

pub returns : goal.returns
returns c = sym (list_any_none (is_bound_in c.args.labels.now c.args.row.now) c.args.maps.now (λ j d lt. c.loop-k.invariant j d (omega arith)))
