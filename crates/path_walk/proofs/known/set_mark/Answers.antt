use Rattle.std.proofs.Common.{◌∙◌, map, slice_set, ap}
use Rattle.std.proofs.lemmas.List.{map-set}
use Rattle.path_walk.specs.Known.{mark_seen}
use Rattle.path_walk.proofs.known.set_mark.Goals as goal

pub returns-then-number-len : goal.returns-then-number-len
returns-then-number-len c =
    map-set mark_seen c.args.marks.now.items c.args.number c.mark_for.result ∙ ap (slice_set (map mark_seen c.args.marks.now.items) c.args.number) c.mark_for.ensures
