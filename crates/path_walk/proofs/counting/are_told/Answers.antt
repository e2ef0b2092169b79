use Rattle.std.proofs.Common.{map, sym, ◌∙◌}
use Rattle.path_walk.specs.Seen.{text_seen}
use Rattle.path_walk.specs.Known.{known_seen}
use Rattle.path_walk.proofs.Settled.{told_more}
use Rattle.path_walk.proofs.counting.are_told.Goals as goal

pub loop-number-preserved : goal.loop-number-preserved
loop-number-preserved c =
    told_more (map text_seen c.args.numbered.now.texts.items) (known_seen c.args.known.now) c.loop-number.number c.loop-number.invariant (sym c.is_told.ensures ∙ c.if-not-is_told.false)
