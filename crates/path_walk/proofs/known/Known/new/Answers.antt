use Rattle.std.proofs.Common.{◌∙◌, map, ap, ap₂}
use Rattle.path_walk.specs.Known.{mark_seen}
use Rattle.path_walk.proofs.Marking.{none_known, marks_of}
use Rattle.path_walk.proofs.known.Known.new.Goals as goal

pub returns : goal.returns
returns c = ap₂ marks_of (ap (map mark_seen) c.in_ok-marks.ensures ∙ none_known c.args.texts) c.in_ok-numbers.ensures
