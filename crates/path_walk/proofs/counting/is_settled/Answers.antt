use Rattle.std.proofs.Common.{◌<◌, arith, map, length, get_or, suc}
use Rattle.path_walk.specs.Seen.{text_seen}
use Rattle.path_walk.specs.Known.{known_seen}
use Rattle.path_walk.proofs.Settled.{one_left}
use Rattle.path_walk.proofs.counting.is_settled.Goals as goal

pub returns-then-point-ahead : goal.returns-then-point-ahead
returns-then-point-ahead c = λ e.
    let n = c.args.numbered.now in
    let p = c.args.point.now in
    let b : p.at < length c.args.ahead.now = omega arith in
    one_left (map text_seen n.texts.items) n.lines.items (get_or c.args.ahead.now p.at 0) (suc p.at) (known_seen p.known) p.at c.requires.laid (c.requires.ahead.at p.at b) (c.are_told.ensures e) (omega arith)
