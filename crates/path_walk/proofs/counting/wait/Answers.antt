use Rattle.std.proofs.Common.{refl}
use Rattle.path_walk.specs.Known.{known_seen}
use Rattle.path_walk.proofs.Points.{point_waits}
use Rattle.path_walk.proofs.counting.wait.Goals as goal

pub returns : goal.returns
returns c =
    point_waits c.args.waiting.now.items c.push.new.self.items (record { at = c.args.at; known = c.in_ok-known.known }) (known_seen c.args.point.now.known) c.args.at c.in_ok-push.ensures.items refl c.in_ok-known.ensures
