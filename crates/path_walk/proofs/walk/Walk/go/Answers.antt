use Rattle.path_walk.proofs.Walking.{went}
use Rattle.path_walk.proofs.walk.Walk.go.Goals as goal
use Rattle.std.proofs.Common.{refl}

pub returns : goal.returns
returns c = went c.args.self.now _ c.args.branch c.args.at refl refl c.in_ok-push.ensures.items
