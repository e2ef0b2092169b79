use Rattle.path_walk.specs.Branches.{branch_seen}
use Rattle.path_walk.proofs.Walking.{waits}
use Rattle.path_walk.proofs.walk.wait.Goals as goal

pub returns : goal.returns
returns c = waits c.args.waiting.now.items c.push.new.self.items c.args.walk.now c.in_ok-other.other (branch_seen c.args.branch) c.args.at c.in_ok-push.ensures.items c.in_ok-other.ensures
