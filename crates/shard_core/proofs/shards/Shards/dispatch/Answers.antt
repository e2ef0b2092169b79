use Rattle.std.proofs.lemmas.Result.{on_ok_weaker}
use Rattle.shard_core.specs.Sharded.{SameButRooms, StandsFor}
use Rattle.shard_core.proofs.Machines.{same_rooms}
use Rattle.shard_core.proofs.Giving.{dispatches_on, on_err}
use Rattle.shard_core.proofs.Played.{given_size}
use Rattle.shard_core.proofs.shards.Shards.dispatch.Goals as goal

pub returns-clause-stands : goal.returns-clause-stands
returns-clause-stands c = λ x m h. on_ok_weaker c.give.result (λ n. dispatches_on x m c.args.packet c.args.self.now c.give.new.self h n) c.give.ensures.given

pub returns-clause-stays : goal.returns-clause-stays
returns-clause-stays c = λ x m h. on_err c.give.result (SameButRooms c.args.self.now c.give.new.self) (SameButRooms c.args.self.now c.give.new.self) (StandsFor x m c.give.new.self) c.give.ensures.err c.give.ensures.err (λ s t. same_rooms x m c.args.self.now c.give.new.self s h)

pub returns-clause-size : goal.returns-clause-size
returns-clause-size c = given_size c.give.result c.args.packet c.args.self.now c.give.new.self c.give.ensures.given c.give.ensures.err
