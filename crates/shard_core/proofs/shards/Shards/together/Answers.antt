use Rattle.std.proofs.Common.{sym, subst}
use Rattle.shard_core.specs.Sharded.{HasRoom}
use Rattle.nf_base.specs.Functions.{function_of}
use Rattle.shard_core.proofs.Apart.{worked_back, back_room}
use Rattle.shard_core.proofs.shards.Shards.together.Goals as goal

pub returns-clause-stands : goal.returns-clause-stands
returns-clause-stands c = λ x m before counts h are. worked_back x m c.args.self.now c.put_back.new.self counts before c.args.workers.items c.put_back.ensures h are

pub returns-clause-room : goal.returns-clause-room
returns-clause-room c = λ n before counts room are.
    subst (HasRoom n) (sym c.put_back.ensures) (back_room n c.args.self.now (function_of c.args.self.now.func) counts before c.args.workers.items room are)
