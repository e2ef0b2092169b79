use Rattle.std.proofs.Common.{arith}
use Rattle.nf_base.specs.Functions.{function_of}
use Rattle.shard_machine.specs.Machine.{Setup, new_machine}
use Rattle.shard_core.specs.Sharded.{IsNewSharded, IsSetupOf, StandsFor}
use Rattle.shard_core.proofs.Giving.{if_ok}
use Rattle.shard_core.proofs.Starting.{new_stands}
use Rattle.shard_core.proofs.Setups.{setups_exist}
use Rattle.shard_core.proofs.shards.Shards.new.Goals as goal

pub returns-clause-stands : goal.returns-clause-stands
returns-clause-stands c = if_ok c.make.result (IsNewSharded (function_of c.args.func.now) c.args.keys c.args.workers) (λ v. (x : Setup) → IsSetupOf x v → StandsFor x (new_machine x.function) v) c.make.ensures
    (λ v new x s. new_stands (function_of c.args.func.now) c.args.keys c.args.workers v new x s)

pub returns-clause-setup : goal.returns-clause-setup
returns-clause-setup c = if_ok c.make.result (IsNewSharded (function_of c.args.func.now) c.args.keys c.args.workers) (λ v. (x : Setup) × IsSetupOf x v) c.make.ensures
    (λ v new.
    let n = new.count in
    setups_exist v (omega (arith, n)) (omega (arith, n)))
