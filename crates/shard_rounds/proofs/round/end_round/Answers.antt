use Rattle.std.proofs.Common.{List, sym, subst}
use Rattle.shard_core.specs.declared.collected.Collected.{Collected}
use Rattle.shard_rounds.specs.Rounds.{CollectedAll}
use Rattle.shard_rounds.proofs.Ran.{ran_round}
use Rattle.shard_rounds.proofs.round.end_round.Goals as goal

pub returns-clause-ran : goal.returns-clause-ran
returns-clause-ran c = λ x m batch before h worked.
    ran_round x m batch (record { handled = c.from_vec-handled.result; stop = c.stop-stop.result }) before c.args.shards.now c.collect_all.new.shards h
    worked
    (λ n k. subst (λ (cs : List Collected). CollectedAll x n cs c.collect_all.new.shards) (sym c.from_vec-handled.ensures) (c.collect_all.ensures.all x n k))
    (λ n k. c.stop-stop.ensures.stands x n k)
