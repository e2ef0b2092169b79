use Rattle.std.proofs.Common.{◌∙◌, ℕ, subst}
use Rattle.nf_base.specs.Functions.{function_of}
use Rattle.shard_laws.specs.Rule.{AreOfQueue}
use Rattle.journal_check.proofs.Judged.{replays_granted}
use Rattle.journal_check.proofs.judge.replayed_in_share.Goals as goal

pub returns-then-are_of_queue-clause-replays : goal.returns-then-are_of_queue-clause-replays
returns-then-are_of_queue-clause-replays c =
    let picks = c.args.picks.now in
    let queue = c.args.queue in
    let own = subst (λ (n : ℕ). AreOfQueue n queue picks) (c.get.ensures.value ∙ c.workers.ensures) (c.are_of_queue.ensures.0 c.if-are_of_queue.true) in
    replays_granted (function_of c.args.func.now) c.args.header.now queue c.args.tables.now.state c.args.packet.now picks c.replay_granted.new.tables.state c.replay_granted.result c.requires.mode own
    c.replay_granted.ensures.done c.replay_granted.ensures.granted c.replay_granted.ensures.none
