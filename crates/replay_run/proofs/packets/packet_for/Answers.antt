use Rattle.std.proofs.Common.{sym, subst}
use Rattle.run_history.specs.declared.line.Mode.{Mode}
use Rattle.replay_run.specs.Turns.{Fetches}
use Rattle.replay_run.proofs.Fetching.{as_shard}
use Rattle.replay_run.proofs.packets.packet_for.Goals as goal

pub returns-in-Shard-clause-fetches : goal.returns-in-Shard-clause-fetches
returns-in-Shard-clause-fetches g c =
    let told = g.F.Files.told in
    let old = told c.args.files.now in
    let new = told c.next_of_all-in-Shard.new.files in
    let feed = c.args.feed.now in
    let next = c.next_of_all-in-Shard.new.feed in
    let r = c.next_of_all-in-Shard.result in
    subst (λ (m : Mode). Fetches m c.args.line.now feed next old new r) (sym c.in-Shard.is) (as_shard c.args.line.now feed next old new r c.next_of_all-in-Shard.ensures.fetches)
