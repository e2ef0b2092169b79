use Rattle.call_base.specs.Outside.{seen}
use Rattle.replay_call.proofs.Beginning.{unkept_fed}
use Rattle.replay_call.proofs.replaying.replay_fed.Goals as goal

pub returns-in-Err : goal.returns-in-Err
returns-in-Err g c =
    let now = seen (g.F.Files.told c.args.files.now) (g.F.Files.counted c.args.files.now) in
    record { replays = λ before is fed. unkept_fed before now c.args.job.now c.args.captures.now c.args.feed.now is fed }
