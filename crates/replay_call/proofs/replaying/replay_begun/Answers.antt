use Rattle.call_base.specs.Outside.{seen}
use Rattle.replay_call.proofs.Judging.{unkept_begun}
use Rattle.replay_call.proofs.replaying.replay_begun.Goals as goal

pub returns-in-Err : goal.returns-in-Err
returns-in-Err g c =
    let now = seen (g.F.Files.told c.args.files.now) (g.F.Files.counted c.args.files.now) in
    record { replays = λ before is begun. unkept_begun before now c.args.job.now c.args.captures.now c.args.feed.now c.args.begun c.args.outputs.now is begun }
