use Rattle.std.proofs.Common.{◌∙◌, sym}
use Rattle.call_base.specs.Outside.{seen}
use Rattle.replay_run.specs.Queues.{lent}
use Rattle.replay_call.proofs.Beginning.{halted}
use Rattle.replay_call.proofs.Judging.{has_come, is_unended}
use Rattle.replay_call.proofs.replaying.replay_keyed.Goals as goal

pub returns-in-Ok : goal.returns-in-Ok
returns-in-Ok g c =
    let a = seen (g.F.Files.told c.args.files.now) (g.F.Files.counted c.args.files.now) in
    let b = seen (g.F.Files.told c.replay.new.files) (g.F.Files.counted c.replay.new.files) in
    record {
      replays = λ before is begun keys. c.told.ensures.replays before is
          (has_come before a b c.args.job.now (lent c.args.keys) c.args.captures.now c.args.feed.now c.args.begun c.args.outputs.now c.in-Ok.came is c.requires.sized begun keys (c.requires.files.as_many ∙ c.requires.all) c.in-Ok.ensures.comes c.replay.ensures.read.kept c.in-Ok.ensures.read.cause);
    }

pub returns-in-Err : goal.returns-in-Err
returns-in-Err g c =
    let a = seen (g.F.Files.told c.args.files.now) (g.F.Files.counted c.args.files.now) in
    let b = seen (g.F.Files.told c.replay.new.files) (g.F.Files.counted c.replay.new.files) in
    let job = c.args.job.now in
    record {
      replays = λ before is begun keys. halted before b job c.in-Err.stop c.halt.result is c.requires.sized c.halt.ensures
          (is_unended before a b job c.args.captures.now c.args.feed.now c.args.begun c.args.outputs.now c.in-Err.stop is c.requires.sized begun c.replay.ensures.read.kept c.in-Err.ensures.read.among c.in-Err.ensures.read.cause);
    }

pub replay-requires-clause-captures : goal.replay-requires-clause-captures
replay-requires-clause-captures g c = record {
  reads = record { files = c.requires.fresh.files; opened = c.requires.read };
  six = c.requires.fresh.six;
  ports = c.requires.all ∙ sym c.requires.sized.handlers;
}
