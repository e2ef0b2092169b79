use Rattle.std.proofs.Common.{◌∙◌, ℕ, sym, subst}
use Rattle.call_base.specs.Outside.{seen}
use Rattle.replay_run.specs.Given.{AreRead}
use Rattle.replay_call.proofs.Beginning.{halted}
use Rattle.replay_call.proofs.Judging.{headless, is_unbegun}
use Rattle.replay_call.proofs.replaying.replay_ready.Goals as goal

pub returns-in-Err : goal.returns-in-Err
returns-in-Err g c =
    let a = seen (g.F.Files.told c.args.files.now) (g.F.Files.counted c.args.files.now) in
    let b = seen (g.F.Files.told c.first_line.new.files) (g.F.Files.counted c.first_line.new.files) in
    let job = c.args.job.now in
    record {
      replays = λ before is ready. halted before b job c.in-Err.stop c.halt.result is c.requires.sized c.halt.ensures
          (is_unbegun before a b job c.args.captures.now c.args.feed.now c.args.journal c.args.outputs.now c.in-Err.stop is c.requires.sized ready c.first_line.ensures.kept c.in-Err.ensures.at c.in-Err.ensures.cause);
    }

pub returns-in-Ok-None : goal.returns-in-Ok-None
returns-in-Ok-None g c =
    let a = seen (g.F.Files.told c.args.files.now) (g.F.Files.counted c.args.files.now) in
    let b = seen (g.F.Files.told c.first_line.new.files) (g.F.Files.counted c.first_line.new.files) in
    let job = c.args.job.now in
    let none = rw c.in-Ok-None.field-0-is at c.in-Ok-None.ensures.heads in
    record {
      replays = λ before is ready. c.told.ensures.replays before is
          (headless before a b job c.args.captures.now c.args.feed.now c.args.journal c.args.outputs.now is ready none c.first_line.ensures.kept c.in-Ok-None.ensures.cause);
    }

pub replay_begun-requires-clause-files : goal.replay_begun-requires-clause-files
replay_begun-requires-clause-files g c =
    let now = g.F.Files.told c.first_line.new.files in
    let kinds = c.first_line.ensures.kept.kinds in
    let h = c.requires.files in
    subst (λ (j : ℕ). AreRead c.args.captures.now j c.args.outputs.now now) (sym (rw c.in-Ok-Some.field-0-is at c.in-Ok-Some.ensures.same_file))
    (record {
      opened_journal = kinds c.args.journal ∙ h.opened_journal;
      opened_outputs = λ k file e. kinds file ∙ h.opened_outputs k file e;
      apart = h.apart;
      as_many = h.as_many;
      few = h.few;
    })
