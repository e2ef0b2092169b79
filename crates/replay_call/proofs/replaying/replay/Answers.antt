use Rattle.std.proofs.Common.{Err, sym, subst}
use Rattle.command_words.specs.View as view
use Rattle.call_base.specs.declared.status.Halt.{Halt}
use Rattle.call_base.specs.Outside.{seen}
use Rattle.replay_call.specs.ReplayEnd.{ReplaysTo}
use Rattle.replay_call.proofs.Beginning.{unfound}
use Rattle.replay_call.proofs.replaying.replay.Goals as goal

pub returns-in-Err : goal.returns-in-Err
returns-in-Err g c =
    let a = seen (g.F.Files.told c.args.files.now) (g.F.Files.counted c.args.files.now) in
    let b = seen (g.F.Files.told c.read_function.new.files) (g.F.Files.counted c.read_function.new.files) in
    let asked = view.replay c.args.command.now in
    record {
      replays = subst (λ (h : Halt). ReplaysTo asked a b (Err h)) (sym c.halt.ensures)
          (unfound asked a b c.in-Err.none c.read_function.ensures.untouched c.in-Err.ensures.finds c.in-Err.ensures.cause);
    }
