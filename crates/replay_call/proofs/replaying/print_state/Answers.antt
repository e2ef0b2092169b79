use Rattle.std.proofs.Common.{◌∙◌}
use Rattle.call_base.specs.Outside.{seen}
use Rattle.replay_call.proofs.Beginning.{two_of}
use Rattle.replay_call.proofs.Judging.{printed_half}
use Rattle.replay_call.proofs.replaying.print_state.Goals as goal

pub returns-in-Ok : goal.returns-in-Ok
returns-in-Ok g c =
    let a = seen (g.F.Files.told c.args.files.now) (g.F.Files.counted c.args.files.now) in
    let b = seen (g.F.Files.told c.print_out.new.files) (g.F.Files.counted c.print_out.new.files) in
    record { replays = λ before is h. printed_half before a b c.args.job.now c.args.state.now c.as_slice.result.now c.in-Err-print_out.stop (two_of before c.args.job.now is c.requires.sized) h (c.as_slice.ensures.value ∙ c.in-Ok.ensures) c.in-Err-print_out.ensures }
