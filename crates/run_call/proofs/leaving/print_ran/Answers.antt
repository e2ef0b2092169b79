use Rattle.std.proofs.Common.{◌∙◌}
use Rattle.call_base.specs.Outside.{seen}
use Rattle.run_call.proofs.Beginning.{halted}
use Rattle.run_call.proofs.Finishing.{printed, half_printed}
use Rattle.run_call.proofs.leaving.print_ran.Goals as goal

pub returns-in-Ok : goal.returns-in-Ok
returns-in-Ok g c =
    let a = seen (g.F.Files.told c.args.files.now) (g.F.Files.counted c.args.files.now) in
    let b = seen (g.F.Files.told c.print_lines.new.files) (g.F.Files.counted c.print_lines.new.files) in
    let line = c.as_slice.ensures.value ∙ c.ran_line-line.ensures in
    record { runs = λ old new state ran. printed g.before a b c.args.job.now c.args.mode c.args.packets state c.args.end c.as_slice.result.now c.requires.1.0 ran c.requires.1.1 line c.in-Ok.ensures }

pub returns-in-Err : goal.returns-in-Err
returns-in-Err g c =
    let a = seen (g.F.Files.told c.args.files.now) (g.F.Files.counted c.args.files.now) in
    let b = seen (g.F.Files.told c.print_lines.new.files) (g.F.Files.counted c.print_lines.new.files) in
    let line = c.as_slice.ensures.value ∙ c.ran_line-line.ensures in
    record {
      runs = λ old new state ran. halted g.before b c.args.job.now c.in-Err.stop c.halt.result c.requires.1.0 c.halt.ensures
          (half_printed g.before a b c.args.job.now c.args.mode c.args.packets state c.args.end c.as_slice.result.now c.in-Err.stop c.requires.1.0 ran c.requires.1.1 line c.in-Err.ensures);
    }
