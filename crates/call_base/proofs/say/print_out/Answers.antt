use Rattle.std.proofs.Common.{sym, subst, arith}
use Rattle.call_base.specs.declared.status.CallFault.{CallFault}
use Rattle.call_base.specs.Outside.{seen}
use Rattle.call_base.specs.PrintedOut.{IsHalfPrinted}
use Rattle.call_base.proofs.Printing.{half_printed}
use Rattle.call_base.proofs.say.print_out.Goals as goal

pub returns-in-Err : goal.returns-in-Err
returns-in-Err g c =
    let a = seen (g.F.Files.told c.args.files.now) (g.F.Files.counted c.args.files.now) in
    let b = seen (g.F.Files.told c.say.new.files) (g.F.Files.counted c.say.new.files) in
    subst (λ (s : CallFault). IsHalfPrinted a b c.args.piece.now s) (sym c.stop_at_stdout.ensures)
    (half_printed a b c.args.piece.now c.in-Err.stop (g.met.F.Files.standard c.args.files.now 0 (omega arith)) c.in-Err.ensures.wrote c.in-Err.ensures.at c.in-Err.ensures.cause)
