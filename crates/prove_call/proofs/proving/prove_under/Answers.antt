use Rattle.std.proofs.Common.{string_bytes}
use Rattle.nf_base.specs.Functions.{function_of}
use Rattle.call_base.specs.Outside.{seen}
use Rattle.prove_call.proofs.Outcomes.{proves_behind}
use Rattle.prove_call.proofs.proving.prove_under.Goals as goal

pub returns-in-Ok : goal.returns-in-Ok
returns-in-Ok g c =
    let told = g.F.Files.told in
    let counted = g.F.Files.counted in
    let a = seen (told c.args.files.now) (counted c.args.files.now) in
    let b = seen (told c.leave.new.files) (counted c.leave.new.files) in
    proves_behind _ (function_of c.args.func.now) c.args.command.now.card (string_bytes c.args.command.now.proof) c.in-Ok.texts.certificate.items c.in-Ok.texts.printed.items a b c.leave.result c.in-Ok.ensures c.leave.ensures
