use Rattle.std.proofs.Common.{string_bytes}
use Rattle.call_base.specs.Outside.{seen}
use Rattle.prove_call.proofs.Outcomes.{leaves_behind}
use Rattle.prove_call.proofs.leaving.leave.Goals as goal

pub returns-in-Ok : goal.returns-in-Ok
returns-in-Ok g c =
    let told = g.F.Files.told in
    let counted = g.F.Files.counted in
    let a = seen (told c.args.files.now) (counted c.args.files.now) in
    let b = seen (told c.write_certificate.new.files) (counted c.write_certificate.new.files) in
    let d = seen (told c.print_verdict.new.files) (counted c.print_verdict.new.files) in
    leaves_behind _ a b d (string_bytes c.args.name.now) c.args.texts.now.certificate.items c.args.texts.now.printed.items c.as_slice.result.now c.as_slice-in-Ok.result.now c.print_verdict.result
    c.as_slice.ensures.value c.as_slice-in-Ok.ensures.value c.in-Ok.ensures c.print_verdict.ensures
