use Rattle.std.proofs.Common.{inr, refl, string_bytes}
use Rattle.call_base.specs.declared.status.RunFile.TheVariants.{Proof}
use Rattle.call_base.specs.declared.status.CallFault.TheVariants.{File, Memory}
use Rattle.call_base.specs.Outside.{seen}
use Rattle.prove_call.proofs.Outcomes.{half_written}
use Rattle.prove_call.proofs.leaving.write_certificate.Goals as goal

pub returns-in-Err-Failed-write_whole : goal.returns-in-Err-Failed-write_whole
returns-in-Err-Failed-write_whole g c =
    let told = g.F.Files.told in
    let counted = g.F.Files.counted in
    let a = seen (told c.args.files.now) (counted c.args.files.now) in
    let b = seen (told c.create_out.new.self) (counted c.create_out.new.self) in
    let d = seen (told c.write_whole.new.files) (counted c.write_whole.new.files) in
    inr (half_written a b d (string_bytes c.args.name.now) c.deref.result.now c.args.text.now c.in-Ok.file (File Proof) c.deref.ensures c.in-Ok.ensures.ok c.in-Ok.ensures.cause
    c.in-Err-Failed-write_whole.ensures.wrote (refl, rw c.in-Err-Failed-write_whole.field-0-is at c.in-Err-Failed-write_whole.ensures.cause))

pub returns-in-Err-Memory-write_whole : goal.returns-in-Err-Memory-write_whole
returns-in-Err-Memory-write_whole g c =
    let told = g.F.Files.told in
    let counted = g.F.Files.counted in
    let a = seen (told c.args.files.now) (counted c.args.files.now) in
    let b = seen (told c.create_out.new.self) (counted c.create_out.new.self) in
    let d = seen (told c.write_whole.new.files) (counted c.write_whole.new.files) in
    inr (half_written a b d (string_bytes c.args.name.now) c.deref.result.now c.args.text.now c.in-Ok.file Memory c.deref.ensures c.in-Ok.ensures.ok c.in-Ok.ensures.cause
    c.in-Err-Memory-write_whole.ensures.wrote (rw c.in-Err-Memory-write_whole.field-0-is at c.in-Err-Memory-write_whole.ensures.cause))
