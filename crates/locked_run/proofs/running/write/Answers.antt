use Rattle.stream_run.specs.Texts.{bytes_of}
use Rattle.stream_run.proofs.Held.{but_both}
use Rattle.stream_run.proofs.Complete.{empty_front}
use Rattle.locked_run.specs.Handled.{joined}
use Rattle.locked_run.proofs.Chunked.{fronts_all}
use Rattle.locked_run.proofs.running.write.Goals as goal

pub returns-in-Err-clause-written : goal.returns-in-Err-clause-written
returns-in-Err-clause-written g c = λ k file e.
    let hs = joined c.args.batch.now c.args.worked.now.order c.args.worked.now.places.items in
    empty_front (bytes_of c.args.mode c.args.workers c.args.card c.args.format c.args.ports k hs) ((g.F.Files.told c.args.files.now).given file) (c.requires.fresh.empty k file e)

pub returns-in-Ok-write_heads-clause-kept : goal.returns-in-Ok-write_heads-clause-kept
returns-in-Ok-write_heads-clause-kept g c =
    let told = g.F.Files.told in
    but_both c.args.targets.now (told c.args.files.now) (told c.write_heads.new.files) (told c.write_all.new.files) c.write_heads.ensures.kept c.write_all.ensures.kept

pub returns-clause-written : goal.returns-clause-written
returns-clause-written g c =
    let hs = joined c.args.batch.now c.args.worked.now.order c.args.worked.now.places.items in
    fronts_all c.args.mode c.args.workers c.args.card c.args.format c.args.ports hs 0 (g.F.Files.told c.write_heads.new.files) c.args.targets.now c.in-Err-write_heads.ensures.written
