use Rattle.std.proofs.Common.{◌∙◌, []}
use Rattle.stream_run.specs.Texts.{bytes_of}
use Rattle.stream_run.specs.Writing.{files_of}
use Rattle.stream_run.proofs.Held.{but_written}
use Rattle.stream_run.proofs.Complete.{empty_front, heads_held}
use Rattle.locked_run.proofs.Finishing.{written_by}
use Rattle.locked_run.proofs.running.write_heads.Goals as goal

pub returns-in-Ok-clause-written : goal.returns-in-Ok-clause-written
returns-in-Ok-clause-written g c =
    let told = g.F.Files.told in
    let heads = heads_held c.args.mode c.args.workers c.args.card c.args.format c.args.ports (told c.args.files.now) c.in-Ok.sinks c.args.targets.now c.in-Ok.ensures.files c.in-Ok.ensures.heads c.requires.fresh.empty in
    written_by _ _ c.args.mode c.args.workers c.args.card c.args.format c.args.ports [] (told c.flush_all.new.files) c.flush_all.new.sinks c.args.targets.now c.flush_all.result
    (c.flush_all.ensures.same_files ∙ c.in-Ok.ensures.files) (c.flush_all.ensures.goes_on c.args.mode c.args.workers c.args.card c.args.format c.args.ports [] heads) c.flush_all.ensures.empty

pub returns-in-Ok-clause-kept : goal.returns-in-Ok-clause-kept
returns-in-Ok-clause-kept g c =
    let told = g.F.Files.told in
    but_written c.args.targets.now (files_of c.in-Ok.sinks) (told c.args.files.now) (told c.flush_all.new.files) c.in-Ok.ensures.files c.flush_all.ensures.kept

pub returns-in-Err-clause-written : goal.returns-in-Err-clause-written
returns-in-Err-clause-written g c = λ k file e.
    empty_front (bytes_of c.args.mode c.args.workers c.args.card c.args.format c.args.ports k []) ((g.F.Files.told c.args.files.now).given file) (c.requires.fresh.empty k file e)
