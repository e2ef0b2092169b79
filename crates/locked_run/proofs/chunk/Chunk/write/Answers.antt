use Rattle.std.proofs.Common.{◌++◌, Bool, subst}
use Rattle.std.specs.Bool.{OnTrue}
use Rattle.stream_run.specs.Writing.{files_of}
use Rattle.locked_run.specs.Chunks.{HoldPieces}
use Rattle.locked_run.proofs.Chunked.{chunk_held, whole_front, bare_by}
use Rattle.locked_run.proofs.Finishing.{written_by}
use Rattle.locked_run.proofs.chunk.Chunk.write.Goals as goal

pub returns-then-self-clause-goes_on : goal.returns-then-self-clause-goes_on
returns-then-self-clause-goes_on g c = λ mode workers card format ports hs chunk made whole.
    let told = g.F.Files.told in
    let held = subst (λ (b : Bool). OnTrue b (HoldPieces format ports chunk c.args.self.now.sinks)) c.if-self.true made in
    let on = c.flush_all.ensures.goes_on mode workers card format ports (hs ++ chunk) (chunk_held mode workers card format ports hs chunk (told c.args.files.now) c.args.self.now.sinks whole held) in (
      written_by _ _ mode workers card format ports (hs ++ chunk) (told c.flush_all.new.files) c.flush_all.new.sinks (files_of c.args.self.now.sinks) c.flush_all.result c.flush_all.ensures.same_files on c.flush_all.ensures.empty,
      bare_by mode workers card format ports _ _ (hs ++ chunk) (told c.flush_all.new.files) c.flush_all.new.sinks c.flush_all.result on c.flush_all.ensures.empty,
    )

pub returns-else-self-clause-goes_on : goal.returns-else-self-clause-goes_on
returns-else-self-clause-goes_on g c = λ mode workers card format ports hs chunk made whole.
    (whole_front mode workers card format ports hs chunk (g.F.Files.told c.args.files.now) (files_of c.args.self.now.sinks) whole, tt)
