use Rattle.std.proofs.Common.{List, sym, ◌∙◌, subst}
use Rattle.locked_run.specs.declared.chunk.Chunk.{Chunk}
use Rattle.locked_run.specs.Chunks.{AreOf}
use Rattle.locked_run.proofs.Rounding.{all_of, given_as}
use Rattle.locked_run.proofs.writing.write_made.Goals as goal

pub write_each-requires-clause-files : goal.write_each-requires-clause-files
write_each-requires-clause-files g c = subst (λ (cs : List Chunk). AreOf c.args.targets.now cs) (sym c.as_mut_slice.ensures.value) c.requires.files

pub returns : goal.returns
returns g c =
    let F = g.F.Files in
    let w = c.write_each in
    given_as (F.counted c.args.files.now) (F.counted w.new.files) (F.told c.args.files.now) (F.told w.new.files) c.args.targets.now
    c.as_mut_slice.result.now w.new.chunks c.args.chunks.now.items _ w.result
    c.as_mut_slice.ensures.value
    (all_of c.args.chunks.now.len w.new.chunks _ (sym c.as_mut_slice.ensures.len ∙ sym w.auto.chunks))
    (record {
      goes_on = w.ensures.goes_on;
      as_many = w.auto.chunks;
      same_files = w.ensures.same_files;
      kept = w.ensures.kept;
      cause = w.ensures.cause;
      among = w.ensures.among;
    })
