use Rattle.std.proofs.Common.{◌≡◌, ◌<◌, ◌∙◌, ◌++◌, ℕ, List, length, ap, subst, arith}
use Rattle.std.proofs.lemmas.Option.{slice_get_within}
use Rattle.capture_format.specs.Written.{head_bytes}
use Rattle.file_match.specs.Comparing.{Found}
use Rattle.replay_run.proofs.Compared.{same_length, found_none, sent_none}
use Rattle.replay_run.proofs.outputs.compare_headers.Goals as goal

pub returns-in-Ok-compare_heads-clause-compares : goal.returns-in-Ok-compare_heads-clause-compares
returns-in-Ok-compare_heads-clause-compares g c = λ mode workers card k o e.
    let old = g.F.Files.told c.args.files.now in
    let new = g.F.Files.told c.compare_heads.new.files in
    let n = length c.args.all.now in
    let head : c.as_slice.result.now ≡ head_bytes c.args.format = c.as_slice.ensures.value ∙ c.in-Ok.ensures.ok ∙ ap (λ (t : List ℕ). t ++ head_bytes c.args.format) c.new-buffer.ensures.items in
    let found = c.in-Ok-compare_heads.ensures.compares old.rest (λ j x p. found_none x old (c.requires.fresh j x p)) k o e in
    let lt : k < n = omega (arith, slice_get_within c.compare_heads.new.all k o e, same_length c.compare_heads.new.all c.args.all.now c.compare_heads.ensures.same_files) in
    subst (λ (bytes : List ℕ). Found o bytes (old.rest o.file) (new.rest o.file)) (head ∙ sent_none mode workers card c.args.format n k lt) found
