use Rattle.std.proofs.Common.{◌≡◌, ◌<◌, ◌+◌, ◌*◌, ◌++◌, ◌∙◌, ℕ, List, length, take, get_or, sym, subst, arith}
use Rattle.std.proofs.lemmas.Option.{slice_get-get_or, slice_get_within}
use Rattle.stream_run.specs.Writing.{files_of, AreFronts}
use Rattle.stream_run.proofs.Held.{but_both, but_written}
use Rattle.locked_run.specs.Going.{AreWhole}
use Rattle.locked_run.specs.Chunks.{chunk_at}
use Rattle.locked_run.proofs.Chunked.{whole_next, fronts_next, of_set, idle_set, rest_set, among_by}
use Rattle.locked_run.proofs.writing.write_each.Goals as goal

pub loop-i-preserved : goal.loop-i-preserved
loop-i-preserved g c =
    let told = g.F.Files.told in
    let targets = c.args.targets.now in
    let now = c.loop-i.chunks in
    let i = c.loop-i.i in
    let b = get_or now i c.index-chunks-i.result in
    let w = c.write.new.self in
    let inv = c.loop-i.invariant in
    let lt : i < length now = omega (arith, c.loop-i.auto.chunks, c.loop-i-test.true) in
    let e = slice_get-get_or now i c.index-chunks-i.result lt in
    let files = inv.same_files i b e in
    record {
      on = λ mode workers card format ports all from size hold whole.
          let before = inv.on mode workers card format ports all from size hold whole in
          let n = from + i * size in
          let first = subst (λ (fs : List ℕ). AreWhole mode workers card format ports (take n all) (told c.loop-i.files) fs) (sym files) before.0 in
          let r = c.in-Ok.ensures.goes_on mode workers card format ports (take n all) (chunk_at all n size) (hold i b (inv.rest i b (omega arith) e)) first in (
            whole_next mode workers card format ports all from i size (told c.write.new.files) targets
                (subst (λ (fs : List ℕ). AreWhole mode workers card format ports (take n all ++ chunk_at all n size) (told c.write.new.files) fs) files r.0),
            idle_set format now i w r.1 before.1,
          );
      rest = rest_set c.args.chunks.now now i w inv.rest;
      same_files = of_set targets now i w (c.write.ensures.same_files ∙ files) inv.same_files;
      kept = but_both targets (told c.args.files.now) (told c.loop-i.files) (told c.write.new.files) inv.kept
          (but_written targets (files_of b.sinks) (told c.loop-i.files) (told c.write.new.files) files c.write.ensures.kept);
      count = c.in-Ok.ensures.cause ∙ inv.count;
    }

pub returns-in-Err-clause-goes_on : goal.returns-in-Err-clause-goes_on
returns-in-Err-clause-goes_on g c = λ mode workers card format ports all from size hold whole.
    let told = g.F.Files.told in
    let targets = c.args.targets.now in
    let now = c.loop-i.chunks in
    let i = c.loop-i.i in
    let b = get_or now i c.index-chunks-i.result in
    let inv = c.loop-i.invariant in
    let lt : i < length now = omega (arith, c.loop-i.auto.chunks, c.loop-i-test.true) in
    let e = slice_get-get_or now i c.index-chunks-i.result lt in
    let files = inv.same_files i b e in
    let before = inv.on mode workers card format ports all from size hold whole in
    let n = from + i * size in
    let first = subst (λ (fs : List ℕ). AreWhole mode workers card format ports (take n all) (told c.loop-i.files) fs) (sym files) before.0 in
    let r = c.in-Err.ensures.goes_on mode workers card format ports (take n all) (chunk_at all n size) (hold i b (inv.rest i b (omega arith) e)) first in
    fronts_next mode workers card format ports all n size (told c.write.new.files) targets
    (subst (λ (fs : List ℕ). AreFronts mode workers card format ports (take n all ++ chunk_at all n size) (told c.write.new.files) fs) files r.0)

pub returns-in-Err-clause-same_files : goal.returns-in-Err-clause-same_files
returns-in-Err-clause-same_files g c =
    let targets = c.args.targets.now in
    let now = c.loop-i.chunks in
    let i = c.loop-i.i in
    let b = get_or now i c.index-chunks-i.result in
    let inv = c.loop-i.invariant in
    let lt : i < length now = omega (arith, c.loop-i.auto.chunks, c.loop-i-test.true) in
    let e = slice_get-get_or now i c.index-chunks-i.result lt in
    of_set targets now i c.write.new.self (c.write.ensures.same_files ∙ inv.same_files i b e) inv.same_files

pub returns-in-Err-clause-kept : goal.returns-in-Err-clause-kept
returns-in-Err-clause-kept g c =
    let told = g.F.Files.told in
    let targets = c.args.targets.now in
    let now = c.loop-i.chunks in
    let i = c.loop-i.i in
    let b = get_or now i c.index-chunks-i.result in
    let inv = c.loop-i.invariant in
    let lt : i < length now = omega (arith, c.loop-i.auto.chunks, c.loop-i-test.true) in
    let e = slice_get-get_or now i c.index-chunks-i.result lt in
    but_both targets (told c.args.files.now) (told c.loop-i.files) (told c.write.new.files) inv.kept
    (but_written targets (files_of b.sinks) (told c.loop-i.files) (told c.write.new.files) (inv.same_files i b e) c.write.ensures.kept)

pub returns-in-Err-clause-among : goal.returns-in-Err-clause-among
returns-in-Err-clause-among g c =
    let now = c.loop-i.chunks in
    let i = c.loop-i.i in
    let b = get_or now i c.index-chunks-i.result in
    let inv = c.loop-i.invariant in
    let lt : i < length now = omega (arith, c.loop-i.auto.chunks, c.loop-i-test.true) in
    let e = slice_get-get_or now i c.index-chunks-i.result lt in
    among_by c.in-Err.stop (files_of b.sinks) c.args.targets.now (inv.same_files i b e) c.in-Err.ensures.among

pub returns-clause-goes_on : goal.returns-clause-goes_on
returns-clause-goes_on g c = λ mode workers card format ports all from size hold whole.
    let now = c.loop-i.chunks in
    let i = c.loop-i.i in
    let r = c.loop-i.invariant.on mode workers card format ports all from size hold whole in
    let end : i ≡ length c.args.chunks.now = omega (arith, c.loop-i.auto.chunks, c.loop-i-test.false) in (
      subst (λ (k : ℕ). AreWhole mode workers card format ports (take (from + k * size) all) (g.F.Files.told c.loop-i.files) c.args.targets.now) end r.0,
      λ j x e. let within = slice_get_within now j x e in r.1 j x (omega (arith, within, end)) e,
    )
