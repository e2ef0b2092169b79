use Rattle.std.proofs.Common.{◌≡◌, ◌<◌, ◌∙◌, ◌++◌, ◌∷◌, [], ℕ, List, length, take, get_or, sym, ap, subst, arith}
use Rattle.std.proofs.lemmas.List.{map_push, take_more}
use Rattle.stream_run.specs.Writing.{Holding, files_of}
use Rattle.locked_run.specs.Chunks.{AreBare}
use Rattle.locked_run.proofs.Chunked.{bare_pushed}
use Rattle.locked_run.proofs.chunk.Chunk.new.Goals as goal

pub loop-k-preserved : goal.loop-k-preserved
loop-k-preserved c =
    let all = c.args.targets.now in
    let k = c.loop-k.k in
    let now = c.loop-k.sinks in
    let s = c.new-in-loop-k.result in
    let inv = c.loop-k.invariant in
    let pushed : c.push.new.self ≡ now ++ s ∷ [] = c.in_ok-push.ensures.ok in
    let file : s.file ≡ get_or all k 0 = ap (λ (x : Holding). x.file) c.new-in-loop-k.ensures in
    let format : s.format ≡ c.args.format = ap (λ (x : Holding). x.format) c.new-in-loop-k.ensures in
    let held : s.held ≡ [] = ap (λ (x : Holding). x.held) c.new-in-loop-k.ensures ∙ c.new.ensures.items in
    let lt : k < length all = omega arith in
    record {
      files = ap files_of pushed ∙ map_push (λ (x : Holding). x.file) now s ∙ ap (λ (t : List ℕ). t ++ s.file ∷ []) inv.files ∙ ap (λ (n : ℕ). take k all ++ n ∷ []) file ∙ sym (take_more all k 0 lt);
      bare = subst (AreBare c.args.format) (sym pushed) (bare_pushed c.args.format now s format held inv.bare);
    }
