use Rattle.std.proofs.Common.{◌≡◌, ◌<◌, ◌∙◌, ◌++◌, ◌∷◌, [], ℕ, List, length, take, get_or, inl, inr, sym, ap, subst, arith}
use Rattle.std.specs.List.{slice_get}
use Rattle.std.proofs.lemmas.List.{map_push, take_more, length-map, length-take-le}
use Rattle.stream_run.specs.Texts.{head}
use Rattle.stream_run.specs.Writing.{Holding, files_of}
use Rattle.stream_run.proofs.Complete.{got_end}
use Rattle.stream_run.proofs.heads.begin_sinks.Goals as goal

pub loop-k-preserved : goal.loop-k-preserved
loop-k-preserved c =
    let all = c.args.targets.now in
    let k = c.loop-k.k in
    let now = c.loop-k.sinks in
    let s = c.new.result in
    let inv = c.loop-k.invariant in
    let pushed : c.push.new.self ≡ now ++ s ∷ [] = c.in_ok-push.ensures.ok in
    let file : s.file ≡ get_or all k 0 = ap (λ (x : Holding). x.file) c.new.ensures in
    let format : s.format ≡ c.args.format = ap (λ (x : Holding). x.format) c.new.ensures in
    let held : s.held ≡ head c.args.mode c.args.workers c.args.card c.args.format c.args.ports k = ap (λ (x : Holding). x.held) c.new.ensures ∙ c.in_ok-bytes.ensures in
    let lt : k < length all = omega arith in
    let long : length now ≡ k = omega (arith, ap (λ (t : List ℕ). length t) inv.files, length-map now (λ (x : Holding). x.file), length-take-le k all (omega arith)) in
    record {
      files = ap files_of pushed ∙ map_push (λ (x : Holding). x.file) now s ∙ ap (λ (t : List ℕ). t ++ s.file ∷ []) inv.files ∙ ap (λ (n : ℕ). take k all ++ n ∷ []) file ∙ sym (take_more all k 0 lt);
      heads = λ j x e. elim (got_end now s j x (ap (λ (t : List Holding). slice_get t j) (sym pushed) ∙ e)) [
        | inl here ↦ (sym (ap (λ (t : Holding). t.format) here.1) ∙ format, subst (λ (t : Holding). t.held ≡ head c.args.mode c.args.workers c.args.card c.args.format c.args.ports j) here.1 (subst (λ (n : ℕ). s.held ≡ head c.args.mode c.args.workers c.args.card c.args.format c.args.ports n) (sym (here.0 ∙ long)) held))
        | inr there ↦ inv.heads j x there
      ];
    }
