use Rattle.std.proofs.Common.{◌≡◌, ◌<◌, ◌∙◌, ◌++◌, ◌∷◌, [], ℕ, List, length, take, get_or, inl, inr, sym, ap, subst, true, arith}
use Rattle.std.specs.List.{slice_get}
use Rattle.std.proofs.lemmas.List.{map_push, take_more}
use Rattle.file_match.specs.Comparing.{Comparing}
use Rattle.stream_run.proofs.Complete.{got_end}
use Rattle.replay_run.specs.Outputs.{files_of}
use Rattle.replay_run.proofs.outputs.begin.Goals as goal

pub loop-file-preserved : goal.loop-file-preserved
loop-file-preserved c =
    let all = c.args.outputs.now in
    let k = c.loop-file.file-index in
    let now = c.loop-file.all in
    let o = c.in_ok-compared.compared in
    let inv = c.loop-file.invariant in
    let pushed : c.push.new.self ≡ now ++ o ∷ [] = c.in_ok-push.ensures.ok in
    let file : o.file ≡ get_or all k 0 = ap (λ (x : Comparing). x.file) c.in_ok-compared.ensures in
    let fresh : o.same ≡ true = ap (λ (x : Comparing). x.same) c.in_ok-compared.ensures in
    let lt : k < length all = omega arith in
    record {
      files = ap files_of pushed ∙ map_push (λ (x : Comparing). x.file) now o ∙ ap (λ (t : List ℕ). t ++ o.file ∷ []) inv.files ∙ ap (λ (n : ℕ). take k all ++ n ∷ []) file ∙ sym (take_more all k 0 lt);
      same = λ j x e. elim (got_end now o j x (ap (λ (t : List Comparing). slice_get t j) (sym pushed) ∙ e)) [
        | inl here ↦ subst (λ (t : Comparing). t.same ≡ true) here.1 fresh
        | inr there ↦ inv.same j x there
      ];
    }
