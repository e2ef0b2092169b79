use Rattle.std.proofs.Common.{◌∙◌, take, drop, subst, ap, length, length-drop, List, ℕ, arith}
use Rattle.nf_files.specs.Writes.{Writes}
use Rattle.nf_files.proofs.Given.{writes_more, front_more}
use Rattle.nf_files.proofs.whole.write_whole.Goals as goal

pub loop-at-preserved : goal.loop-at-preserved
loop-at-preserved g c =
    let told = g.F.Files.told in
    let piece = c.args.piece.now in
    let count = c.in_ok-at.field-0 in
    let back = c.split_at.ensures.back in
    let wrote = subst (λ (p : List ℕ). Writes (told c.loop-at.files) (told c.write.new.self) c.args.file (take count p)) back c.in_ok-at.ensures.ok in
    record {
      in_range = omega (arith, c.in_ok-at.ensures.within, ap length back, length-drop c.loop-at.at piece, c.loop-at.invariant.in_range);
      wrote = subst (λ (p : List ℕ). Writes (told c.args.files.now) (told c.write.new.self) c.args.file p) (front_more piece c.loop-at.at count) (writes_more _ _ _ c.args.file (take c.loop-at.at piece) (take count (drop c.loop-at.at piece)) c.loop-at.invariant.wrote wrote);
      count = c.in_ok-at.ensures.cause ∙ c.loop-at.invariant.count;
    }
