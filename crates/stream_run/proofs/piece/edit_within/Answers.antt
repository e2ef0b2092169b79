use Rattle.std.proofs.Common.{◌≡◌, ◌++◌, ◌+◌, ◌-◌, ℕ, List, ap, take, drop, length, subst, arith}
use borrow.Rule.Slice.PartMut.{put_mid}
use Rattle.stream_run.specs.Texts.{with_edits}
use Rattle.stream_run.proofs.piece.edit_within.Goals as goal

pub returns-clause-edited : goal.returns-clause-edited
returns-clause-edited c =
    let e = c.args.edits.now in
    let old = c.args.bytes.now in
    let start = c.args.start in
    let k = start + c.args.captured - start in
    let ys = c.edit_handled.new.frame in
    let same : k ≡ c.args.captured = omega arith in
    subst (λ (n : ℕ). put_mid start k old ys ≡ take start old ++ (with_edits e (take n (drop start old)) ++ drop n (drop start old))) same
    (ap (λ (xs : List ℕ). take start old ++ (xs ++ drop k (drop start old))) c.edit_handled.ensures.edited)

pub returns-clause-long : goal.returns-clause-long
returns-clause-long c =
    let e = c.args.edits.now in
    let rest = drop c.args.start c.args.bytes.now in
    let same : c.args.start + c.args.captured - c.args.start ≡ c.args.captured = omega arith in
    subst (λ (n : ℕ). length (with_edits e (take n rest)) ≡ length (take n rest)) same c.edit_handled.ensures.long
