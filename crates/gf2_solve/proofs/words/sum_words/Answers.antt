use Rattle.std.proofs.Common.{◌≡◌, ◌≤◌, ◌<◌, ◌+◌, ◌*◌, ◌/◌, ◌%◌, ◌^◌, ◌∙◌, length, arith}
use Rattle.std.proofs.lemmas.Nat.{one_shl}
use Rattle.gf2_solve.proofs.SharedLemmas.{summed_front, summed_all, summed_rest}
use Rattle.gf2_solve.proofs.words.sum_words.Goals as goal

pub returns-then-len-eq0 : goal.returns-then-len-eq0
returns-then-len-eq0 c =
    let within : c.args.len / 64 ≤ length c.args.row.now = omega (arith, c.requires.row) in
    let all : 64 * (c.args.len / 64) ≡ c.args.len = omega (arith, c.if-len-eq0.true) in
    c.is_odd.ensures ∙ summed_all _ _ _ _ _ all (summed_front _ _ _ _ within c.sum_whole-sums.ensures)

pub returns : goal.returns
returns c =
    let within : c.args.len / 64 ≤ length c.args.row.now = omega (arith, c.requires.row) in
    let all : 64 * (c.args.len / 64) + c.args.len % 64 ≡ c.args.len = omega arith in
    let low : c.args.len % 64 < 64 = omega arith in
    let mask : 1 * 2 ^ (c.args.len % 64) % 2 ^ 64 ≡ 2 ^ (c.args.len % 64) = one_shl (c.args.len % 64) 64 low in
    c.is_odd-2.ensures ∙ rw mask (summed_rest _ _ _ _ _ _ low all (summed_front _ _ _ _ within c.sum_whole-sums.ensures))
