use Rattle.std.proofs.Common.{◌≡◌, ◌-◌, ◌/◌, ◌^◌, ◌∙◌, ap, arith}
use Rattle.std.proofs.lemmas.Nat.Bits.{ones_shr}
use Rattle.gf2_solve.proofs.TrimmedLemmas.{trimmed_within, trimmed_zeros}
use Rattle.gf2_solve.proofs.words.trimmed_word.Goals as goal

pub returns-clause-within : goal.returns-clause-within
returns-clause-within c =
    let back : 64 - (64 - c.args.count) ≡ c.args.count = omega (arith, c.requires.fits) in
    let mask : (2 ^ 64 - 1) / 2 ^ (64 - c.args.count) ≡ 2 ^ c.args.count - 1 = ones_shr 64 (64 - c.args.count) (omega arith) ∙ ap (λ k. 2 ^ k - 1) back in
    rw mask (trimmed_within c.args.word c.args.count c.requires.fits)

pub returns-clause-zeros : goal.returns-clause-zeros
returns-clause-zeros c =
    let back : 64 - (64 - c.args.count) ≡ c.args.count = omega (arith, c.requires.fits) in
    let mask : (2 ^ 64 - 1) / 2 ^ (64 - c.args.count) ≡ 2 ^ c.args.count - 1 = ones_shr 64 (64 - c.args.count) (omega arith) ∙ ap (λ k. 2 ^ k - 1) back in
    rw mask (λ i. trimmed_zeros c.args.word c.args.count i c.requires.fits)
