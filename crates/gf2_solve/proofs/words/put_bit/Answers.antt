use Rattle.std.proofs.Common.{◌/◌, ◌<◌, ◌∙◌, ap, length, arith}
use Rattle.std.proofs.lemmas.List.{get_or_read}
use Rattle.std.specs.Int.{bit_at}
use Rattle.gf2_solve.proofs.PackedLemmas.{put_in, put_behind}
use Rattle.gf2_solve.proofs.words.put_bit.Goals as goal

pub returns-then-at-len-clause-put : goal.returns-then-at-len-clause-put
returns-then-at-len-clause-put c = rw c.in_ok-push.ensures.items (put_behind _ _ _ _ c.requires (grind (arith, c.if-at-len.true)) c.with_bit.ensures.there)

pub returns-clause-put : goal.returns-clause-put
returns-clause-put c =
    let within : c.args.len / 64 < length c.args.words.now.items = grind (arith, c.if-at-len.false) in
    put_in _ _ _ _ (omega (arith, within)) c.with_bit-2.ensures.there
    (λ i h apart. c.with_bit-2.ensures.others i h apart ∙ ap (λ word. bit_at word i) (get_or_read c.args.words.now.items (c.args.len / 64) c.index.result.now within c.index.ensures 0))
