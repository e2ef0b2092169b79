use Rattle.std.proofs.Common.{◌≡◌, ◌∙◌, ap, map, take, arith}
use Rattle.std.specs.List.{range_with_len}
use Rattle.nf_base.specs.Cards.{key_bytes}
use Rattle.std.proofs.lemmas.List.FromFn.{fill_by_all}
use Rattle.key_rows.specs.Solutions.{byte_of}
use Rattle.key_rows.proofs.Bytes.{front_of}
use Rattle.key_rows.proofs.solution.key_from.Goals as goal

pub returns : goal.returns
returns c =
    let size = c.args.size in
    let f = byte_of c.args.bits.now c.args.port c.args.count in
    let whole : c.loop-i.bytes ≡ map f (range_with_len 0 52) = fill_by_all f c.loop-i.bytes 52 0 c.loop-i.invariant.long (λ k below. c.loop-i.invariant.front k (omega arith)) in
    c.new.ensures
    ∙ ap (take (key_bytes size)) whole
    ∙ front_of f size
