use Rattle.std.proofs.Common.{arith, ◌≡◌, ◌<◌, length, map, take, get_or, ◌++◌, ◌∷◌, [], length-append}
use Rattle.std.proofs.lemmas.Grind.{common_steps}
use Rattle.nf_base.specs.Handlers.{blocks_of}
use Rattle.nf_code.specs.Ready.{AllBegin}
use Rattle.nf_code.proofs.Kept.{kept_on}
use Rattle.nf_code.proofs.Begun.{one_begins, front}
use Rattle.nf_code.proofs.ready.all_starts.Goals as goal

pub loop-one-preserved : goal.loop-one-preserved
loop-one-preserved c =
    let hs = c.args.handlers.now in
    let less : c.loop-one.one-index < length hs = grind (arith, common_steps, c.loop-one-test.true, c.as_slice-one-items.ensures.value) in
    let is : c.one-item.result ≡ get_or hs c.loop-one.one-index c.one-item.result = grind (arith, common_steps, c.one-item.is, c.as_slice-one-items.ensures.value) in
    let more : AllBegin c.starts_of.new.code (map blocks_of (take c.loop-one.one-index hs) ++ blocks_of c.one-item.result ∷ []) (c.loop-one.all ++ c.in_ok-starts_of.field-0 ∷ []) =
    one_begins c.loop-one.code c.starts_of.new.code c.in_ok-starts_of.ensures.keeps (map blocks_of (take c.loop-one.one-index hs)) c.loop-one.all (blocks_of c.one-item.result) c.in_ok-starts_of.field-0 c.loop-one.invariant.begin c.in_ok-starts_of.ensures.begin in
    record {
      made = grind (arith, common_steps, length-append c.loop-one.all (c.in_ok-starts_of.field-0 ∷ []), c.in_ok-push.ensures.ok, c.loop-one.invariant.made);
      keeps = kept_on c.args.code.now c.loop-one.code c.starts_of.new.code c.loop-one.invariant.keeps c.in_ok-starts_of.ensures.keeps;
      begin = rw (front hs c.loop-one.one-index c.one-item.result less is, c.in_ok-push.ensures.ok) more;
    }
