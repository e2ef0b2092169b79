use Rattle.std.proofs.Common.{◌+◌, length, arith, sym, subst, ap}
use Rattle.std.proofs.lemmas.List.{length_push}
use Rattle.path_walk.specs.Counts.{ArePlain, AreAhead}
use Rattle.path_walk.proofs.Settled.{plain_more, ahead_more}
use Rattle.path_walk.proofs.counting.texts_ahead.Goals as goal

pub loop-line-preserved : goal.loop-line-preserved
loop-line-preserved c =
    let ls = c.args.numbered.now.lines.items in
    let i = c.loop-line.line-index in
    let counts = c.loop-line.ahead.items in
    let before = c.loop-line.invariant in
    let plain : ArePlain c.in-Some.count ls (i + 1) = plain_more ls c.as_slice-line-items.result.now c.loop-line.texts c.in-Some.count i _ c.as_slice-line-items.ensures.value before.plain c.in-Some.ensures.least c.in-Some.ensures.plain (omega (arith, c.loop-line-test.true)) in
    let items = ap length c.in_ok-push.ensures.items in
    let more = length_push counts c.in-Some.count in
    record {
      ahead = subst (AreAhead ls) (sym c.in_ok-push.ensures.items) (ahead_more ls counts c.in-Some.count i before.ahead before.len plain);
      plain = plain;
      len = omega (arith, items, more, before.len);
    }
