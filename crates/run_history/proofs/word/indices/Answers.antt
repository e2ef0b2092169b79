use Rattle.std.proofs.Common.{ℕ, List, [], ◌∷◌, ◌++◌, sym, ap, subst, ◌∙◌, length, length-append, arith}
use Rattle.run_history.specs.Reading.{listed}
use Rattle.run_history.proofs.Choices.{AreShort, last_read, no_index, too_many, one_read, short_more}
use Rattle.run_history.proofs.word.indices.Goals as goal

pub returns-in-None : goal.returns-in-None
returns-in-None c =
    let inv = c.loop-k.invariant in
    last_read c.args.word.now c.loop-k.picks c.loop-k.rest.now c.put_index.new.picks c.put_index.result inv.short (omega (arith, inv.count)) inv.spelled c.in-None.ensures c.put_index.ensures

pub returns-then-not-put_index : goal.returns-then-not-put_index
returns-then-not-put_index c =
    let inv = c.loop-k.invariant in
    no_index c.args.word.now c.loop-k.picks c.loop-k.rest.now c.in-Some.index.now c.in-Some.more.now inv.short inv.spelled c.in-Some.ensures.0 c.in-Some.ensures.1 c.if-not-put_index.ensures.0

pub loop-k-preserved : goal.loop-k-preserved
loop-k-preserved c =
    let inv = c.loop-k.invariant in
    let put = c.if-not-put_index.ensures in
    record {
      spelled = ap (λ (ps : List ℕ). listed ps ++ c.in-Some.more.now) put.3
          ∙ one_read c.args.word.now c.loop-k.picks c.loop-k.rest.now c.in-Some.index.now c.in-Some.more.now put.0 inv.spelled c.in-Some.ensures.1 put.2;
      count = omega (arith, inv.count, ap (λ (ps : List ℕ). length ps) put.3, length-append c.loop-k.picks (put.0 ∷ []));
      short = subst AreShort (sym put.3) (short_more c.loop-k.picks put.0 inv.short put.1);
    }

pub returns : goal.returns
returns c =
    let inv = c.loop-k.invariant in
    too_many c.args.word.now c.loop-k.picks c.loop-k.rest.now inv.short inv.spelled (omega (arith, inv.count))
