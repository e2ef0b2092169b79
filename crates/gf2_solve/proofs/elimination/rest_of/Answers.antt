use Rattle.std.proofs.Common.{◌≡◌, length, get_or, arith}
use Rattle.gf2_solve.proofs.Reducing.{reduced_zero, leads_there, reduced_led, reduced_same, reduced_free}
use Rattle.gf2_solve.proofs.elimination.rest_of.Goals as goal

pub loop-lead-preserved-in-Some-rows : goal.loop-lead-preserved-in-Some-rows
loop-lead-preserved-in-Some-rows c =
    let read : c.index-rows-len.result ≡ get_or c.args.rows.now (length c.pop.new.self) c.index-rows-len.result = grind arith in
    let there = leads_there _ _ _ _ _ _ _ _ c.in-Some.ensures c.loop-lead.invariant read c.in-Some-rows.is in
    let sums = c.add.ensures.sums in
    let led = reduced_led _ _ _ _ _ _ _ _ c.in-Some.ensures c.if-lead.true there sums c.add.ensures.length c.loop-lead.invariant in
    rw c.plus-sum.ensures (reduced_same _ _ _ _ _ led c.trim-in-Some-rows.ensures.sums c.trim-in-Some-rows.ensures.shorter)

pub returns-in-None : goal.returns-in-None
returns-in-None c =
    let read : c.index-rows-len.result ≡ get_or c.args.rows.now (length c.pop.new.self) c.index-rows-len.result = grind arith in
    let there = leads_there _ _ _ _ _ _ _ _ c.in-Some.ensures c.loop-lead.invariant read c.in-None.is in
    reduced_free _ _ _ _ _ _ c.in-Some.ensures c.if-lead.true there c.loop-lead.invariant

pub loop-lead-preserved : goal.loop-lead-preserved
loop-lead-preserved c = reduced_zero _ _ _ _ _ _ c.in-Some.ensures c.if-lead.false c.loop-lead.invariant
