use Rattle.std.proofs.Common.{sym, ◌∙◌, arith}
use Rattle.key_proof.proofs.Named.{numbers_with}
use Rattle.key_proof.proofs.rows.numbers.Goals as goal

pub loop-n-preserved : goal.loop-n-preserved
loop-n-preserved c =
    numbers_with c.args.first.now c.args.second.now c.args.k c.args.u c.loop-n.n c.place_number.result c.loop-n.row c.push.new.self c.in_ok-push.ensures.ok
    (sym (c.requires.classes c.loop-n.n (omega (arith, c.loop-n-test.true))) ∙ c.if-classes-n.false) c.place_number.ensures.value c.place_number.ensures.within c.loop-n.invariant
