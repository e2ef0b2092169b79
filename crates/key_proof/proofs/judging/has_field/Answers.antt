use Rattle.std.proofs.Common.{◌≡◌, ◌==◌, ◌+◌, ◌<◌, ◌∙◌, ℕ, sym, ap, arith, true, false}
use Rattle.std.proofs.lemmas.Bool.{eq-eqb, ne_eqb}
use Rattle.key_proof.specs.Rows.{class_at}
use Rattle.key_proof.proofs.Ranges.{any_here, any_none}
use Rattle.key_proof.proofs.judging.has_field.Goals as goal

pub returns-then-classes-m : goal.returns-then-classes-m
returns-then-classes-m c =
    any_here (λ j. class_at c.args.first.now c.args.second.now j == c.args.k) c.args.from c.args.count c.loop-m.m c.loop-m.auto.m c.loop-m-test.true
    (eq-eqb (class_at c.args.first.now c.args.second.now c.loop-m.m) c.args.k (sym (c.requires.classes c.loop-m.m (omega (arith, c.loop-m-test.true, c.requires.eight))) ∙ c.if-classes-m.true))

pub returns : goal.returns
returns c = any_none (λ j. class_at c.args.first.now c.args.second.now j == c.args.k) c.args.from c.args.count (λ j least below. c.loop-m.invariant j least (omega (arith, below, c.loop-m-test.false)))
