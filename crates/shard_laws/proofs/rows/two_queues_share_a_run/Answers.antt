use Rattle.std.proofs.Common.{refl, arith}
use Rattle.shard_laws.proofs.rows.two_queues_share_a_run.Goals as goal

pub returns : goal.returns
returns c = record {
  zero_has = refl;
  one_has = refl;
  other_has = refl;
  never_fall = (omega arith, (omega arith, (omega arith, (omega arith, (omega arith, tt)))));
  fall = λ h. let le = h.1.0 in omega (arith, le);
  last = refl;
  all = refl;
  zero = refl;
  one = refl;
  zero_answers = refl;
  one_answers = refl;
}
