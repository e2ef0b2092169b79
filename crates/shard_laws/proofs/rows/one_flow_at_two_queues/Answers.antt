use Rattle.std.proofs.Common.{◌≡◌, [], ◌∷◌, refl, arith}
use Rattle.nf_base.specs.Locations.{KeyOf}
use Rattle.shard_laws.proofs.rows.one_flow_at_two_queues.Goals as goal

pub returns : goal.returns
returns c = record {
  together = refl;
  apart = refl;
  meet = λ m.
      let e : 1 ≡ 0 = m _ _ (record {
        first = (0, omega arith, refl);
        second = (1, omega arith, refl);
        location = KeyOf 0 0 (2 ∷ []);
        written = refl;
        by_first = (0, omega arith, refl);
        by_second = (0, omega arith, refl);
      }) in
      cc;
}
