use Rattle.std.proofs.Common.{◌≡◌, refl, arith}
use Rattle.shard_laws.proofs.rows.states_are_merged.Goals as goal

pub returns : goal.returns
returns c = record {
  none = refl;
  at_first = refl;
  at_second = refl;
  at_last = refl;
  beyond = refl;
  two_differ = λ h. let e : 0 ≡ 1 = h 0 1 (omega arith) (omega arith) (λ q. cc) (λ q. cc) in cc;
  top_first = refl;
  top_second = refl;
  top_beyond = refl;
  stale = λ u. let e = u.slots 0 0 in cc;
  other_cell = λ u. let e : 9 ≡ 11 = u.cells 0 2 9 refl in cc;
  other_stamp = λ u. let e : 5 ≡ 20 = u.greatest 0 in cc;
  too_few_cells = λ u. let e : 3 ≡ 4 = u.sizes 0 0 in cc;
  no_chain = λ u. let e : 0 ≡ 1 = u.chains 0 in cc;
}
