use Rattle.std.proofs.Common.{refl}
use Rattle.nf_laws.proofs.rows.a_taken_key_comes_before_a_full_chain.Goals as goal

pub returns : goal.returns
returns c = refl
