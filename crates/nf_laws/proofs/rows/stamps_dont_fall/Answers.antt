use Rattle.std.proofs.Common.{refl}
use Rattle.nf_laws.proofs.rows.stamps_dont_fall.Goals as goal

pub returns : goal.returns
returns c = refl
