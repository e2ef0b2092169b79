use Rattle.std.proofs.Common.{refl}
use Rattle.nf_laws.proofs.rows.two_queues_answer_alike.Goals as goal

pub returns : goal.returns
returns c = record { whole = refl; zero = refl; one = refl; all = refl; of_zero = refl; of_one = refl }
