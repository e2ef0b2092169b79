use Rattle.prove_call.proofs.Shown.{certificates_show_their_verdicts}
use Rattle.prove_call.proofs.laws.certificates_show_their_verdicts.Goals as goal

pub returns : goal.returns
returns c = certificates_show_their_verdicts
