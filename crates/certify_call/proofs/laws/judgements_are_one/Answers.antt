use Rattle.certify_call.proofs.Outcomes.{judgements_are_one}
use Rattle.certify_call.proofs.laws.judgements_are_one.Goals as goal

pub returns : goal.returns
returns c = judgements_are_one
