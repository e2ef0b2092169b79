use Rattle.call_base.proofs.OneAnswer.{one_function, one_first, apart}
use Rattle.call_base.proofs.laws.a_text_is_a_function_or_has_a_fault.Goals as goal

pub returns : goal.returns
returns c = record { function = one_function; fault = one_first; apart = apart }
