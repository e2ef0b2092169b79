use Rattle.pcapng_file.proofs.Limits.{limit_rows}
use Rattle.pcapng_file.proofs.laws.limits_hold.Goals as goal

pub returns : goal.returns
returns c = limit_rows
