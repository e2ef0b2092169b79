use Rattle.std.proofs.Common.{refl}
use Rattle.journal_check.proofs.laws.firewall_lines_are_right.Goals as goal

pub returns : goal.returns
returns c = record { middle = _; first = record { ruled = tt; steps = refl }; second = record { ruled = tt; steps = refl }; first_line = refl; second_line = refl }
