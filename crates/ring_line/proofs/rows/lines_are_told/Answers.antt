use Rattle.std.proofs.Common.{refl}
use Rattle.ring_line.proofs.rows.lines_are_told.Goals as goal

pub returns : goal.returns
returns c = λ share. record { events = refl; zero = refl; one = refl }
