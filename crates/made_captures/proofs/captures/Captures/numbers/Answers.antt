use Rattle.std.proofs.Common.{length}
use Rattle.made_captures.proofs.Numbering.{are_long, are_made, are_apart}
use Rattle.made_captures.proofs.captures.Captures.numbers.Goals as goal

pub returns-clause-made : goal.returns-clause-made
returns-clause-made c = are_made c.args.self.now c.in_ok-numbers.numbers.items c.in_ok-numbers.ensures

pub returns-clause-apart : goal.returns-clause-apart
returns-clause-apart c = are_apart c.in_ok-numbers.numbers.items (length c.args.self.now) c.in_ok-numbers.ensures

pub returns-clause-count : goal.returns-clause-count
returns-clause-count c = are_long c.in_ok-numbers.numbers.items (length c.args.self.now) c.in_ok-numbers.ensures
