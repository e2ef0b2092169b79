use Rattle.ring_line.proofs.Lining.{line_finishes}
use Rattle.ring_line.proofs.line.Line.finish.Goals as goal

pub returns-clause-finishes : goal.returns-clause-finishes
returns-clause-finishes g c = λ x packets got st. line_finishes c.args.self x packets got c.finish_all.result.items st c.finish_all.ensures
