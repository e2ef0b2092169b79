use Rattle.std.proofs.Common.{drop, ap, ◌∙◌, arith}
use Rattle.nf_files.proofs.Ranges.{later_start}
use Rattle.nf_files.proofs.buffer.Buffer.give.Goals as goal

pub returns-clause-rest : goal.returns-clause-rest
returns-clause-rest c =
    let b = c.self.inside in
    let moved = later_start b.bytes.items b.at b.end c.min-count.result (omega arith) in
    moved ∙ ap (drop c.min-count.result) c.self.view_is
