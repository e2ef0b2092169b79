-- what is there, and what is still to come, are the whole
use Rattle.std.proofs.Common.{◌≡◌, ◌++◌, drop}
use Rattle.certificate_write.specs.Texts.{lines_text}
use Rattle.certificate_write.proofs.line.push_lines.Given as goal

abbrev pub invariant-loop-line : goal.invariant-loop-line
invariant-loop-line l = l.out.items ++ lines_text (drop l.line-index l.lines) ≡ l.initial.out.items ++ lines_text l.lines
