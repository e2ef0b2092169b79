-- what is there, and what is still to come, are the whole
use Rattle.std.proofs.Common.{◌≡◌, ◌++◌, drop}
use Rattle.certificate_write.specs.Texts.{lines_text}
use Rattle.key_certificate.specs.Plain.{row_lines}
use Rattle.key_certificate.proofs.plain.push_rows.Given as goal

abbrev pub invariant-loop-one : goal.invariant-loop-one
invariant-loop-one l = l.out.items ++ lines_text (row_lines (drop l.one-index l.named)) ≡ l.initial.out.items ++ lines_text (row_lines l.named)
