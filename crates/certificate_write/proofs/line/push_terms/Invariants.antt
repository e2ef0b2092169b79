-- what is there, and what is still to come, are the whole
use Rattle.std.proofs.Common.{◌≡◌, ◌++◌, drop}
use Rattle.certificate_write.specs.Texts.{terms_text}
use Rattle.certificate_write.proofs.line.push_terms.Given as goal

abbrev pub invariant-loop-term : goal.invariant-loop-term
invariant-loop-term l = l.out.items ++ terms_text (drop l.term-index l.terms) ≡ l.initial.out.items ++ terms_text l.terms
