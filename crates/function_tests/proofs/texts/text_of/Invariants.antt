use Rattle.std.proofs.Common.{length}
use Rattle.function_tests.proofs.texts.text_of.Given as goal

abbrev pub decreases-each : goal.decreases-each
decreases-each l = length l.rest
