use Rattle.nf_base.specs.Functions.{function_of}
use Rattle.nf_tree.specs.View.{tree_of}
use Rattle.function_tests.proofs.Declared.{declares}
use Rattle.function_tests.proofs.functions.function.Goals as goal

pub returns-in-Ok-check : goal.returns-in-Ok-check
returns-in-Ok-check c = record { declares = declares (tree_of c.in-Ok.tree) (function_of c.in-Ok-check.func) c.in-Ok-check.ensures.answer }
