-- what is there, and what is still to come, are the whole
use Rattle.std.proofs.Common.{◌≡◌, ◌++◌, drop}
use Rattle.nf_base.specs.Functions.{function_of}
use Rattle.verdict_text.specs.Objects.{objects_text}
use Rattle.verdict_text.proofs.explaining.push_objects.Given as goal

abbrev pub invariant-loop-k : goal.invariant-loop-k
invariant-loop-k l = l.out.items ++ objects_text (function_of l.func) l.sites (drop l.k l.objects) (drop l.k l.standings) ≡ l.initial.out.items ++ objects_text (function_of l.func) l.sites l.objects l.standings
