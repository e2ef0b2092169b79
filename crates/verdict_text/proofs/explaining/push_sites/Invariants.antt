-- what is there, and what is still to come, are the whole
use Rattle.std.proofs.Common.{◌≡◌, ◌++◌, drop}
use Rattle.nf_base.specs.Functions.{function_of}
use Rattle.verdict_text.specs.Objects.{sites_text}
use Rattle.verdict_text.proofs.explaining.push_sites.Given as goal

abbrev pub invariant-loop-site : goal.invariant-loop-site
invariant-loop-site l = l.out.items ++ sites_text (function_of l.func) l.object (drop l.site-index l.sites) ≡ l.initial.out.items ++ sites_text (function_of l.func) l.object l.sites
