-- what is there, and what is still to come, are the whole
use Rattle.std.proofs.Common.{◌≡◌, ◌++◌, drop}
use Rattle.key_proof.specs.Sites.{sites_at}
use Rattle.key_proof.proofs.numbered.put_sites.Given as goal

abbrev pub invariant-loop-site : goal.invariant-loop-site
invariant-loop-site l = l.all ++ sites_at l.object l.kept l.k (drop l.site-index l.sites) ≡ l.initial.all ++ sites_at l.object l.kept l.k l.sites
