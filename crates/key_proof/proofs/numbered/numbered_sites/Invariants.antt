-- what is there, and what is still to come, are the whole
use Rattle.std.proofs.Common.{◌≡◌, ◌++◌, drop}
use Rattle.key_proof.specs.Sites.{objects_sites}
use Rattle.key_proof.proofs.numbered.numbered_sites.Given as goal

abbrev pub invariant-loop-k : goal.invariant-loop-k
invariant-loop-k l = l.all ++ objects_sites l.k l.sites (drop l.k l.objects) (drop l.k l.standings) ≡ objects_sites 0 l.sites l.objects l.standings
