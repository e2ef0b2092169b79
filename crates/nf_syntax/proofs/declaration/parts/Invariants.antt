use Rattle.std.proofs.Common.{◌≡◌, [], ◌≤◌, List, length}
use Rattle.nf_tree.specs.declared.tree.Part.{Part}
use Rattle.nf_syntax.specs.Machine.{Place, PartsAt, run}
use Rattle.nf_syntax.proofs.declaration.parts.Given as goal

abbrev pub invariant-parts : goal.invariant-parts
invariant-parts l = record {
  shorter : length l.rest ≤ length l.fn.tokens;
  so_far : (k : List Part → Place) → run (PartsAt [] k) l.fn.tokens ≡ run (PartsAt l.all k) l.rest;
}

abbrev pub decreases-parts : goal.decreases-parts
decreases-parts l = length l.rest
