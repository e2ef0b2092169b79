use Rattle.std.proofs.Common.{◌≡◌, [], ◌≤◌, List, length}
use Rattle.nf_tree.specs.declared.tree.Declaration.{Declaration}
use Rattle.nf_syntax.specs.Machine.{Place, DeclarationsAt, run}
use Rattle.nf_syntax.proofs.declaration.declarations.Given as goal

abbrev pub invariant-declarations : goal.invariant-declarations
invariant-declarations l = record {
  shorter : length l.rest ≤ length l.fn.tokens;
  so_far : (k : List Declaration → Place) → run (DeclarationsAt [] k) l.fn.tokens ≡ run (DeclarationsAt l.all k) l.rest;
}

abbrev pub decreases-declarations : goal.decreases-declarations
decreases-declarations l = length l.rest
