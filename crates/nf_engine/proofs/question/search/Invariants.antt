-- what is left decides
use Rattle.std.proofs.Common.{◌≡◌, [], drop, map}
use Rattle.nf_base.specs.Operations.{index_found}
use Rattle.nf_base.specs.View.{guard_of}
use Rattle.nf_engine.specs.View.{context_of, input_of}
use Rattle.nf_engine.proofs.question.search.Given as goal

abbrev pub invariant-loop-g : goal.invariant-loop-g
invariant-loop-g g l =
    let c = context_of l.tables [] l.context in
    index_found (input_of l.p) c l.chain l.i (map guard_of (drop l.g-index l.guards))
    ≡ index_found (input_of l.p) c l.chain l.i (map guard_of l.guards)
