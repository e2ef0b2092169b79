-- the values of what was gone through
use Rattle.std.proofs.Common.{◌≡◌, take, map}
use Rattle.nf_base.specs.View.{given_of}
use Rattle.nf_engine.specs.View.{all_given}
use Rattle.nf_engine.proofs.values.fill_key.Given as goal

abbrev pub invariant-loop-g : goal.invariant-loop-g
invariant-loop-g g l = l.key ≡ all_given l.p l.tables l.context (map given_of (take l.g-index l.gs))
