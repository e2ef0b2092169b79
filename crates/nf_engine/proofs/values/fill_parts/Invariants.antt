-- the values of what was gone through stand first
use Rattle.std.proofs.Common.{◌≡◌, take, map}
use Rattle.nf_base.specs.View.{given_of}
use Rattle.nf_engine.specs.View.{all_given}
use Rattle.nf_engine.proofs.values.fill_parts.Given as goal

abbrev pub invariant-loop-i : goal.invariant-loop-i
invariant-loop-i g l = take l.i l.parts ≡ all_given l.p l.tables l.context (map given_of (take l.i l.gs))
