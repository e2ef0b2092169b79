use Rattle.std.proofs.Math.Seq.{take-length, drop-length}
use Rattle.std.proofs.Common.{◌∙◌, ap, sym}
use Rattle.nf_base.specs.Doors.{handler_at}
use Rattle.nf_base.specs.Functions.{function_of}
use Rattle.nf_meaning.proofs.handling.step_at_least.Goals as goal

pub returns : goal.returns
returns c =
    let picks = c.in-Ok.ran.context.picks in
    rw (ap (handler_at (function_of c.args.func.now)) (sym c.door_of.ensures) ∙ c.in-Some.ensures.some)
    (rw (drop-length picks) at (c.in-Ok.ensures picks (take-length picks)).0)
