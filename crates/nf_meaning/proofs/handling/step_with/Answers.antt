use Rattle.nf_base.specs.Functions.{function_of}
use Rattle.nf_base.specs.View.{block_of}
use Rattle.std.proofs.Common.{◌∙◌, ap, sym, refl}
use Rattle.nf_base.specs.Doors.{handler_at}
use Rattle.nf_meaning.specs.Whole.{told}
use Rattle.nf_meaning.proofs.handling.step_with.Goals as goal

pub returns : goal.returns
returns c =
    let picks = c.args.picks.now in
    let f = c.args.func.now in
    let h = c.in-Some.handler.now in
    let ran = c.in_ok-ran.ensures picks refl in
    rw (ap (handler_at (function_of f)) (sym c.door_of.ensures) ∙ c.in-Some.ensures.some)
    (rw ran.0 (c.finish.ensures (told (function_of f) c.args.state.now c.args.packet.now.time c.args.fields (block_of h.block) picks) ran.1))
