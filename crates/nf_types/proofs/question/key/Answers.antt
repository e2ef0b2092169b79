use Rattle.std.proofs.Common.{◌≤◌, min, length, arith}
use Rattle.std.proofs.lemmas.Grind.{common_steps}
use Rattle.nf_types.specs.View.{variables_of}
use Rattle.nf_types.proofs.Ended.{ended}
use Rattle.nf_types.proofs.question.key.Goals as goal

pub returns : goal.returns
returns c =
    let past : min (length c.args.parts.now) (length c.args.key.now) ≤ c.loop-i.i = omega (arith, c.min-i-end.ensures) in
    let none = ended c.loop-i.at c.args.objects.now (variables_of c.args.scope.now) c.loop-i.i c.args.parts.now c.args.key.now past in
    grind (arith, common_steps, none)
