use Rattle.std.proofs.Common.{arith, ◌<◌, length}
use Rattle.std.proofs.lemmas.Grind.{common_steps}
use Rattle.std.proofs.lemmas.List.{length-reverse}
use Rattle.nf_code.proofs.Places.{under, stands}
use Rattle.nf_code.proofs.code.Code.op.Goals as goal

pub returns-clause-reads : goal.returns-clause-reads
returns-clause-reads c =
    let less : c.args.at < length c.self.inside.ops.items = grind (arith, common_steps, length-reverse c.self.inside.ops.items, c.self.view_is, c.requires) in
    grind (arith, common_steps, stands c.self.inside.ops.items c.args.at c.index.result.now c.self.invariant less, c.index.ensures, c.self.view_is)

pub returns-clause-below : goal.returns-clause-below
returns-clause-below c =
    let less : c.args.at < length c.self.inside.ops.items = grind (arith, common_steps, length-reverse c.self.inside.ops.items, c.self.view_is, c.requires) in
    grind (arith, common_steps, under c.self.inside.ops.items c.args.at c.index.result.now c.self.invariant less, c.index.ensures)
