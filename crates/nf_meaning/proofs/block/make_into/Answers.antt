use Rattle.nf_base.specs.View.{block_of, creation_of}
use Rattle.nf_meaning.proofs.Courses.{made_into, taken_into, full_into}
use Rattle.nf_meaning.proofs.block.make_into.Goals as goal

pub returns-in-Made-clause-chooses : goal.returns-in-Made-clause-chooses
returns-in-Made-clause-chooses c =
    made_into c.args.p.now (creation_of c.args.creation.now) (block_of c.args.made.now) (block_of c.args.taken.now) (block_of c.args.full.now) c.args.context.now c.make.new.context c.in-Made.field-0 (rw c.in-Made.is at c.in_ok-make.ensures)

pub returns-in-Taken-clause-chooses : goal.returns-in-Taken-clause-chooses
returns-in-Taken-clause-chooses c =
    taken_into c.args.p.now (creation_of c.args.creation.now) (block_of c.args.made.now) (block_of c.args.taken.now) (block_of c.args.full.now) c.args.context.now c.make.new.context (rw c.in-Taken.is at c.in_ok-make.ensures)

pub returns-in-Full-clause-chooses : goal.returns-in-Full-clause-chooses
returns-in-Full-clause-chooses c =
    full_into c.args.p.now (creation_of c.args.creation.now) (block_of c.args.made.now) (block_of c.args.taken.now) (block_of c.args.full.now) c.args.context.now c.make.new.context (rw c.in-Full.is at c.in_ok-make.ensures)
