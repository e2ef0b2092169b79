use Rattle.nf_base.specs.View.{block_of, question_of}
use Rattle.nf_meaning.proofs.Courses.{hit_into, miss_into}
use Rattle.nf_meaning.proofs.block.ask_into.Goals as goal

pub returns-then-branch-clause-enters : goal.returns-then-branch-clause-enters
returns-then-branch-clause-enters c =
    hit_into c.args.p.now (question_of c.args.question.now) (block_of c.args.hit.now) (block_of c.args.miss.now) c.args.context.now c.ask.new.context (rw c.if-branch.true at c.in_ok-ask.ensures.answers) c.in_ok-ask.ensures.picks c.in_ok-ask.ensures.full

pub returns-else-branch-clause-enters : goal.returns-else-branch-clause-enters
returns-else-branch-clause-enters c =
    let missed = rw c.if-branch.false at c.in_ok-ask.ensures.answers in
    miss_into c.args.p.now (question_of c.args.question.now) (block_of c.args.hit.now) (block_of c.args.miss.now) c.args.context.now c.ask.new.context missed.0 missed.1
