use Rattle.std.proofs.Common.{◌∙◌, ◌≤◌, suc, ap, sym, subst, rules, arith}
use Rattle.nf_tree.specs.Depth.{depth}
use Rattle.nf_tree.specs.View.{block_of, ending_of, question_of, creation_of}
use Rattle.nf_syntax.specs.Statements.{Asks, Makes, statement_of, turned}
use Rattle.nf_syntax.proofs.Bodies.{so_far, stopped, ended_depth}
use Rattle.nf_syntax.proofs.block.+blocks.Goals as goal

pub body-returns-in_err-longer-in-Asks-clause-reads : goal.body-returns-in_err-longer-in-Asks-clause-reads
body-returns-in_err-longer-in-Asks-clause-reads t c =
    let f = stopped c.args.room (block_of c.statements.before.value) (statement_of c.in_ok-statement.statement) (Asks (question_of c.in-Asks.question)) c.args.tokens.now c.statements.rest.now c.in_ok-statement.behind.now c.in_err-longer-in-Asks.field-0.0
    (ap statement_of c.in-Asks.is) c.statements.invariant.so_far c.in_ok-statement.ensures.1 c.in_err-longer-in-Asks.ensures.reads in
    search (rules, f)

pub body-statements-preserved-in-Asks : goal.body-statements-preserved-in-Asks
body-statements-preserved-in-Asks t c =
    let b = c.in_ok-statement.ensures in
    let e = c.in_ok-longer-in-Asks.ensures in
    record {
      shorter = omega (arith, b.0, e.reads.0, c.statements.invariant.shorter);
      so_far = so_far c.args.room (block_of c.statements.before.value) (block_of c.in_ok-longer-in-Asks.longer.value) (statement_of c.in_ok-statement.statement) (Asks (question_of c.in-Asks.question)) c.args.tokens.now c.statements.rest.now c.in_ok-statement.behind.now c.in_ok-longer-in-Asks.behind.now
          (ap statement_of c.in-Asks.is) c.statements.invariant.so_far b.1 e.reads.1;
      shallow = omega (arith, e.shallow, c.statements.invariant.shallow);
    }

pub body-returns-in_err-longer-in-Makes-clause-reads : goal.body-returns-in_err-longer-in-Makes-clause-reads
body-returns-in_err-longer-in-Makes-clause-reads t c =
    let f = stopped c.args.room (block_of c.statements.before.value) (statement_of c.in_ok-statement.statement) (Makes (creation_of c.in-Makes.creation)) c.args.tokens.now c.statements.rest.now c.in_ok-statement.behind.now c.in_err-longer-in-Makes.field-0.0
    (ap statement_of c.in-Makes.is) c.statements.invariant.so_far c.in_ok-statement.ensures.1 c.in_err-longer-in-Makes.ensures.reads in
    search (rules, f)

pub body-statements-preserved : goal.body-statements-preserved
body-statements-preserved t c =
    let b = c.in_ok-statement.ensures in
    let e = c.in_ok-longer-in-Makes.ensures in
    record {
      shorter = omega (arith, b.0, e.reads.0, c.statements.invariant.shorter);
      so_far = so_far c.args.room (block_of c.statements.before.value) (block_of c.in_ok-longer-in-Makes.longer.value) (statement_of c.in_ok-statement.statement) (Makes (creation_of c.in-Makes.creation)) c.args.tokens.now c.statements.rest.now c.in_ok-statement.behind.now c.in_ok-longer-in-Makes.behind.now
          (ap statement_of c.in-Makes.is) c.statements.invariant.so_far b.1 e.reads.1;
      shallow = omega (arith, e.shallow, c.statements.invariant.shallow);
    }

pub body-returns-in-Ends-clause-shallow : goal.body-returns-in-Ends-clause-shallow
body-returns-in-Ends-clause-shallow t c =
    let h = ended_depth c.args.room (block_of c.statements.before.value) (ending_of c.in-Ends.ending) c.statements.invariant.shallow in
    let e = c.turned.ensures ∙ ap (λ b. turned (block_of c.statements.before.value) (block_of b)) c.in_ok-end-in-Ends.ensures.ok in
    subst (λ b. depth b ≤ suc c.args.room) (sym e) h
