use Rattle.std.proofs.Common.{refl, arith}
use Rattle.nf_base.specs.Text.{Make}
use Rattle.nf_base.specs.View.{block_of, operation_of, creation_of}
use Rattle.nf_meaning.proofs.Counts.{news_make}
use Rattle.nf_meaning.proofs.Courses.{over_operation, over_statement, refused_at}
use Rattle.nf_meaning.proofs.block.+exec.Goals as goal

pub loop-rest-preserved-in-Do : goal.loop-rest-preserved-in-Do
loop-rest-preserved-in-Do t c =
    let value = rw c.in-Do.is at c.behind-rest.ensures.value in
    let below = rw c.in-Do.is at c.behind-rest.ensures.smaller in
    let within = rw c.in-Do.is at c.loop-rest.invariant.smaller in
    let room = rw c.in-Do.is at c.loop-rest.invariant.room in
    let small = below refl in
    record {
      smaller = omega (arith, small, within);
      room = rw (value, c.in_ok-operate-in-Do.ensures.picks) room;
      goes =
          rw value
          (over_operation c.args.p.now (block_of c.args.block.now) (block_of c.in-Do.next.value) c.args.context.now c.loop-rest.context c.operate.new.context (operation_of c.in-Do.operation) (rw c.in-Do.is at c.loop-rest.invariant.goes) c.in_ok-operate-in-Do.ensures.done c.in_ok-operate-in-Do.ensures.picks c.in_ok-operate-in-Do.ensures.full);
    }

pub returns-in_default-clause-goes : goal.returns-in_default-clause-goes
returns-in_default-clause-goes t c =
    let chooses = rw c.in_default.is at c.in_ok-inner-in-Make.ensures.chooses in
    let on = rw c.in-Make.is at c.loop-rest.invariant.goes in
    refused_at c.args.p.now (block_of c.args.block.now) _ c.args.context.now c.loop-rest.context c.make_into.new.context on (rw (c.deref-in-Make.ensures, c.deref-in-Make-2.ensures, c.deref-in-Make-3.ensures) at (chooses (block_of c.in-Make.next.value)))

pub loop-rest-preserved : goal.loop-rest-preserved
loop-rest-preserved t c =
    let value = rw c.in-Make.is at c.behind-rest-in-Falls-2.ensures.value in
    let below = rw c.in-Make.is at c.behind-rest-in-Falls-2.ensures.smaller in
    let within = rw c.in-Make.is at c.loop-rest.invariant.smaller in
    let room = rw (news_make (creation_of c.in-Make.creation) (block_of c.in-Make.made.value) (block_of c.in-Make.taken.value) (block_of c.in-Make.full.value) (block_of c.in-Make.next.value)) at (rw c.in-Make.is at c.loop-rest.invariant.room) in
    let made = rw (c.in-Some.is, c.deref-in-Make.ensures, c.deref-in-Make-2.ensures, c.deref-in-Make-3.ensures) at c.in_ok-inner-in-Make.ensures.room in
    let inner = c.in_ok-action-in-Make.ensures.room in
    let chooses = rw c.in-Some.is at c.in_ok-inner-in-Make.ensures.chooses in
    let small = below refl in
    record {
      smaller = omega (arith, small, within);
      room = rw value (omega (arith, made, inner, room));
      goes =
          rw value
          (over_statement c.args.p.now (block_of c.args.block.now) (block_of c.in-Some.inner.now) (block_of c.in-Make.next.value) (Make (creation_of c.in-Make.creation) (block_of c.in-Make.made.value) (block_of c.in-Make.taken.value) (block_of c.in-Make.full.value)) c.args.context.now c.loop-rest.context c.make_into.new.context c.exec-in-Make.new.context (rw c.in-Make.is at c.loop-rest.invariant.goes) (rw (c.deref-in-Make.ensures, c.deref-in-Make-2.ensures, c.deref-in-Make-3.ensures) at chooses) (rw c.in-Falls-2.is at c.in_ok-action-in-Make.ensures.goes));
    }
