use Rattle.std.proofs.Common.{◌≡◌, ◌≤◌, Bool, List, ◌++◌, length, refl, ap, sym, ◌∙◌, subst, arith}
use Rattle.nf_base.specs.Functions.{function_of}
use Rattle.shard_machine.specs.declared.event.Answer.{Answer}
use Rattle.shard_machine.proofs.Sent.{append_nil}
use Rattle.ring_line.specs.Packs.{Packed, answers_of}
use Rattle.ring_line.specs.Handled.{Handles}
use Rattle.ring_line.specs.QueueHandlers.{WentOn}
use Rattle.ring_line.proofs.Answering.{handled_more, ended_here, all_here}
use Rattle.ring_line.proofs.Packing.{answered_none}
use Rattle.ring_line.proofs.queue_handler.QueueHandler.answer.Goals as goal

pub loop-self-init : goal.loop-self-init
loop-self-init g c =
    let queue_handler = c.args.self.now in
    let begin : Packed = c.args.pack.now in
    let none : (told : List Answer) → told ++ answers_of c.forget_answers.new.self ≡ told = λ told. ap (λ (p : Packed). told ++ answers_of p) c.forget_answers.ensures ∙ ap (λ (as_ : List Answer). told ++ as_) (answered_none begin.packets) ∙ append_nil told in
    record {
      runner = refl;
      packets = ap (λ (p : Packed). p.packets) c.forget_answers.ensures;
      none = ap (λ (p : Packed). p.halt) c.forget_answers.ensures;
      running = c.requires.running;
      func = refl;
      fixed = refl;
      came = λ first told all h. subst (λ (as_ : List Answer). Handles (function_of queue_handler.func) queue_handler.tables.share first as_ queue_handler.tables.state) (sym (none told)) h;
    }

pub returns-then-not-answer_next-clause-came : goal.returns-then-not-answer_next-clause-came
returns-then-not-answer_next-clause-came g c = λ first packets told all h.
    let inv = c.loop-self.invariant in
    ended_here c.args.self.now c.loop-self.self c.answer_next.new.self c.args.pack.now c.loop-self.pack c.answer_next.new.pack first packets told inv.packets inv.func inv.fixed
    (subst (λ (b : Bool). WentOn b c.loop-self.self c.loop-self.pack c.answer_next.new.self c.answer_next.new.pack) c.if-not-answer_next.true c.answer_next.ensures.went) all h.1 (inv.came first told all h.0)

pub loop-self-preserved : goal.loop-self-preserved
loop-self-preserved g c =
    let inv = c.loop-self.invariant in
    let a = subst (λ (b : Bool). WentOn b c.loop-self.self c.loop-self.pack c.answer_next.new.self c.answer_next.new.pack) c.if-not-answer_next.false c.answer_next.ensures.went in
    record {
      runner = c.answer_next.ensures.runner ∙ inv.runner;
      packets = ap (λ (p : Packed). p.packets) a.pack ∙ inv.packets;
      none = ap (λ (p : Packed). p.halt) a.pack ∙ inv.none;
      running = a.running;
      func = c.answer_next.ensures.func ∙ inv.func;
      fixed = c.answer_next.ensures.fixed ∙ inv.fixed;
      came = λ first told all h. handled_more c.args.self.now c.loop-self.self c.answer_next.new.self c.args.pack.now c.loop-self.pack c.answer_next.new.pack first told inv.packets inv.func inv.fixed a all (inv.came first told all h);
    }

pub returns-clause-came : goal.returns-clause-came
returns-clause-came g c = λ first packets told all h.
    let inv = c.loop-self.invariant in
    let queue_handler = c.args.self.now in
    let le : length c.loop-self.pack.packets ≤ length c.loop-self.pack.answers = omega (arith, c.loop-self-test.false, c.answered.ensures.value, c.len.ensures.value) in
    all_here (function_of queue_handler.func) queue_handler.tables.share first c.loop-self.self.tables.state packets told c.loop-self.pack c.loop-self.self.halt inv.running h.1 le (inv.came first told all h.0)
