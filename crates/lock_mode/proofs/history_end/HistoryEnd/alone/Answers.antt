use Rattle.std.proofs.Common.{◌≡◌, ◌<◌, ◌+◌, List, [], ◌∷◌, ◌++◌, length, length-set, set, sym, ap, ◌∙◌, subst, arith}
use Rattle.nf_base.specs.Functions.{function_of}
use Rattle.lock_core.specs.declared.call.Entry.{Entry}
use Rattle.lock_core.specs.Events.{IsStep}
use Rattle.lock_mode.specs.HistoryEnds.{AreCounts}
use Rattle.lock_mode.proofs.Tailing.{count_within, counts_more, step_is, ran_with, is_next}
use Rattle.lock_mode.proofs.history_end.HistoryEnd.alone.Goals as goal

pub overflow_add-index_mut : goal.overflow_add-index_mut
overflow_add-index_mut g c =
    let history_end = c.self.inside in
    let entries : history_end.prefix ≡ c.args.self = c.self.view_is in
    let here : c.args.seat < length history_end.counts.items = omega (arith, c.self.invariant.each, c.requires.seat) in
    let is = c.index_mut.ensures.value ∙ c.self.invariant.counted c.args.seat c.index_mut.result.now here in
    omega (arith, is, count_within c.args.seat history_end.prefix, ap length entries, c.requires.room)

pub invariant_of-history_end : goal.invariant_of-history_end
invariant_of-history_end g c =
    let history_end = c.self.inside in
    let inv = c.self.invariant in
    let here : c.args.seat < length history_end.counts.items = omega (arith, c.self.invariant.each, c.requires.seat) in
    let is = c.index_mut.ensures.value ∙ inv.counted c.args.seat c.index_mut.result.now here in
    let e : Entry = record { seat = c.args.seat; number = c.index.result.now; packet = c.args.packet.now; done = c.handle_whole-done.result } in
    let grown : c.add.new.self ≡ history_end.prefix ++ e ∷ [] = c.if-not-add.ensures in
    record {
      same = inv.same;
      each = length-set history_end.counts.items c.args.seat (c.index_mut.result.now + 1) ∙ inv.each;
      ran = ran_with g.J.Naming.function (function_of history_end.func) history_end.tables c.handle_whole-done.new.tables history_end.prefix c.add.new.self e inv.same inv.ran c.handle_whole-done.ensures.steps c.handle_whole-done.ensures.same grown;
      counted = subst (λ (es : List Entry). AreCounts es (set history_end.counts.items c.args.seat (c.index_mut.result.now + 1))) (sym grown) (counts_more history_end.prefix history_end.counts.items e c.index_mut.result.now inv.counted is here);
    }

pub returns-clause-steps : goal.returns-clause-steps
returns-clause-steps g c =
    let history_end = c.self.inside in
    let inv = c.self.invariant in
    let entries : history_end.prefix ≡ c.args.self = c.self.view_is in
    subst (λ (es : List Entry). IsStep g.J.Naming.function es c.args.packet.now c.handle_whole-done.result) entries
    (step_is g.J.Naming.function (function_of history_end.func) history_end.tables c.handle_whole-done.new.tables history_end.prefix c.args.packet.now c.handle_whole-done.result inv.same inv.ran c.handle_whole-done.ensures.steps)

pub returns-clause-next : goal.returns-clause-next
returns-clause-next g c =
    let history_end = c.self.inside in
    let inv = c.self.invariant in
    let e : Entry = record { seat = c.args.seat; number = c.index.result.now; packet = c.args.packet.now; done = c.handle_whole-done.result } in
    let grown : c.add.new.self ≡ history_end.prefix ++ e ∷ [] = c.if-not-add.ensures in
    is_next g.J.Naming.function c.handle_whole-done.new.tables history_end.prefix c.add.new.self e grown c.requires.port c.requires.served
    (ran_with g.J.Naming.function (function_of history_end.func) history_end.tables c.handle_whole-done.new.tables history_end.prefix c.add.new.self e inv.same inv.ran c.handle_whole-done.ensures.steps c.handle_whole-done.ensures.same grown)
