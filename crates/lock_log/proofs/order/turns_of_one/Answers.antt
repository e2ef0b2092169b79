use Rattle.std.proofs.Common.{◌≡◌, ◌∷◌, [], ◌<◌, ◌+◌, List, length, map, take, ap, sym, subst, ◌∙◌, arith}
use Rattle.std.proofs.lemmas.List.{take_all}
use Rattle.lock_core.specs.declared.call.Call.{Call}
use Rattle.lock_log.specs.declared.order.Turn.{Turn}
use Rattle.lock_log.specs.Turns.{in_turn, ordered_by, AreThere}
use Rattle.lock_log.proofs.Turning.{one_there, one_more}
use Rattle.lock_log.proofs.order.turns_of_one.Goals as goal

pub loop-number-init : goal.loop-number-init
loop-number-init c = record {
  there = λ calls e. subst (AreThere (calls ∷ [])) (sym c.in_ok-turns.ensures.items) tt;
  each = λ calls e. ap (in_turn (calls ∷ [])) c.in_ok-turns.ensures.items;
}

pub loop-number-preserved : goal.loop-number-preserved
loop-number-preserved c =
    let n = c.loop-number.number in
    let turns = c.loop-number.turns.items in
    let inv = c.loop-number.invariant in
    record {
      there = λ calls e. subst (AreThere (calls ∷ [])) (sym c.in_ok-push.ensures.items) (one_there calls n turns (omega (arith, e)) (inv.there calls e));
      each = λ calls e. ap (in_turn (calls ∷ [])) c.in_ok-push.ensures.items ∙ one_more calls n turns (omega (arith, e)) (inv.each calls e);
    }

pub returns-clause-each : goal.returns-clause-each
returns-clause-each c = λ calls e. c.loop-number.invariant.each calls e ∙ ap (map (ordered_by 0)) (take_all c.loop-number.number calls (omega (arith, e)))
