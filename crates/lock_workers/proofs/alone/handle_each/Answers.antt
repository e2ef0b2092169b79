use Rattle.std.proofs.Common.{◌≡◌, ◌<◌, ◌∷◌, ◌++◌, [], List, length, map, take, All, refl, ap, sym, ◌∙◌, subst, arith}
use Rattle.std.proofs.lemmas.List.{take_more, take_all, map_push}
use Rattle.std.proofs.lemmas.List.Elements.{All-nil, All-push}
use Rattle.nf_base.specs.Functions.{function_of}
use Rattle.nf_base.specs.Step.{opening}
use Rattle.nf_base.specs.declared.packet.Packet.{Packet}
use Rattle.lock_core.specs.declared.call.Way.TheVariants as way
use Rattle.lock_core.specs.declared.call.Call.{Call}
use Rattle.lock_core.specs.declared.call.Ordered.{Ordered}
use Rattle.lock_core.proofs.Going.{Goes, goes_more, goes_run}
use Rattle.lock_log.specs.Turns.{ordered_by}
use Rattle.lock_workers.proofs.alone.handle_each.Goals as goal

pub loop-i-init : goal.loop-i-init
loop-i-init c =
    let none : map (ordered_by 0) c.args.log.now.calls ≡ [] = ap (map (ordered_by 0)) c.requires.none in
    record {
      goes = subst (λ (xs : List Ordered). Goes (function_of c.args.func.now) (opening (function_of c.args.func.now)) xs c.args.tables.now.state) (sym none) (sym c.requires.opens);
      all = ap (map (λ (x : Ordered). x.packet)) none;
      alone = subst (All (λ (x : Ordered). x.seat ≡ 0)) (sym none) (All-nil (λ (x : Ordered). x.seat ≡ 0));
      room = omega (arith, c.requires.room);
      same = refl;
    }

pub loop-i-preserved : goal.loop-i-preserved
loop-i-preserved c =
    let f = function_of c.args.func.now in
    let ps = c.args.packets.now in
    let i = c.loop-i.i in
    let p = c.index-packets-i.result in
    let lt : i < length ps = omega arith in
    let calls = c.loop-i.log.calls in
    let xs = map (ordered_by 0) calls in
    let done = c.handle_whole-done.result in
    let call : Call = record { way = way.Alone; place = i; packet = p; done = done } in
    let x : Ordered = record { seat = 0; way = way.Alone; packet = p; done = done } in
    let put : map (ordered_by 0) c.push.new.self.calls ≡ xs ++ x ∷ [] = ap (map (ordered_by 0)) c.push.ensures.put ∙ map_push (ordered_by 0) calls call in
    let room = c.push.ensures.room in
    let had = c.loop-i.invariant.room in
    record {
      goes = subst (λ (ys : List Ordered). Goes f (opening f) ys c.handle_whole-done.new.tables.state) (sym put)
          (goes_more f xs (opening f) c.loop-i.tables.state c.handle_whole-done.new.tables.state x c.loop-i.invariant.goes (record { steps = c.handle_whole-done.ensures.steps; leaves = λ e. absurd (cc e) }));
      all =
          ap (map (λ (y : Ordered). y.packet)) put
          ∙ map_push (λ (y : Ordered). y.packet) xs x
          ∙ ap (λ (qs : List Packet). qs ++ p ∷ []) c.loop-i.invariant.all
          ∙ ap (λ (q : Packet). take i ps ++ q ∷ []) c.index-packets-i.is
          ∙ sym (take_more ps i p lt);
      alone = subst (All (λ (y : Ordered). y.seat ≡ 0)) (sym put) (All-push (λ (y : Ordered). y.seat ≡ 0) xs x c.loop-i.invariant.alone refl);
      room = omega (arith, room, had);
      same = c.handle_whole-done.ensures.same ∙ c.loop-i.invariant.same;
    }

pub returns-clause-runs : goal.returns-clause-runs
returns-clause-runs c = goes_run (function_of c.args.func.now) (map (ordered_by 0) c.loop-i.log.calls) (opening (function_of c.args.func.now)) c.loop-i.tables.state c.loop-i.invariant.goes

pub returns-clause-all : goal.returns-clause-all
returns-clause-all c = record {
  all = c.loop-i.invariant.all ∙ take_all c.loop-i.i c.args.packets.now (omega arith);
  alone = c.loop-i.invariant.alone;
}
