use Rattle.std.proofs.Common.{◌≡◌, ◌∷◌, [], List, length, map, take}
use Rattle.lock_core.specs.declared.call.Call.{Call}
use Rattle.lock_log.specs.Turns.{in_turn, ordered_by, AreThere}
use Rattle.lock_log.proofs.order.turns_of_one.Given as goal

-- the first calls have their turns
abbrev pub invariant-loop-number : goal.invariant-loop-number
invariant-loop-number l = record {
  there : (calls : List Call) → length calls ≡ l.count → AreThere (calls ∷ []) l.turns.items;
  each : (calls : List Call) → length calls ≡ l.count → in_turn (calls ∷ []) l.turns.items ≡ map (ordered_by 0) (take l.number calls);
}
