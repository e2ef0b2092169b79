use Rattle.std.proofs.Common.{◌≡◌, ◌++◌, ◌∷◌, [], List, length, ap, sym, ◌∙◌, append_assoc, append-nil, arith}
use Rattle.std.proofs.lemmas.List.{map_push, nil_from_length}
use Rattle.lock_core.specs.declared.call.Call.{Call}
use Rattle.lock_log.specs.Notes.{LogState}
use Rattle.lock_log.specs.Turns.{calls_of_each}
use Rattle.lock_mode.specs.Seats.{SeatState}
use Rattle.lock_mode.specs.Merging.{calls_each}
use Rattle.lock_mode.proofs.shared.logs_of.Goals as goal

pub loop-k-init : goal.loop-k-init
loop-k-init g c =
    let none = c.requires.none in
    let same = c.from_vec-rest.ensures in
    let long = ap (λ (ss : List SeatState). length ss) same in
    let empty = ap (λ (ls : List LogState). length ls) none in
    record {
      all = ap (λ (ls : List LogState). calls_of_each ls ++ calls_each c.from_vec-rest.result) none ∙ ap calls_each same;
      left = omega (arith, long);
      room = omega (arith, c.requires.room, long, empty, c.args.logs.ok.0);
    }

pub remove_first-seat-requires : goal.remove_first-seat-requires
remove_first-seat-requires g c =
    let long = ap (λ (ss : List SeatState). length ss) c.from_vec-rest.ensures in
    omega (arith, long, c.loop-k.invariant.left)

pub push_reserved-requires : goal.push_reserved-requires
push_reserved-requires g c =
    let long = ap (λ (ss : List SeatState). length ss) c.remove_first-seat.ensures in
    omega (arith, long, c.loop-k.invariant.room)

pub loop-k-preserved : goal.loop-k-preserved
loop-k-preserved g c =
    let inv = c.loop-k.invariant in
    let logs = c.loop-k.logs.items in
    let rest = c.remove_first-seat.new.self in
    let x = c.into_calls.result in
    let first = c.remove_first-seat.ensures in
    let long = ap (λ (ss : List SeatState). length ss) first in
    let put = c.push_reserved.ensures in
    record {
      all =
          ap (λ (ls : List LogState). calls_of_each ls ++ calls_each rest) put.items
          ∙ ap (λ (cs : List (List Call)). cs ++ calls_each rest) (map_push (λ (l : LogState). l.calls) logs x)
          ∙ append_assoc (calls_of_each logs) (x.calls ∷ []) (calls_each rest)
          ∙ ap (λ (cs : List Call). calls_of_each logs ++ cs ∷ calls_each rest) c.into_calls.ensures
          ∙ ap (λ (ss : List SeatState). calls_of_each logs ++ calls_each ss) (sym first)
          ∙ inv.all;
      left = omega (arith, long, inv.left);
      room = omega (arith, long, inv.room, put.len, put.capacity);
    }

pub returns : goal.returns
returns g c =
    let inv = c.loop-k.invariant in
    let long = ap (λ (ss : List SeatState). length ss) c.from_vec-rest.ensures in
    let none : c.loop-k.rest ≡ [] = nil_from_length c.loop-k.rest (omega (arith, long, inv.left)) in
    sym (append-nil (calls_of_each c.loop-k.logs.items)) ∙ ap (λ (ss : List SeatState). calls_of_each c.loop-k.logs.items ++ calls_each ss) (sym none) ∙ inv.all
