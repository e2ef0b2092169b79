-- An order of the calls of seats: whose call is next, and which.
use Rattle.std.specs.Prelude.{◌≡◌, ℕ, List, [], ◌∷◌, map, slice_get, Option, Some, None, option_and_then}
use Rattle.std.specs.List.{AllByRecursion}
use Rattle.lock_core.specs.declared.call.Call.{Call}
use Rattle.lock_core.specs.declared.call.Ordered.{Ordered}
use Rattle.lock_log.specs.declared.order.Turn.{Turn}
use Rattle.lock_log.specs.Notes.{LogState}

-- the calls of each seat
abbrev pub calls_of_each : List LogState → List (List Call)
calls_of_each logs = map (λ (l : LogState). l.calls) logs

-- the call whose turn it is
abbrev pub call_of : List (List Call) → Turn → Option Call
call_of each t =
    option_and_then (λ (calls : List Call). slice_get calls t.number) (slice_get each t.seat)

-- a call of a seat, as it stands in an order
abbrev pub ordered_by : ℕ → Call → Ordered
ordered_by seat c = record { seat = seat; way = c.way; packet = c.packet; done = c.done }

-- a call that is there, in front of others
abbrev pub in_front : ℕ → Option Call → List Ordered → List Ordered
in_front seat None xs = xs
in_front seat (Some c) xs = ordered_by seat c ∷ xs

-- the calls of seats, turn by turn
abbrev pub in_turn : List (List Call) → List Turn → List Ordered
in_turn each [] = []
in_turn each (t ∷ ts) = in_front t.seat (call_of each t) (in_turn each ts)

-- each has its call
abbrev pub AreThere : List (List Call) → List Turn → Type 0
AreThere each turns = AllByRecursion (λ (t : Turn). (c : Call) × (call_of each t ≡ Some c)) turns
