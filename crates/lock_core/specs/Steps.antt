-- What the machine goes by: an order's packets have handlers, and places in it.
use native.Mathlib.Bridge.{le_prop}
use mathlib.Core.Bool.{Bool-set}
use mathlib.Core.HLevel.{Π_prop, ×_prop}
use Rattle.std.specs.Prelude.{ℕ, suc, ◌<◌, true, List, [], ◌∷◌, length, is_some}
use Rattle.std.specs.List.{AllByRecursion, AllByRecursion-prop}
use Rattle.nf_base.specs.declared.packet.Fields.{Fields}
use Rattle.nf_base.specs.declared.packet.Packet.{Packet}
use Rattle.nf_base.specs.Text.{Function}
use Rattle.nf_base.specs.Doors.{handler_at, IsServed}
use Rattle.nf_base.specs.Families.{door_of}
use Rattle.lock_core.specs.declared.call.Ordered.{Ordered}
use Rattle.lock_core.specs.Calls.{by_way, at_next}

-- a packet came in at one of a function's ports, which has a handler for it where it is not skipped
abbrev pub IsIn : Function → Packet → Type 0
IsIn f packet = (packet.id.port < length f.handlers) × IsServed f packet

-- in one way at most
pub IsIn-prop : (f : Function) (packet : Packet) → IsProp (IsIn f packet)
IsIn-prop f packet =
    ×_prop le_prop
    (Π_prop (λ (fields : Fields). Π_prop (λ has.
    Bool-set (is_some (handler_at f (door_of packet.id.port fields))) true)))

-- each packet of an order did
abbrev pub AreIn : Function → List Ordered → Type 0
AreIn f order = AllByRecursion (λ (x : Ordered). IsIn f x.packet) order

-- in one way at most
pub AreIn-prop : (f : Function) (order : List Ordered) → IsProp (AreIn f order)
AreIn-prop f order =
    AllByRecursion-prop (λ (x : Ordered). IsIn f x.packet) (λ x. IsIn-prop f x.packet) order

-- how many packets of an order stand before its next entry behind so many
abbrev pub place_behind : ℕ → List Ordered → ℕ
place_behind n [] = 0
place_behind n (x ∷ xs) =
    by_way x.way (suc (place_behind n xs)) (at_next n 0 (λ left. suc (place_behind left xs)))
