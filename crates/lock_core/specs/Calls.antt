-- What seats have done with one function, in an order: the history is what was done alone, and a look
-- stands behind so much of the history as it saw, and before the next entry.
use Rattle.std.specs.Prelude.{ℕ, zero, suc, ◌+◌, ◌==◌, List, [], ◌∷◌, ◌++◌, length, filter, fold, if◌then◌else◌}
use Rattle.lock_core.specs.declared.call.Way.{Way}
use Rattle.lock_core.specs.declared.call.Way.TheVariants.{Look, Alone}
use Rattle.lock_core.specs.declared.call.Entry.{Entry}
use Rattle.lock_core.specs.declared.call.Call.{Call}
use Rattle.lock_core.specs.declared.call.Ordered.{Ordered}

-- by the way of a call
abbrev pub by_way : {A : Type 0} → Way → A → A → A
by_way Look look alone = look
by_way Alone look alone = alone

-- how many entries of a history are a seat's
abbrev pub count_of : ℕ → List Entry → ℕ
count_of seat entries = length (filter (λ (e : Entry). e.seat == seat) entries)

-- a packet as the next entry of a history: it has the number that comes next at its seat
abbrev pub entry_behind : List Entry → Ordered → Entry
entry_behind entries x = record {
  seat = x.seat;
  number = count_of x.seat entries;
  packet = x.packet;
  done = x.done;
}

-- a history behind a packet: a look leaves it as it was
abbrev pub with_packet : List Entry → Ordered → List Entry
with_packet entries x = by_way x.way entries (entries ++ entry_behind entries x ∷ [])

-- the history of an order
abbrev pub history : List Ordered → List Entry
history order = fold with_packet [] order

-- how many entries a history has behind a packet
abbrev pub length_behind : ℕ → Way → ℕ
length_behind n Look = n
length_behind n Alone = n + 1

-- the call that a packet was, where the history had so many entries
abbrev pub call_at : ℕ → Ordered → Call
call_at n x = record { way = x.way; place = n; packet = x.packet; done = x.done }

-- the calls of a seat, in an order before which the history had so many entries
abbrev pub calls_from : ℕ → ℕ → List Ordered → List Call
calls_from seat n [] = []
calls_from seat n (x ∷ xs) =
    if x.seat == seat then call_at n x ∷ calls_from seat (length_behind n x.way) xs
    else calls_from seat (length_behind n x.way) xs

-- the calls of a seat in an order
abbrev pub calls_of : ℕ → List Ordered → List Call
calls_of seat order = calls_from seat 0 order

-- how many entries of the history a seat has seen, behind calls: as many as its last one saw or made
abbrev pub seen_behind : List Call → ℕ
seen_behind calls = fold (λ (n : ℕ) (c : Call). length_behind c.place c.way) 0 calls

-- how many entries of the history a seat has seen
abbrev pub seen_by : ℕ → List Ordered → ℕ
seen_by seat order = seen_behind (calls_of seat order)

-- by whether any entries are left
abbrev pub at_next : {A : Type 0} → ℕ → A → (ℕ → A) → A
at_next zero now later = now
at_next (suc n) now later = later n

-- an order with a look put behind so many entries of its history, and before the next one
abbrev pub put_behind : ℕ → Ordered → List Ordered → List Ordered
put_behind n look [] = look ∷ []
put_behind n look (x ∷ xs) =
    by_way x.way (x ∷ put_behind n look xs)
    (at_next n (look ∷ x ∷ xs) (λ left. x ∷ put_behind left look xs))
