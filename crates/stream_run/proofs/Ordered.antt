-- The orders that runs keep.
use Rattle.std.proofs.Common.{◌≡◌, ℕ, ◌==◌, Bool, true, false, cond, List, [], ◌∷◌, ◌++◌, map, filter, Option, Some, None, refl, sym, ap, ◌∙◌, subst, append_assoc}
use Rattle.std.proofs.lemmas.List.Elements.{filter-append}
use Rattle.nf_base.specs.Orders.{came_at, KeepsPortOrder, port_of as port_at}
use Rattle.nf_base.specs.declared.packet.Packet.{Packet}
use Rattle.run_history.specs.declared.line.Mode.TheVariants.{One, Shard, Lock}
use Rattle.packet_feed.specs.Arrivals.{Arrival, packet_of}
use Rattle.packet_feed.specs.Ports.{AreFirstOfPorts}
use Rattle.stream_run.specs.Streaming.{AreFirst}
use Rattle.stream_run.specs.Orders.{Order, AsGiven, ByPort, Keeps, AreFirstBy, port_of}
use Rattle.stream_run.specs.RuleLaws.{FramesKeepPackets, PortsAreKept, FirstStayFirst, RulesAreTold}

-- the packets of one port, without their frames
bare : (port : ℕ) (xs : List Arrival) → filter (came_at port_at port) (map packet_of xs) ≡ map packet_of (filter (came_at port_of port) xs)
bare port [] = refl
bare port (x ∷ xs) = one (bare port xs) (port_of x == port)
  where
    one : filter (came_at port_at port) (map packet_of xs) ≡ map packet_of (filter (came_at port_of port) xs) → (b : Bool)
        → cond b (x.packet ∷ filter (came_at port_at port) (map packet_of xs)) (filter (came_at port_at port) (map packet_of xs)) ≡ map packet_of (cond b (x ∷ filter (came_at port_of port) xs) (filter (came_at port_of port) xs))
    one same true = ap (λ (ps : List Packet). x.packet ∷ ps) same
    one same false = same

pub frames_keep : FramesKeepPackets
frames_keep given handled keeps port = bare port handled ∙ ap (map packet_of) (keeps port) ∙ sym (bare port given)

pub ports_kept : PortsAreKept
ports_kept AsGiven given handled keeps = λ port. ap (filter (came_at port_of port)) keeps
ports_kept ByPort given handled keeps = keeps

pub keeps_itself : (order : Order) (xs : List Arrival) → Keeps order xs xs
keeps_itself AsGiven xs = refl
keeps_itself ByPort xs = λ port. refl

-- ---- what may come first

first_of : (all : Option (List Arrival)) (given handled : List Arrival) → AreFirstOfPorts all given → KeepsPortOrder port_of given handled → AreFirstOfPorts all handled
first_of None given handled first keeps = tt
first_of (Some all) given handled first keeps = λ port.
    let x = first port in (x.0, x.1 ∙ ap (λ (l : List Arrival). l ++ x.0) (sym (keeps port)))

pub first_stay : FirstStayFirst
first_stay AsGiven all given handled first keeps = subst (AreFirst all) (sym keeps) first
first_stay ByPort all given handled first keeps = first_of all given handled first keeps

fewer_first : (all : Option (List Arrival)) (xs ys : List Arrival) → AreFirst all (xs ++ ys) → AreFirst all xs
fewer_first None xs ys h = tt
fewer_first (Some all) xs ys h = (ys ++ h.0, h.1 ∙ append_assoc xs ys h.0)

fewer_of_ports : (all : Option (List Arrival)) (xs ys : List Arrival) → AreFirstOfPorts all (xs ++ ys) → AreFirstOfPorts all xs
fewer_of_ports None xs ys h = tt
fewer_of_ports (Some all) xs ys h = λ port.
    let own = λ (a : Arrival). a.packet.id.port == port in
    let x = h port in
    (filter own ys ++ x.0, x.1 ∙ ap (λ (l : List Arrival). l ++ x.0) (filter-append own xs ys) ∙ append_assoc (filter own xs) (filter own ys) x.0)

-- fewer of the packets that may come first may, too
pub fewer_by : (order : Order) (all : Option (List Arrival)) (xs ys : List Arrival) → AreFirstBy order all (xs ++ ys) → AreFirstBy order all xs
fewer_by AsGiven all xs ys h = fewer_first all xs ys h
fewer_by ByPort all xs ys h = fewer_of_ports all xs ys h

pub rules_told : RulesAreTold
rules_told One workers keys = record { mode_is = refl; workers_are = refl; order_is = refl }
rules_told Shard workers keys = record { mode_is = refl; workers_are = refl; order_is = refl }
rules_told Lock workers keys = record { mode_is = refl; workers_are = refl; order_is = refl }
