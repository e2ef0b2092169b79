-- Laws of made-up traffic.
use Rattle.std.specs.Prelude.{◌≡◌, ℕ, ◌+◌, ◌*◌, ◌≤◌, ◌<◌, List, length, map, Some, slice_get}
use Rattle.std.specs.List.Sorted.{IsSortedBy}
use Rattle.nf_base.specs.declared.packet.Packet.{Packet}
use Rattle.nf_base.specs.Orders.{comes_before}
use Rattle.frame_ip.specs.Frame.{fields_in}
use Rattle.frame_ip.specs.FourSums.{IsIpRight}
use Rattle.gen_traffic.specs.declared.end.End.{End}
use Rattle.gen_traffic.specs.Ends.{client, Fits}
use Rattle.gen_traffic.specs.Frames.{frame_between, fields_between}
use Rattle.gen_traffic.specs.Traffic.{Recipe, id_at, packet_at, frame_at, sent_at, traffic}

-- A frame has 42 bytes, is handled, and its fields are those that are read from it; the IP header's
-- checksum is right.
pub record IsWellMade (from to : End) : Type 0 where
  pub long : length (frame_between from to) ≡ 42
  pub read : fields_in (frame_between from to) 42 ≡ Some (fields_between from to)
  pub right : IsIpRight (frame_between from to)

abbrev pub FramesAreWellMade : Type 0
FramesAreWellMade = (from to : End) → Fits from → Fits to → IsWellMade from to

-- Each packet of up to 65,536 flows is handled: its fields are those of its frame.
abbrev pub EachIsHandled : Type 0
EachIsHandled = (r : Recipe) (k : ℕ) → fields_in (frame_at r k) 42 ≡ (packet_at r k).fields

-- no packet comes before an earlier one
abbrev pub TimesNeverFall : Type 0
TimesNeverFall = (r : Recipe) (j k : ℕ) → j ≤ k → (packet_at r j).time ≤ (packet_at r k).time

-- A packet comes in at one of the ports; and whatever the port, its packets are numbered from 0, one
-- in each turn.
pub record PortsTakeTurns : Type 0 where
  pub within : (r : Recipe) (k : ℕ) → 1 ≤ r.ports → (id_at r k).port < r.ports
  pub turns : (r : Recipe) (port seq : ℕ) → port < r.ports →
      id_at r (seq * r.ports + port) ≡ record { port = port; seq = seq }

-- Two flows have two clients.
abbrev pub FlowsAreApart : Type 0
FlowsAreApart = (i j : ℕ) → client i ≡ client j → i ≡ j

-- There are as many packets as were asked for, one for each number from 0 on.
pub record IsCounted (r : Recipe) : Type 0 where
  pub count : length (traffic r) ≡ r.count
  pub each : (k : ℕ) → k < r.count → slice_get (traffic r) k ≡ Some (sent_at r k)

abbrev pub packets_in : List (Packet × List ℕ) → List Packet
packets_in sent = map (λ (s : Packet × List ℕ). s.0) sent

-- They stand in capture order.
abbrev pub TrafficIsInOrder : Type 0
TrafficIsInOrder = (r : Recipe) → IsSortedBy comes_before (packets_in (traffic r))
