-- Made-up traffic: packets that a seed determines, each with its frame.
use Rattle.std.specs.Prelude.{ℕ, zero, suc, ◌+◌, ◌*◌, ◌/◌, ◌%◌, List, [], ◌∷◌, Some, min}
use Rattle.nf_base.specs.declared.packet.Packet.{Packet}
use Rattle.nf_base.specs.declared.packet.PacketId.{PacketId}
use Rattle.gen_traffic.specs.declared.end.End.{End}
use Rattle.gen_traffic.specs.Numbers.{number_of, flow_of}
use Rattle.gen_traffic.specs.Ends as ends
use Rattle.gen_traffic.specs.Frames.{frame_between, fields_between}

-- what traffic is made of: a seed, how many packets, of how many flows, and how many ports they come
-- in at
pub record Recipe : Type 0 where
  pub seed : ℕ
  pub count : ℕ
  pub flows : ℕ
  pub ports : ℕ

-- The ports take turns, and the packets of each are numbered from 0.
abbrev pub id_at : Recipe → ℕ → PacketId
id_at r k = record { port = k % r.ports; seq = k / r.ports }

-- Packet k, from 0, is of the flow that number k + 1 draws.
abbrev pub flow_at : Recipe → ℕ → ℕ
flow_at r k = flow_of r.flows (number_of r.seed (suc k))

-- where it comes from, and where it goes to
abbrev pub source_at : Recipe → ℕ → End
source_at r k = ends.source (id_at r k).port (flow_at r k)

abbrev pub destination_at : Recipe → ℕ → End
destination_at r k = ends.destination (id_at r k).port (flow_at r k)

-- A packet comes each 1,000 nanoseconds.
abbrev pub packet_at : Recipe → ℕ → Packet
packet_at r k = record {
  id = id_at r k;
  time = 1000 * k;
  fields = Some (fields_between (source_at r k) (destination_at r k));
}

abbrev pub frame_at : Recipe → ℕ → List ℕ
frame_at r k = frame_between (source_at r k) (destination_at r k)

-- the packet with its frame
abbrev pub sent_at : Recipe → ℕ → Packet × List ℕ
sent_at r k = (packet_at r k, frame_at r k)

-- so many packets, from one on
abbrev pub sent_from : Recipe → ℕ → ℕ → List (Packet × List ℕ)
sent_from r k zero = []
sent_from r k (suc n) = sent_at r k ∷ sent_from r (suc k) n

-- all of them
abbrev pub traffic : Recipe → List (Packet × List ℕ)
traffic r = sent_from r 0 r.count

-- traffic of which so many packets were given
pub record Giving : Type 0 where
  pub recipe : Recipe
  pub given : ℕ

-- the same, with one more given where one is left
abbrev pub after : Giving → Giving
after g = record g { given = min (g.given + 1) g.recipe.count }
