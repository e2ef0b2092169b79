-- Worked rows: the numbers of seed 0, a checksum, and a firewall under four packets.
use Rattle.std.specs.Prelude.{◌≡◌, ℕ, List, [], ◌∷◌, Option, Some}
use Rattle.nf_base.specs.declared.packet.Packet.{Packet}
use Rattle.nf_base.specs.declared.done.Action.TheVariants.{To, Drop}
use Rattle.nf_base.specs.declared.state.State.{State}
use Rattle.nf_base.specs.Runs.{Handling, RunResult}
use Rattle.nf_laws.specs.Samples.{frame, packet_at, run_of, state_of, actions_of}
use Rattle.nf_laws.specs.Firewall.{firewall}
use Rattle.gen_traffic.specs.Numbers.{number_of}
use Rattle.gen_traffic.specs.Ends.{client, server}
use Rattle.gen_traffic.specs.Frames.{frame_between, header_checksum}
use Rattle.gen_traffic.specs.Traffic.{traffic}
use Rattle.gen_traffic.specs.Laws.{packets_in}

-- the first four numbers behind seed 0
pub record SeedZeroDraws : Type 0 where
  pub first : number_of 0 1 ≡ 0x3c6ef35f
  pub second : number_of 0 2 ≡ 0x47502932
  pub third : number_of 0 3 ≡ 0xd1ccf6e9
  pub fourth : number_of 0 4 ≡ 0xaaf95334

-- from 10.0.0.0 to 192.168.0.0
abbrev pub FlowZeroIsChecked : Type 0
FlowZeroIsChecked = header_checksum (client 0) server ≡ 0xb029

-- the frame of the reply to flow 1
abbrev pub ReplyToFlowOne : Type 0
ReplyToFlowOne = frame_between server (client 1) ≡
    0x02 ∷ 0x00 ∷ 0x00 ∷ 0x00 ∷ 0x00 ∷ 0x02 ∷ 0x02 ∷ 0x00 ∷ 0x00 ∷ 0x00 ∷ 0x00 ∷ 0x01 ∷ 0x08 ∷ 0x00
    ∷ 0x45 ∷ 0x00 ∷ 0x00 ∷ 0x1c ∷ 0x00 ∷ 0x00 ∷ 0x00 ∷ 0x00 ∷ 0x40 ∷ 0x11 ∷ 0xb0 ∷ 0x28
    ∷ 0xc0 ∷ 0xa8 ∷ 0x00 ∷ 0x00 ∷ 0x0a ∷ 0x00 ∷ 0x00 ∷ 0x01
    ∷ 0x00 ∷ 0x50 ∷ 0x04 ∷ 0x01 ∷ 0x00 ∷ 0x08 ∷ 0x00 ∷ 0x00 ∷ []

-- four packets at two ports, of so many flows, from seed 0
abbrev pub four_of : ℕ → List Packet
four_of flows = packets_in (traffic (record { seed = 0; count = 4; flows = flows; ports = 2 }))

-- a packet of flow 0, out and back
abbrev pub out_at : ℕ → ℕ → Packet
out_at seq time = packet_at 0 seq time (frame 167772160 1024 3232235520 80)

abbrev pub back_at : ℕ → ℕ → Packet
back_at seq time = packet_at 1 seq time (frame 3232235520 80 167772160 1024)

-- of one flow
abbrev pub OneFlow : Type 0
OneFlow = four_of 1 ≡ out_at 0 0 ∷ back_at 0 1000 ∷ out_at 1 2000 ∷ back_at 1 3000 ∷ []

-- of two flows the fourth packet is a reply of flow 1
abbrev pub TwoFlows : Type 0
TwoFlows = four_of 2 ≡
    out_at 0 0 ∷ back_at 0 1000 ∷ out_at 1 2000
    ∷ packet_at 1 1 3000 (frame 3232235520 80 167772161 1025) ∷ []

-- At three ports those that come in at the first and the third go to the server.
abbrev pub ThreePorts : Type 0
ThreePorts = packets_in (traffic (record { seed = 4294967295; count = 4; flows = 1000; ports = 3 })) ≡
    packet_at 0 0 0 (frame 167772605 1469 3232235520 80)
    ∷ packet_at 1 0 1000 (frame 3232235520 80 167772471 1335)
    ∷ packet_at 2 0 2000 (frame 167772995 1859 3232235520 80)
    ∷ packet_at 0 1 3000 (frame 167772503 1367 3232235520 80)
    ∷ []

-- the client of the last flow, and those where the ports begin again
pub record ClientsAreMany : Type 0 where
  pub last : client 65535 ≡ record { address = 167837695; port = 1559 }
  pub before : client 999 ≡ record { address = 167773159; port = 2023 }
  pub again : client 1000 ≡ record { address = 167773160; port = 1024 }

-- the packets, the first with the choice 0, and the others with none
abbrev pub first_makes_an_entry : List Packet → List Handling
first_makes_an_entry [] = []
first_makes_an_entry (p ∷ ps) = record { packet = p; choices = 0 ∷ [] } ∷ others ps
  where
    others : List Packet → List Handling
    others [] = []
    others (p ∷ ps) = record { packet = p; choices = [] } ∷ others ps

-- what a firewall for one flow comes to
abbrev pub through_firewall : ℕ → Option RunResult
through_firewall flows = run_of (firewall 1) (first_makes_an_entry (four_of flows))

-- the state with the entry of flow 0
abbrev pub with_flow_zero : ℕ → State
with_flow_zero stamp = record {
  chains = record {
    slots = Some (record {
      stamp = stamp;
      labels = 167772160 ∷ 3232235520 ∷ 1024 ∷ 80 ∷ [];
      columns = [];
    }) ∷ [];
    greatest = stamp;
  } ∷ [];
  arrays = [];
}

-- All four packets of one flow are sent, and it has an entry.
pub record OneFlowIsLetThrough : Type 0 where
  pub actions : actions_of (through_firewall 1) ≡ To 1 ∷ To 0 ∷ To 1 ∷ To 0 ∷ []
  pub state : state_of (through_firewall 1) ≡ Some (with_flow_zero 3000)

-- The reply of a flow that sent nothing is dropped.
pub record AnUnaskedReplyIsDropped : Type 0 where
  pub actions : actions_of (through_firewall 2) ≡ To 1 ∷ To 0 ∷ To 1 ∷ Drop ∷ []
  pub state : state_of (through_firewall 2) ≡ Some (with_flow_zero 2000)
