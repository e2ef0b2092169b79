-- A firewall, and what it does with a few packets.
--
-- nf firewall {
--   ports 2;
--   chain flows 1 lifetime 60000000000 { map by_flow(a: 32, b: 32, c: 16, d: 16); }
--   on 0 {
--     get e = flows.by_flow(src_ip, dst_ip, src_port, dst_port) { touch e; }
--     else { new f = flows(a = src_ip, b = dst_ip, c = src_port, d = dst_port) { } full { drop; } }
--     forward 1;
--   }
--   on 1 {
--     get e = flows.by_flow(dst_ip, src_ip, dst_port, src_port) { touch e; forward 0; }
--     drop;
--   }
-- }
use Rattle.std.specs.Prelude.{◌≡◌, ℕ, Bool, true, false, List, [], ◌∷◌, Option, Some, None, map}
use Rattle.nf_base.specs.Doors.{only_four}
use Rattle.nf_base.specs.declared.width.Width.TheVariants.{W16, W32}
use Rattle.nf_base.specs.declared.decl.ObjectId.TheVariants as object
use Rattle.nf_base.specs.declared.packet.Field.TheVariants.{SrcIp, DstIp, SrcPort, DstPort}
use Rattle.nf_base.specs.declared.done.Action.TheVariants.{To, Drop}
use Rattle.nf_base.specs.declared.packet.Packet.{Packet}
use Rattle.nf_base.specs.declared.state.State.{State}
use Rattle.nf_base.specs.Text.{Forward, Number, Discard, Touch, Get, Given, Block, Do, Ask, Make, Function}
use Rattle.nf_base.specs.Paths.{PathStep, Branch, Doing, Asking, Making, Closing, Hits, Misses, Makes, IsTaken, IsFull, paths}
use Rattle.nf_base.specs.Step.{opening, quiet, recorded, path_taken}
use Rattle.nf_base.specs.Statements.{open_blocks}
use Rattle.nf_base.specs.Record.{outcomes}
use Rattle.nf_base.specs.Locations.{EntryNo, KeyOf}
use Rattle.nf_base.specs.Runs.{Handling, RunResult, Report, Meet}
use Rattle.nf_laws.specs.Samples.{column, map_of, read, new_at, nothing, drops, forwards, frame, packet_at, arrives, run_of, state_of, actions_of, touched_in}

-- the addresses and ports of a packet from inside
abbrev pub there : List Given
there = read W32 SrcIp ∷ read W32 DstIp ∷ read W16 SrcPort ∷ read W16 DstPort ∷ []

-- and of one from outside, the other way round
abbrev pub back : List Given
back = read W32 DstIp ∷ read W32 SrcIp ∷ read W16 DstPort ∷ read W16 SrcPort ∷ []

-- port 0
abbrev pub outward : Block
outward =
    Ask (Get 0 0 0 there 0) (Do (Touch 0) nothing)
    (Make (new_at 1 0 there) nothing nothing drops nothing)
    (forwards 1)

-- port 1
abbrev pub inward : Block
inward = Ask (Get 2 0 0 back 0) (Do (Touch 0) (forwards 0)) nothing drops

-- flows for 60 seconds, at so many indices
abbrev pub firewall : ℕ → Function
firewall size = record {
  name = [];
  chains = record {
    name = [];
    size = size;
    lifetime = 60000000000;
    labels = column W32 ∷ column W32 ∷ column W16 ∷ column W16 ∷ [];
    columns = [];
    maps = map_of 0 4 ∷ [];
    order = [];
  } ∷ [];
  arrays = [];
  objects = object.Chain 0 ∷ [];
  handlers = map only_four (outward ∷ inward ∷ []);
}

-- one packet out, and its answer
abbrev pub both_ways : Option RunResult
both_ways = run_of (firewall 1)
    (arrives 0 0 1 (frame 167772161 1000 167772162 80) (0 ∷ [])
    ∷ arrives 1 0 5 (frame 167772162 80 167772161 1000) []
    ∷ [])

-- the keys of two flows
abbrev pub one_key : List ℕ
one_key = 167772161 ∷ 167772162 ∷ 1000 ∷ 80 ∷ []

-- a flow from the next port
abbrev pub other_key : List ℕ
other_key = 167772161 ∷ 167772162 ∷ 1001 ∷ 80 ∷ []

-- the state with the first one's entry
abbrev pub with_flow : ℕ → State
with_flow stamp = record {
  chains = record {
    slots = Some (record { stamp = stamp; labels = one_key; columns = [] }) ∷ [];
    greatest = stamp;
  } ∷ [];
  arrays = [];
}

-- both are let through, and the entry has the later stamp
pub record AFlowIsLetBack : Type 0 where
  pub actions : actions_of both_ways ≡ To 1 ∷ To 0 ∷ []
  pub state : state_of both_ways ≡ Some (with_flow 5)

-- where nothing went out before, what comes in is dropped
abbrev pub AStrangerIsDropped : Type 0
AStrangerIsDropped =
    actions_of (run_of (firewall 1) (arrives 1 0 5 (frame 167772162 80 167772161 1000) [] ∷ []))
    ≡ Drop ∷ []

-- a packet out, its answer, and a packet of another flow
abbrev pub two_flows : List Handling
two_flows =
    arrives 0 0 1 (frame 167772161 1000 167772162 80) (0 ∷ [])
    ∷ arrives 1 0 5 (frame 167772162 80 167772161 1000) []
    ∷ arrives 0 1 6 (frame 167772161 1001 167772162 80) (1 ∷ [])
    ∷ []

-- what each of the three packets touches
abbrev pub out_report : Report
out_report = record {
  packet = packet_at 0 0 1 (frame 167772161 1000 167772162 80);
  touched = KeyOf 0 0 one_key ∷ EntryNo 0 0 ∷ KeyOf 0 0 one_key ∷ [];
}

-- the packet back touches the same key, and the entry twice: by the look-up and by the touch
abbrev pub answer_report : Report
answer_report = record {
  packet = packet_at 1 0 5 (frame 167772162 80 167772161 1000);
  touched = KeyOf 0 0 one_key ∷ EntryNo 0 0 ∷ EntryNo 0 0 ∷ [];
}

-- the packet of the other flow touches another key, and another entry
abbrev pub other_report : Report
other_report = record {
  packet = packet_at 0 1 6 (frame 167772161 1001 167772162 80);
  touched = KeyOf 0 0 other_key ∷ EntryNo 0 1 ∷ KeyOf 0 0 other_key ∷ [];
}

-- the packets of one flow touch one location, and those of two flows none
pub record OnlyOneFlowMeets : Type 0 where
  pub touched : touched_in (firewall 2) two_flows
      ≡ out_report.touched ∷ answer_report.touched ∷ other_report.touched ∷ []
  pub one : Meet (firewall 2) two_flows out_report answer_report
  pub other : Meet (firewall 2) two_flows out_report other_report → ⊥

-- a packet out, at a time
abbrev pub out_at : ℕ → Packet
out_at time = packet_at 0 1 time (frame 167772161 1000 167772162 80)

-- whether it changes nothing, where the entry of its flow was last used at 5
abbrev pub quiet_at : ℕ → List ℕ → Option Bool
quiet_at time choices =
    quiet (firewall 1) (with_flow 5) (out_at time) choices

-- Used again at once, an entry keeps its stamp, and nothing changes. Later, or once it has expired,
-- something does.
pub record APacketIsQuiet : Type 0 where
  pub at_once : quiet_at 5 [] ≡ Some true
  pub earlier : quiet_at 4 [] ≡ Some true
  pub later : quiet_at 6 [] ≡ Some false
  pub expired : quiet_at 60000000006 (0 ∷ []) ≡ Some false
  pub no_step : quiet_at 5 (0 ∷ []) ≡ None

-- the statements of port 0, with how they go
abbrev pub asking : Branch → PathStep
asking branch = Asking (Get 0 0 0 there 0) branch

-- its `new`
abbrev pub making : Branch → PathStep
making branch = Making (new_at 1 0 there) branch

-- its end
abbrev pub closing : PathStep
closing = Closing (Forward (Number 1))

-- by a hit, and by an entry made, a key taken and no index vacant
abbrev pub four_paths : List (List PathStep)
four_paths =
    (asking Hits ∷ Doing (Touch 0) ∷ closing ∷ [])
    ∷ (asking Misses ∷ making Makes ∷ closing ∷ [])
    ∷ (asking Misses ∷ making IsTaken ∷ closing ∷ [])
    ∷ (asking Misses ∷ making IsFull ∷ Closing Discard ∷ [])
    ∷ []

-- port 0 has four paths in three blocks within one another, and a packet of a known flow takes the
-- first one
pub record APacketTakesAPath : Type 0 where
  pub all : paths outward ([] ∷ []) ≡ four_paths
  pub nested : open_blocks outward ≡ 3
  pub taken : path_taken (firewall 1) (with_flow 5) (out_at 6) []
      ≡ asking Hits ∷ Doing (Touch 0) ∷ closing ∷ []
  pub known : outcomes (recorded (firewall 1) (with_flow 5) (out_at 6) [])
      ≡ record { place = 0; branch = Hits } ∷ []
  pub new_ : outcomes (recorded (firewall 1) (opening (firewall 1)) (out_at 6) (0 ∷ []))
      ≡ record { place = 0; branch = Misses } ∷ record { place = 1; branch = Makes } ∷ []
