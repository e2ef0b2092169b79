-- A function whose packets go to two queues, and what its queues do with a few of them.
--
-- nf counted {
--   ports 1;
--   chain flows 4 lifetime 10 { map by_source(a: 32); }
--   array hits 4: 32 = { 7, 8, 9, 10 };
--   on 0 {
--     get e = flows.by_source(src_ip) { touch e; } else { new f = flows(a = src_ip) { } }
--     hits[src_ip] = hits[src_ip] + 1;
--     flood;
--   }
-- }
use Rattle.std.specs.Prelude.{◌≡◌, ℕ, zero, suc, ◌%◌, true, List, [], ◌∷◌, Option, Some, None, map}
use Rattle.nf_base.specs.Doors.{only_four}
use Rattle.nf_base.specs.Families.{source}
use Rattle.nf_base.specs.declared.width.Width.TheVariants.{W32}
use Rattle.nf_base.specs.declared.expr.Operator.TheVariants.{Plus}
use Rattle.nf_base.specs.declared.decl.ObjectId.TheVariants as object
use Rattle.nf_base.specs.declared.packet.Field.TheVariants.{SrcIp}
use Rattle.nf_base.specs.declared.packet.Fields.{Fields}
use Rattle.nf_base.specs.declared.packet.Packet.{Packet}
use Rattle.nf_base.specs.declared.share.Share.{Share}
use Rattle.nf_base.specs.declared.state.Entry.{Entry}
use Rattle.nf_base.specs.declared.state.State.{State}
use Rattle.nf_base.specs.Text.{Number, Read, Cell, Both, Touch, Store, Get, Flood, Block, End, Do, Ask, Make, Function}
use Rattle.nf_base.specs.Record.{answers_full}
use Rattle.nf_base.specs.Runs.{Handling, run}
use Rattle.nf_base.specs.Step.{opening, recorded}
use Rattle.nf_laws.specs.Samples.{column, map_of, valued, read, new_at, nothing, frame, arrives, run_of, state_of, dones_of}
use Rattle.shard_laws.specs.Queues.{last_time, NeverFall, of_queue, answers_of, MeetAtOneQueue}
use Rattle.shard_laws.specs.Rule.{owner_of, AreShares, KeepsRule, KeepShareRule}
use Rattle.shard_laws.specs.Unions.{merged_cell, greatest_of, OneDiffers, IsUnion}

-- a flow is looked up or made, and its cell counted up
abbrev pub counts : Block
counts =
    Ask (Get 0 0 0 (read W32 SrcIp ∷ []) 0)
    (Do (Touch 0) nothing)
    (Make (new_at 1 0 (read W32 SrcIp ∷ [])) nothing nothing nothing nothing)
    (Do (Store 2 0 (Read SrcIp) (valued W32 (Both Plus (Cell 3 0 (Read SrcIp)) (Number 1))))
    (End Flood))

-- four flows, for 10 nanoseconds, and four cells
abbrev pub counted : Function
counted = record {
  name = [];
  chains = record {
    name = [];
    size = 4;
    lifetime = 10;
    labels = column W32 ∷ [];
    columns = [];
    maps = map_of 0 1 ∷ [];
    order = [];
  } ∷ [];
  arrays = record { name = []; width = W32; cells = 7 ∷ 8 ∷ 9 ∷ 10 ∷ [] } ∷ [];
  objects = object.Chain 0 ∷ object.Array 0 ∷ [];
  handlers = map only_four (counts ∷ []);
}

-- even addresses go to queue 0, odd ones to queue 1, and skipped packets to queue 0
abbrev pub queue_by : Option Fields → ℕ
queue_by None = 0
queue_by (Some fields) = source fields % 2

-- the queue of a packet
abbrev pub by_source : Packet → ℕ
by_source packet = queue_by packet.fields

-- from 2, at index 0
abbrev pub first : Handling
first = arrives 0 0 1 (frame 2 0 0 0) (0 ∷ [])

-- from 3, at index 1
abbrev pub second : Handling
second = arrives 0 1 5 (frame 3 0 0 0) (1 ∷ [])

-- from 2 again, at the same time
abbrev pub third : Handling
third = arrives 0 2 5 (frame 2 0 0 0) []

-- from 1, at index 3, where all flows before are past their lifetime
abbrev pub fourth : Handling
fourth = arrives 0 3 20 (frame 1 0 0 0) (3 ∷ [])

-- later, and skipped
abbrev pub fifth : Handling
fifth = arrives 0 4 30 None []

-- all of them
abbrev pub arrivals : List Handling
arrivals = first ∷ second ∷ third ∷ fourth ∷ fifth ∷ []

-- a flow
abbrev pub flow : ℕ → ℕ → Option Entry
flow stamp from = Some (record { stamp = stamp; labels = from ∷ []; columns = [] })

-- a state of these flows, this greatest stamp and these cells
abbrev pub state_at : List (Option Entry) → ℕ → List ℕ → State
state_at slots greatest cells =
    record { chains = record { slots = slots; greatest = greatest } ∷ []; arrays = cells ∷ [] }

-- the last state of all packets
abbrev pub whole : State
whole = state_at (None ∷ None ∷ None ∷ flow 20 1 ∷ []) 20 (7 ∷ 9 ∷ 11 ∷ 11 ∷ [])

-- that of queue 0, which no packet came to after time 5
abbrev pub of_zero : State
of_zero = state_at (flow 5 2 ∷ None ∷ None ∷ None ∷ []) 5 (7 ∷ 8 ∷ 11 ∷ 10 ∷ [])

-- that of queue 1
abbrev pub of_one : State
of_one = state_at (None ∷ None ∷ None ∷ flow 20 1 ∷ []) 20 (7 ∷ 9 ∷ 9 ∷ 11 ∷ [])

-- the states of both
abbrev pub of_both : ℕ → State
of_both zero = of_zero
of_both (suc w) = of_one

-- a queue has its packets, in order, and their answers; a skipped packet is no last handled one
pub record TwoQueuesShareARun : Type 0 where
  pub zero_has : of_queue by_source 0 arrivals ≡ first ∷ third ∷ fifth ∷ []
  pub one_has : of_queue by_source 1 arrivals ≡ second ∷ fourth ∷ []
  pub other_has : of_queue by_source 2 arrivals ≡ []
  pub never_fall : NeverFall 0 arrivals
  pub fall : NeverFall 0 (second ∷ first ∷ []) → ⊥
  pub last : last_time 0 arrivals ≡ 20
  pub all : state_of (run_of counted arrivals) ≡ Some whole
  pub zero : state_of (run_of counted (of_queue by_source 0 arrivals)) ≡ Some of_zero
  pub one : state_of (run_of counted (of_queue by_source 1 arrivals)) ≡ Some of_one
  pub zero_answers :
      answers_of by_source 0 arrivals (dones_of (run_of counted arrivals))
      ≡ dones_of (run_of counted (first ∷ third ∷ fifth ∷ []))
  pub one_answers :
      answers_of by_source 1 arrivals (dones_of (run_of counted arrivals))
      ≡ dones_of (run_of counted (second ∷ fourth ∷ []))

-- a state with a copy of a cell
abbrev pub copy_of : ℕ → ℕ → State
copy_of v greatest = state_at [] greatest (v ∷ [])

-- three states
abbrev pub three : State → State → State → ℕ → State
three a b c zero = a
three a b c (suc zero) = b
three a b c (suc (suc w)) = c

-- A merged cell is the copy that differs, wherever it stands, or the opening value; a state beyond
-- the number doesn't count. A union has no flow that is past its lifetime, no other cells and no
-- other stamp.
pub record StatesAreMerged : Type 0 where
  pub none : merged_cell 0 0 7 (three (copy_of 7 1) (copy_of 7 2) (copy_of 7 3)) 3 ≡ 7
  pub at_first : merged_cell 0 0 7 (three (copy_of 9 1) (copy_of 7 2) (copy_of 7 3)) 3 ≡ 9
  pub at_second : merged_cell 0 0 7 (three (copy_of 7 1) (copy_of 0 2) (copy_of 7 3)) 3 ≡ 0
  pub at_last : merged_cell 0 0 7 (three (copy_of 7 1) (copy_of 7 2) (copy_of 5 3)) 3 ≡ 5
  pub beyond : merged_cell 0 0 7 (three (copy_of 7 1) (copy_of 7 2) (copy_of 5 3)) 2 ≡ 7
  pub two_differ : OneDiffers 0 0 7 (three (copy_of 8 1) (copy_of 9 2) (copy_of 7 3)) 3 → ⊥
  pub top_first : greatest_of 0 (three (copy_of 7 9) (copy_of 7 2) (copy_of 7 3)) 3 ≡ 9
  pub top_second : greatest_of 0 (three (copy_of 7 1) (copy_of 7 6) (copy_of 7 3)) 3 ≡ 6
  pub top_beyond : greatest_of 0 (three (copy_of 7 1) (copy_of 7 2) (copy_of 7 3)) 2 ≡ 2
  pub stale :
      IsUnion (owner_of 2) counted 20 2 of_both
      (state_at (flow 5 2 ∷ None ∷ None ∷ flow 20 1 ∷ []) 20 (7 ∷ 9 ∷ 11 ∷ 11 ∷ [])) → ⊥
  pub other_cell :
      IsUnion (owner_of 2) counted 20 2 of_both
      (state_at (None ∷ None ∷ None ∷ flow 20 1 ∷ []) 20 (7 ∷ 9 ∷ 9 ∷ 11 ∷ [])) → ⊥
  pub other_stamp :
      IsUnion (owner_of 2) counted 20 2 of_both
      (state_at (None ∷ None ∷ None ∷ flow 20 1 ∷ []) 5 (7 ∷ 9 ∷ 11 ∷ 11 ∷ [])) → ⊥
  pub too_few_cells :
      IsUnion (owner_of 2) counted 20 2 of_both
      (state_at (None ∷ None ∷ None ∷ flow 20 1 ∷ []) 20 (7 ∷ 9 ∷ 11 ∷ [])) → ⊥
  pub no_chain :
      IsUnion (owner_of 2) counted 20 2 of_both
      (record { chains = []; arrays = whole.arrays }) → ⊥

-- four flows at all indices
abbrev pub crowded : State
crowded =
    state_at (flow 1 2 ∷ flow 1 4 ∷ flow 1 6 ∷ flow 1 8 ∷ []) 1 (7 ∷ 8 ∷ 9 ∷ 10 ∷ [])

-- a packet of queue 1 that asks for an index
abbrev pub asks : List ℕ → Handling
asks choices = arrives 0 0 2 (frame 3 0 0 0) choices

-- Each line of the run keeps the share rule. One that takes another queue's index doesn't, nor one
-- whose `new` finds its chain full; one that takes no index needs none.
pub record LinesKeepTheRule (share : ℕ → Share) : Type 0 where
  pub kept : KeepShareRule share by_source counted (opening counted) arrivals
  pub own : KeepsRule (share 1) counted (opening counted) (asks (3 ∷ []))
  pub other : KeepsRule (share 1) counted (opening counted) (asks (2 ∷ [])) → ⊥
  pub full : answers_full (recorded counted crowded (asks []).packet []) ≡ true
  pub refused : KeepsRule (share 1) counted crowded (asks []) → ⊥
  pub hit : KeepsRule (share 0) counted crowded third

-- so it is for the shares of two queues
abbrev pub TwoSharesKeepTheRule : Type 0
TwoSharesKeepTheRule = (share : ℕ → Share) → AreShares 2 share → LinesKeepTheRule share

-- by the time, not by the source
abbrev pub by_time : Packet → ℕ
by_time packet = packet.time % 2

-- from 2 twice
abbrev pub again : List Handling
again = arrives 0 0 1 (frame 2 0 0 0) (0 ∷ []) ∷ arrives 0 1 2 (frame 2 0 0 0) [] ∷ []

-- Where two packets of one flow are at two queues, they meet, and the second one has no step at its
-- queue: the run of all has a meaning, and that of queue 0 has none.
pub record OneFlowAtTwoQueues : Type 0 where
  pub together : state_of (run_of counted again)
      ≡ Some (state_at (flow 2 2 ∷ None ∷ None ∷ None ∷ []) 2 (7 ∷ 8 ∷ 11 ∷ 10 ∷ []))
  pub apart : run counted (opening counted) (of_queue by_time 0 again) ≡ None
  pub meet : MeetAtOneQueue by_time counted again → ⊥
