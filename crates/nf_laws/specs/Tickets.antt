-- Tickets: a function that makes and frees entries with two keys, and what it does with a few
-- packets.
--
-- nf tickets {
--   ports 3;
--   chain given 2 lifetime 100 { map by_first(a: 32); map by_second(b: 32); }
--   on 0 {
--     new f = given(a = src_ip, b = dst_ip) { forward 2; } taken { forward 1; } full { drop; }
--   }
--   on 1 {
--     get e = given.by_second(dst_ip) { free e; touch e; forward e.index; }
--     drop;
--   }
--   on 2 { drop; }
-- }
use Rattle.std.specs.Prelude.{◌≡◌, ℕ, List, [], ◌∷◌, Option, Some, None, map}
use Rattle.nf_base.specs.Doors.{only_four}
use Rattle.nf_base.specs.declared.packet.Addresses.TheVariants as addresses
use Rattle.nf_base.specs.declared.width.Width.TheVariants.{W32}
use Rattle.nf_base.specs.declared.decl.ObjectId.TheVariants as object
use Rattle.nf_base.specs.declared.packet.Field.TheVariants.{SrcIp, DstIp}
use Rattle.nf_base.specs.declared.packet.Fields.{Fields}
use Rattle.nf_base.specs.declared.share.Share.{Share}
use Rattle.nf_base.specs.declared.done.Action.{Action}
use Rattle.nf_base.specs.declared.done.Action.TheVariants.{To, Drop}
use Rattle.nf_base.specs.declared.state.Entry.{Entry}
use Rattle.nf_base.specs.declared.state.State.{State}
use Rattle.nf_base.specs.Text.{Index, Forward, Touch, Free, Get, Block, End, Do, Ask, Make, Function}
use Rattle.nf_base.specs.Course.{Completion, StoppedAt}
use Rattle.nf_base.specs.Step.{StepResult, step, step_by, completes}
use Rattle.nf_base.specs.Locations.{EntryNo, KeyOf}
use Rattle.nf_base.specs.Runs.{Handling}
use Rattle.nf_base.specs.Shares.{share_stops}
use Rattle.nf_laws.specs.Samples.{column, map_of, read, new_at, nothing, drops, forwards, frame, packet_at, arrives, run_of, state_of, actions_of, touched_in}

-- port 0: to port 2 where it is made, to port 1 where one of its keys is taken; dropped where all
-- are given out
abbrev pub gives : Block
gives =
    Make (new_at 0 0 (read W32 SrcIp ∷ read W32 DstIp ∷ [])) (forwards 2) (forwards 1) drops nothing

-- port 1: by the second key; the index of a freed variable reads 0, and a touch of it does nothing
abbrev pub takes_back : Block
takes_back =
    Ask (Get 1 0 1 (read W32 DstIp ∷ []) 0)
    (Do (Free 0) (Do (Touch 0) (End (Forward (Index 0))))) nothing drops

-- tickets at so many indices
abbrev pub tickets : ℕ → Function
tickets size = record {
  name = [];
  chains = record {
    name = [];
    size = size;
    lifetime = 100;
    labels = column W32 ∷ column W32 ∷ [];
    columns = [];
    maps = map_of 0 1 ∷ map_of 1 1 ∷ [];
    order = [];
  } ∷ [];
  arrays = [];
  objects = object.Chain 0 ∷ [];
  handlers = map only_four (gives ∷ takes_back ∷ drops ∷ []);
}

-- a packet that asks for a ticket with two keys
abbrev pub give : ℕ → ℕ → ℕ → List ℕ → Handling
give time a b choices = arrives 0 time time (frame a 0 b 0) choices

-- one that gives it back
abbrev pub take_back : ℕ → ℕ → ℕ → Handling
take_back time a b = arrives 1 time time (frame a 0 b 0) []

-- a ticket
abbrev pub ticket : ℕ → ℕ → ℕ → Option Entry
ticket stamp a b = Some (record { stamp = stamp; labels = a ∷ b ∷ []; columns = [] })

-- a state with these tickets
abbrev pub given_out : List (Option Entry) → ℕ → State
given_out slots greatest =
    record { chains = record { slots = slots; greatest = greatest } ∷ []; arrays = [] }

-- at one index: made, taken by the first key, taken by the second, and full for new keys
abbrev pub ATakenKeyComesBeforeAFullChain : Type 0
ATakenKeyComesBeforeAFullChain =
    actions_of (run_of (tickets 1)
    (give 1 7 8 (0 ∷ []) ∷ give 2 7 9 [] ∷ give 3 9 8 [] ∷ give 4 8 7 [] ∷ []))
    ≡ To 2 ∷ To 1 ∷ To 1 ∷ Drop ∷ []

-- made, not found by its first key, found by its second and freed, not found again, and made anew
-- at that index
abbrev pub freed_again : List Handling
freed_again =
    give 1 7 8 (1 ∷ [])
    ∷ take_back 2 0 7
    ∷ take_back 3 0 8
    ∷ take_back 4 0 8
    ∷ give 5 7 8 (1 ∷ [])
    ∷ []

-- a freed index is vacant, and the entry made there next is another one
pub record AFreedIndexIsVacant : Type 0 where
  pub actions : actions_of (run_of (tickets 2) freed_again) ≡ To 2 ∷ Drop ∷ To 0 ∷ Drop ∷ To 2 ∷ []
  pub state : state_of (run_of (tickets 2) freed_again)
      ≡ Some (given_out (None ∷ ticket 5 7 8 ∷ []) 5)
  pub touched : touched_in (tickets 2) freed_again
      ≡ (EntryNo 0 0 ∷ KeyOf 0 0 (7 ∷ []) ∷ KeyOf 0 1 (8 ∷ []) ∷ [])
      ∷ (KeyOf 0 1 (7 ∷ []) ∷ [])
      ∷ (KeyOf 0 1 (8 ∷ []) ∷ EntryNo 0 0 ∷ EntryNo 0 0 ∷ [])
      ∷ (KeyOf 0 1 (8 ∷ []) ∷ [])
      ∷ (EntryNo 0 1 ∷ KeyOf 0 0 (7 ∷ []) ∷ KeyOf 0 1 (8 ∷ []) ∷ [])
      ∷ []

-- four indices, of which those of queue 1 of 2, 1 and 3, are given out
abbrev pub two_out : State
two_out = given_out (None ∷ ticket 1 7 8 ∷ None ∷ ticket 2 5 6 ∷ []) 2

-- the fields of a packet that asks for a ticket
abbrev pub asking : ℕ → ℕ → Fields
asking a b = record {
  length = 42;
  src_mac = 0;
  dst_mac = 0;
  addresses = addresses.Four a b;
  proto = 17;
  ttl = 64;
  src_port = 0;
  dst_port = 0;
}

-- where a share stops with it
abbrev pub asks : Share → ℕ → ℕ → List ℕ → Completion
asks share a b choices =
    completes (share_stops share) (tickets 4) two_out 3 (asking a b) choices (Some gives)

-- what a share answers to it
abbrev pub share_step : Share → ℕ → ℕ → List ℕ → Option StepResult
share_step share a b choices =
    step_by (share_stops share) (tickets 4) two_out (packet_at 0 3 3 (Some (asking a b))) choices

-- where it sends it
abbrev pub sent_by : Option StepResult → Option Action
sent_by None = None
sent_by (Some r) = Some r.done.action

-- queue 1 of 2 stops for new keys, and with any choice has no step; a taken key it answers;
-- undivided there is a step
pub record AShareStops (share : Share) : Type 0 where
  pub stops : asks share 9 9 [] ≡ StoppedAt 0 []
  pub left_over : asks share 9 9 (0 ∷ []) ≡ StoppedAt 0 (0 ∷ [])
  pub no_step : share_step share 9 9 (0 ∷ []) ≡ None
  pub taken : sent_by (share_step share 7 9 []) ≡ Some (To 1)
  pub undivided : sent_by (step (tickets 4) two_out (packet_at 0 3 3 (Some (asking 9 9))) (0 ∷ []))
      ≡ Some (To 2)

-- so queue 1 of 2 does
abbrev pub QueueOneStops : Type 0
QueueOneStops = (share : Share) → share.queue ≡ 1 → share.of ≡ 2 → AShareStops share

-- packets of two queues, with own choices each: by the first key, even ones to queue 0 and odd ones
-- to queue 1
abbrev pub both_queues : List Handling
both_queues = give 1 2 2 (0 ∷ []) ∷ give 2 3 3 (1 ∷ []) ∷ give 3 2 4 [] ∷ give 4 5 5 (3 ∷ []) ∷ []

-- those of queue 0
abbrev pub queue_zero : List Handling
queue_zero = give 1 2 2 (0 ∷ []) ∷ give 3 2 4 [] ∷ []

-- those of queue 1
abbrev pub queue_one : List Handling
queue_one = give 2 3 3 (1 ∷ []) ∷ give 4 5 5 (3 ∷ []) ∷ []

-- each queue answers its packets as the undivided function does, and has its own entries
pub record TwoQueuesAnswerAlike : Type 0 where
  pub whole : actions_of (run_of (tickets 4) both_queues) ≡ To 2 ∷ To 2 ∷ To 1 ∷ To 2 ∷ []
  pub zero : actions_of (run_of (tickets 4) queue_zero) ≡ To 2 ∷ To 1 ∷ []
  pub one : actions_of (run_of (tickets 4) queue_one) ≡ To 2 ∷ To 2 ∷ []
  pub all : state_of (run_of (tickets 4) both_queues)
      ≡ Some (given_out (ticket 1 2 2 ∷ ticket 2 3 3 ∷ None ∷ ticket 4 5 5 ∷ []) 4)
  pub of_zero : state_of (run_of (tickets 4) queue_zero)
      ≡ Some (given_out (ticket 1 2 2 ∷ None ∷ None ∷ None ∷ []) 1)
  pub of_one : state_of (run_of (tickets 4) queue_one)
      ≡ Some (given_out (None ∷ ticket 2 3 3 ∷ None ∷ ticket 4 5 5 ∷ []) 4)
