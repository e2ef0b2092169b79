-- How the packets of a run are handled, in any mode, and the runs that are handled so.
use Rattle.std.specs.Prelude.{◌≡◌, ◌%◌, ℕ, List, map, Option}
use Rattle.std.specs.List.{AllByRecursion}
use Rattle.nf_base.specs.Text.{Function}
use Rattle.nf_base.specs.Runs.{Handling}
use Rattle.nf_base.specs.Step.{opening}
use Rattle.nf_base.specs.declared.card.Card.{Card}
use Rattle.nf_base.specs.declared.keys.Keys.{Keys}
use Rattle.nf_base.specs.declared.packet.Packet.{Packet}
use Rattle.nf_base.specs.declared.state.State.{State}
use Rattle.run_history.specs.declared.line.Mode.{Mode}
use Rattle.run_history.specs.declared.line.Mode.TheVariants.{One, Shard, Lock}
use Rattle.packet_feed.specs.Arrivals.{Arrival}
use Rattle.rss_table.specs.Tables.{even_table, queue_of}
use Rattle.shard_laws.specs.Queues.{Throughout}
use Rattle.shard_laws.specs.Rule.{KeepsToQueue}
use Rattle.stream_run.specs.Runs.{Run, Turn, Handled, IsLegal, handling_of, arrival_in}
use Rattle.stream_run.specs.Streaming.{IsUndivided, handling_in}
use Rattle.stream_run.specs.Orders.{Order, AsGiven, ByPort, Keeps, AreFirstBy}

-- which indices a packet may be given: any that are vacant, or those of its worker's share
pub data Indices : Type 0 where
  Vacant Own : Indices

-- The mode and the number of workers, as the first line of a journal tells them; who handles a packet,
-- which order is kept, and which indices packets may be given.
pub record Rule : Type 0 where
  pub mode : Mode
  pub workers : ℕ
  pub worker_of : Packet → ℕ
  pub order : Order
  pub indices : Indices

-- What a packet with its choices keeps at the state before it, beside that the choices are legal: nothing;
-- or the choices are its worker's, and no `new` answers that its chain is full.
abbrev pub KeepsTo : Indices → ℕ → ℕ → Function → State → Handling → Type 0
KeepsTo Vacant workers worker f s h = Unit {0}
KeepsTo Own workers worker f s h = KeepsToQueue workers worker f s h

abbrev pub KeepsBy : Rule → Function → State → Handling → Type 0
KeepsBy rule f s h = KeepsTo rule.indices rule.workers (rule.worker_of h.packet) f s h

-- ---- the rule of each mode

-- the queue of a packet, of so many workers (Microsoft RSS): the hash under the key of its port, and the
-- entry at its low bits in a table that goes round the queues
abbrev pub queue_by : Keys → ℕ → Packet → ℕ
queue_by keys workers packet = queue_of (even_table keys.table workers) keys packet

-- the worker of a packet that handles the packets of whole ports
abbrev pub port_worker : ℕ → Packet → ℕ
port_worker workers packet = packet.id.port % workers

-- worker 0 handles all packets, for as many as were asked for
abbrev pub lone_rule : ℕ → Rule
lone_rule workers = record {
  mode = One;
  workers = workers;
  worker_of = λ packet. 0;
  order = AsGiven;
  indices = Vacant;
}

abbrev pub one_rule : Rule
one_rule = lone_rule 1

-- workers that share nothing handle the packets of their own queues, within their queue's share
abbrev pub shard_rule : Keys → ℕ → Rule
shard_rule keys workers = record {
  mode = Shard;
  workers = workers;
  worker_of = queue_by keys workers;
  order = AsGiven;
  indices = Own;
}

-- workers that share the tables handle the packets of their own ports
abbrev pub lock_rule : ℕ → Rule
lock_rule workers = record {
  mode = Lock;
  workers = workers;
  worker_of = port_worker workers;
  order = ByPort;
  indices = Vacant;
}

-- the rule that the first line of a journal tells
abbrev pub rule_in : Mode → ℕ → Keys → Rule
rule_in One workers keys = lone_rule workers
rule_in Shard workers keys = shard_rule keys workers
rule_in Lock workers keys = lock_rule workers

-- the order that it tells
abbrev pub order_in : Mode → Order
order_in One = AsGiven
order_in Shard = AsGiven
order_in Lock = ByPort

-- ---- runs by a rule

-- These packets are handled by a rule, all of them and no others, with this network card. What they come
-- to is what the undivided function does with them, in the order in which they are handled.
pub record IsRunBy (rule : Rule) (f : Function) (card : Card) (given : List Arrival) (r : Run) : Type 0 where
  pub function : r.function ≡ f
  pub mode : r.mode ≡ rule.mode
  pub workers : r.workers ≡ rule.workers
  pub card_is : r.card ≡ card
  pub own : AllByRecursion (λ (t : Turn). t.worker ≡ rule.worker_of t.arrival.packet) r.turns
  pub order : Keeps rule.order given (map arrival_in r.turns)
  pub legal : IsLegal r
  pub kept : Throughout (KeepsBy rule f) f (opening f) (map handling_of r.turns)

-- A run may end early: its packets may be the first ones of captures.
pub record IsFrontOf (rule : Rule) (f : Function) (card : Card) (all : Option (List Arrival)) (r : Run) : Type 0 where
  pub given : List Arrival
  pub first : AreFirstBy rule.order all given
  pub is_run : IsRunBy rule f card given r

-- packets that were handled by a rule, what they came to, and the state that they leave
pub record AreBy (rule : Rule) (f : Function) (hs : List Handled) (state : State) : Type 0 where
  pub undivided : IsUndivided f hs state
  pub own : AllByRecursion (λ (h : Handled). h.worker ≡ rule.worker_of h.arrival.packet) hs
  pub kept : Throughout (KeepsBy rule f) f (opening f) (map handling_in hs)
