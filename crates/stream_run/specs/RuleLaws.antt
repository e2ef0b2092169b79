-- Laws of runs by a rule.
use Rattle.std.specs.Prelude.{◌≡◌, ◌↔◌, ℕ, List, [], ◌∷◌, ◌++◌, map, Option, Some}
use Rattle.nf_base.specs.Orders.{KeepsPortOrder, port_of as port_at}
use Rattle.nf_base.specs.Text.{Function}
use Rattle.nf_base.specs.Step.{step}
use Rattle.nf_base.specs.declared.card.Card.{Card}
use Rattle.nf_base.specs.declared.keys.Keys.{Keys}
use Rattle.nf_base.specs.declared.state.State.{State}
use Rattle.run_history.specs.declared.line.Mode.{Mode}
use Rattle.packet_feed.specs.Arrivals.{Arrival, packet_of}
use Rattle.stream_run.specs.Runs.{Run, Turn, Handled, handled_in, run_of, longer}
use Rattle.stream_run.specs.Streaming.{arrival_of, handling_in}
use Rattle.stream_run.specs.Orders.{Order, ByPort, Keeps, AreFirstBy}
use Rattle.stream_run.specs.Rules.{Rule, KeepsBy, rule_in, order_in, IsRunBy, IsFrontOf, AreBy}

-- ---- orders

-- each port's order among packets with their frames is that among the packets
abbrev pub FramesKeepPackets : Type 0
FramesKeepPackets = (given handled : List Arrival) → Keeps ByPort given handled →
    KeepsPortOrder port_at (map packet_of given) (map packet_of handled)

-- whichever order is kept, each port's is
abbrev pub PortsAreKept : Type 0
PortsAreKept = (order : Order) (given handled : List Arrival) → Keeps order given handled → Keeps ByPort given handled

-- what may come first may, whoever keeps which order of it
abbrev pub FirstStayFirst : Type 0
FirstStayFirst = (order : Order) (all : Option (List Arrival)) (given handled : List Arrival) →
    AreFirstBy order all given → Keeps order given handled → AreFirstBy order all handled

-- a rule that a journal's first line tells says what that line does, and keeps the order that it tells
pub record IsTold (mode : Mode) (workers : ℕ) (rule : Rule) : Type 0 where
  pub mode_is : rule.mode ≡ mode
  pub workers_are : rule.workers ≡ workers
  pub order_is : rule.order ≡ order_in mode

abbrev pub RulesAreTold : Type 0
RulesAreTold = (mode : Mode) (workers : ℕ) (keys : Keys) → IsTold mode workers (rule_in mode workers keys)

-- ---- runs

-- no packets are a run by any rule
abbrev pub NothingIsARun : Type 0
NothingIsARun = (rule : Rule) (f : Function) (card : Card) →
    IsRunBy rule f card [] (record { function = f; mode = rule.mode; workers = rule.workers; card = card; turns = [] })

-- what is handled by a rule is a run by it, of just these packets
abbrev pub HandledAreRuns : Type 0
HandledAreRuns = (rule : Rule) (f : Function) (card : Card) (hs : List Handled) (state : State) → AreBy rule f hs state →
    IsRunBy rule f card (map arrival_of hs) (run_of f rule.mode rule.workers card hs)
    × (handled_in (run_of f rule.mode rule.workers card hs) ≡ hs)

-- what stands in front of a run that ends early is one
abbrev pub FrontsHaveFronts : Type 0
FrontsHaveFronts = (rule : Rule) (f : Function) (card : Card) (all : Option (List Arrival)) (r : Run) (later : List Turn) →
    IsFrontOf rule f card all (longer r later) → IsFrontOf rule f card all r

-- a packet is handled by a rule, at a state
pub record IsNextBy (rule : Rule) (f : Function) (old : State) (h : Handled) (new : State) : Type 0 where
  pub own : h.worker ≡ rule.worker_of h.arrival.packet
  pub steps : step f old h.arrival.packet h.done.picks ≡ Some (record { state = new; done = h.done })
  pub kept : KeepsBy rule f old (handling_in h)

-- With one packet more, packets are handled by a rule exactly where that one is.
abbrev pub RunsGoOnByOne : Type 0
RunsGoOnByOne = (rule : Rule) (f : Function) (hs : List Handled) (h : Handled) (old new : State) → AreBy rule f hs old →
    AreBy rule f (hs ++ h ∷ []) new ↔ IsNextBy rule f old h new

-- and those in front of others are
abbrev pub HandledHaveFronts : Type 0
HandledHaveFronts = (rule : Rule) (f : Function) (xs ys : List Handled) (state : State) → AreBy rule f (xs ++ ys) state →
    (before : State) × AreBy rule f xs before
