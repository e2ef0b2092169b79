-- What a worker's thread does with its two rings.
use Rattle.std.specs.Prelude.{◌≡◌, Bool, true, false, List, [], ◌∷◌, ◌++◌, map, Option, All}
use Rattle.rtrb.specs.Ring.{sent, received, SameConsumer, SameProducer}
use Rattle.nf_base.specs.declared.func.Func.{Func}
use Rattle.nf_base.specs.Functions.{function_of}
use Rattle.vig_tables.specs.TablesState.{TablesState}
use Rattle.ring_line.specs.declared.halt.Halt.{Halt}
use Rattle.ring_line.specs.declared.item.Item.{Item}
use Rattle.ring_line.specs.declared.item.Item.TheVariants.{Work, End}
use Rattle.ring_line.specs.declared.worker_ends.WorkerResult.{WorkerResult}
use Rattle.ring_line.specs.declared.worker_ends.RingEnds.{RingEnds}
use Rattle.ring_line.specs.declared.worker_ends.WorkerInput.{WorkerInput}
use Rattle.ring_line.specs.Packs.{Packed, packets_in, answers_in, TellsAtLast}
use Rattle.ring_line.specs.Handled.{CanServe, CameTo}
use Rattle.ring_line.specs.QueueHandlers.{HandlerState}

abbrev pub as_work : Packed → Item
as_work pack = Work pack

-- packs, and then the end of work
abbrev pub closed : List Packed → List Item
closed packs = map as_work packs ++ End ∷ []

-- the ends, the function and the tables of its share that a worker was given
pub record Given : Type 0 where
  pub ends : RingEnds
  pub func : Func
  pub tables : TablesState

-- the same, as they were at the start
abbrev pub given_by : WorkerInput → Given
given_by worker_input = record {
  ends = worker_input.ends.value;
  func = worker_input.func.value;
  tables = worker_input.tables.value;
}

-- Packs came in, and these went back: their packets were handled in order, from the tables that the
-- worker was given, where the function has a handler for each of them.
pub record HasAnswered (given : Given) (packs sent_back : List Packed) (tables : TablesState)
    (halt : Option Halt) : Type 0 where
  pub share : tables.share ≡ given.tables.share
  pub last : TellsAtLast halt sent_back
  pub came : All (CanServe given.func) (packets_in packs) →
      CameTo (function_of given.func) given.tables.share given.tables.state
      (packets_in packs) (answers_in sent_back) halt tables.state

-- the same of a queue handler
abbrev pub Told : Given → List Packed → List Packed → HandlerState → Type 0
Told given packs sent_back queue_handler =
    (queue_handler.func ≡ given.func) ×
    HasAnswered given packs sent_back queue_handler.tables queue_handler.halt

-- the ends of one worker's rings, at two moments
abbrev pub SameEnds : RingEnds → RingEnds → Type 0
SameEnds old new = SameConsumer old.from new.from × SameProducer old.to new.to

-- A worker at work: by the ends that it was given it received packs alone, and what it sent is what
-- they came to.
pub record AtWork (given : Given) (ends : RingEnds) (queue_handler : HandlerState) : Type 0 where
  pub same : SameEnds given.ends ends
  pub packs : List Packed
  pub received : received ends.from ≡ map as_work packs
  pub told : Told given packs (sent ends.to) queue_handler

-- and one that received the end of work behind them
pub record AtEnd (given : Given) (ends : RingEnds) (queue_handler : HandlerState) : Type 0 where
  pub same : SameEnds given.ends ends
  pub packs : List Packed
  pub received : received ends.from ≡ closed packs
  pub told : Told given packs (sent ends.to) queue_handler

-- one of both, by whether a pack came
abbrev pub AtItem : Bool → Given → RingEnds → HandlerState → Type 0
AtItem true given ends queue_handler = AtWork given ends queue_handler
AtItem false given ends queue_handler = AtEnd given ends queue_handler

-- What a worker hands back: the ends that it was given, by which it received packs and then the end
-- of work, and sent what they came to.
pub record Returned (given : Given) (ended : WorkerResult) : Type 0 where
  pub same : SameEnds given.ends ended.ends
  pub packs : List Packed
  pub received : received ended.ends.from ≡ closed packs
  pub told : HasAnswered given packs (sent ended.ends.to) ended.tables ended.halt
  pub decls : ended.tables.decls ≡ given.func.chains

-- a worker keeps what it was started with
abbrev pub Kept : WorkerInput → WorkerResult → Type 0
Kept worker_input ended = Returned (given_by worker_input) ended

-- a worker begins with these ends and this queue handler
abbrev pub begun : RingEnds → HandlerState → Given
begun ends queue_handler =
    record { ends = ends; func = queue_handler.func; tables = queue_handler.tables }
