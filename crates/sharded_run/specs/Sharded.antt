-- How a run in mode `shard` stops: at a packet whose queue's share has no index left.
use Rattle.std.specs.Prelude.{◌≡◌, ℕ, List, ◌∷◌, ◌++◌, Option, Some, None}
use Rattle.nf_base.specs.declared.done.Done.{Done}
use Rattle.nf_base.specs.declared.keys.Keys.{Keys}
use Rattle.nf_base.specs.declared.packet.Packet.{Packet}
use Rattle.nf_base.specs.declared.packet.Fields.{Fields}
use Rattle.nf_base.specs.declared.share.Share.{Share}
use Rattle.nf_base.specs.declared.state.State.{State}
use Rattle.nf_base.specs.Text.{Function}
use Rattle.nf_base.specs.Shares.{IsShareStop}
use Rattle.packet_feed.specs.Arrivals.{Arrival}
use Rattle.packet_feed.specs.Order.{in_order}
use Rattle.shard_core.specs.declared.collected.Stop.{Stop}
use Rattle.stream_run.specs.Runs.{Run, course_of}
use Rattle.stream_run.specs.Rules.{queue_by}

-- The share stop of a packet behind a run: at the state that the run leaves, some indices of its queue's
-- share bring its handler to a `new` of a chain of which the share has none left.
pub record IsStopBehind (f : Function) (keys : Keys) (workers : ℕ) (r : Run) (stop : Stop) : Type 0 where
  pub queue_is : stop.queue ≡ queue_by keys workers stop.packet
  pub state : State
  pub answers : List Done
  pub ran : course_of r ≡ Some (record { state = state; answers = answers })
  pub fields : Fields
  pub choices : List ℕ
  pub share : Share
  pub share_is : (share.queue ≡ stop.queue) × (share.of ≡ workers)
  pub stops : IsShareStop share f state stop.packet fields choices stop.chain

-- these are the first packets of captures, in capture order, and this one is the next, where all is
-- told
abbrev pub AreBefore : Option (List Arrival) → List Arrival → Packet → Type 0
AreBefore None given packet = Unit {0}
AreBefore (Some all) given packet =
    (next : Arrival) × (later : List Arrival) × (next.packet ≡ packet) × (in_order all ≡ given ++ next ∷ later)
