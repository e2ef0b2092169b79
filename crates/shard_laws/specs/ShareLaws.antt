-- What the laws say of shares.
use Rattle.std.specs.Prelude.{◌≡◌, ◌↔◌, ◌<◌, ◌≤◌, ℕ, List, [], ◌∷◌, ◌++◌, Some, slice_get}
use Rattle.nf_base.specs.Doors.{handler_at}
use Rattle.nf_base.specs.Families.{door_of}
use Rattle.nf_base.specs.declared.packet.Packet.{Packet}
use Rattle.nf_base.specs.declared.packet.Fields.{Fields}
use Rattle.nf_base.specs.declared.share.Share.{Share}
use Rattle.nf_base.specs.declared.state.State.{State}
use Rattle.nf_base.specs.Text.{Function}
use Rattle.nf_base.specs.Course.{StoppedAt}
use Rattle.nf_base.specs.Locations.{Numbers, locations}
use Rattle.nf_base.specs.Operations.{Stops, never}
use Rattle.nf_base.specs.Runs.{Handling, RunResult, run_by, run}
use Rattle.nf_base.specs.Shares.{share_stops, IsShareStop}
use Rattle.nf_base.specs.Step.{completes, record_of, opening}
use Rattle.shard_laws.specs.Homes.{Homes, AllTold, AllAt, AllOwn, KnowsWritten}
use Rattle.shard_laws.specs.Laws.{Composes, Recomposes}
use Rattle.shard_laws.specs.Parts.{Whole, Part, HaltsOwn}
use Rattle.shard_laws.specs.Queues.{last_time, NeverFall, of_queue, MeetAtOneQueue}
use Rattle.shard_laws.specs.Rule.{owner_of, AreShares, TakeOfShare, KeepShareRule}

-- a share stops only where no index that its queue owns is vacant
abbrev pub SharesHaltOwn : Type 0
SharesHaltOwn = (share : Share) → HaltsOwn (owner_of share.of) share.queue (share_stops share)

-- a run that stops somewhere is, as far as it has a meaning, the run that stops nowhere
abbrev pub RunsByStopsAreRuns : Type 0
RunsByStopsAreRuns =
    (stops : Stops) (f : Function) (s : State) (hs : List Handling) (r : RunResult) →
    run_by stops f s hs ≡ Some r → run f s hs ≡ Some r

-- where a handler goes, at a state, with these stops and choices, to a `new` of a chain that stops
abbrev pub StopsAt : Stops → Function → State → Packet → Fields → List ℕ → ℕ → List ℕ → Type 0
StopsAt stops f s packet fields choices chain left =
    completes stops f s packet.time fields choices (handler_at f (door_of packet.id.port fields))
    ≡ StoppedAt chain left

-- A share's handler stops on its queue's part exactly where it stops on the whole state, at the
-- same chain, with the same choices left: where what the packet touches is at home there.
abbrev pub StopsAreUndivided : Type 0
StopsAreUndivided =
    (h : Homes) (share : Share) (bucket : ℕ) (opened : ℕ → ℕ → ℕ) (f : Function) (time : ℕ)
    (ns : Numbers) (s part : State) (packet : Packet) (fields : Fields) (choices : List ℕ)
    (chain : ℕ) (left : List ℕ) →
    1 < share.of → h.owner ≡ owner_of share.of → h.at bucket ≡ share.queue → KnowsWritten h f →
    Whole h opened f.chains time ns s → Part h opened f.chains time share.queue s part →
    time ≤ packet.time →
    AllAt h bucket (locations f.chains ns (record_of never f s packet choices (Some fields))) →
    AllTold h ns (record_of never f s packet choices (Some fields)) →
    AllOwn h.owner share.queue choices →
    StopsAt (share_stops share) f part packet fields choices chain left
    ↔ StopsAt (share_stops share) f s packet fields choices chain left

-- The commutation law for shares: where lines keep the share rule and any two packets that meet
-- have one queue, each queue's run, by its share, gives each of its packets its answer, and the
-- last states make up the last state of all.
pub record SharesCompose (share : ℕ → Share) (queue : Packet → ℕ) (f : Function) (n : ℕ)
    (hs : List Handling) (r : RunResult) : Type 0 where
  pub composes : Composes (owner_of n) queue f n hs r
  pub by_share : (w : ℕ) → w < n →
      run_by (share_stops (share w)) f (opening f) (of_queue queue w hs)
      ≡ Some (composes.runs w)

-- so it is of each run
abbrev pub MeetingSharesCompose : Type 0
MeetingSharesCompose =
    (share : ℕ → Share) (queue : Packet → ℕ) (f : Function) (n : ℕ) (hs : List Handling)
    (r : RunResult) →
    0 < n → AreShares n share → ((p : Packet) → queue p < n) → MeetAtOneQueue queue f hs →
    NeverFall 0 hs → KeepShareRule share queue f (opening f) hs → run f (opening f) hs ≡ Some r →
    SharesCompose share queue f n hs r

-- All packets have a run with the answers of the queues' runs, its last state is the union of
-- theirs, and its lines keep the share rule.
pub record SharesRecompose (share : ℕ → Share) (queue : Packet → ℕ) (f : Function) (n : ℕ)
    (hs : List Handling) (runs : ℕ → RunResult) : Type 0 where
  pub recomposes : Recomposes (owner_of n) queue f n hs runs
  pub rule : 1 < n → KeepShareRule share queue f (opening f) hs

-- The other way: where each queue has a run by its share, and each packet's choices are of its
-- queue's share.
abbrev pub MeetingSharesRecompose : Type 0
MeetingSharesRecompose =
    (share : ℕ → Share) (queue : Packet → ℕ) (f : Function) (n : ℕ) (hs : List Handling)
    (runs : ℕ → RunResult) →
    0 < n → AreShares n share → ((p : Packet) → queue p < n) → MeetAtOneQueue queue f hs →
    NeverFall 0 hs → TakeOfShare share queue hs →
    ((w : ℕ) → run_by (share_stops (share w)) f (opening f) (of_queue queue w hs) ≡ Some (runs w)) →
    SharesRecompose share queue f n hs runs

-- The share stop of a packet behind a run: where its queue has come to a state by its share, the
-- packet stops the share there exactly where it stops it at the last state of all packets before.
abbrev pub MeetingStopsAreUndivided : Type 0
MeetingStopsAreUndivided =
    (share : ℕ → Share) (queue : Packet → ℕ) (f : Function) (n : ℕ) (hs : List Handling)
    (runs : ℕ → RunResult) (r : RunResult) (packet : Packet) (fields : Fields) (choices : List ℕ)
    (chain : ℕ) →
    1 < n → AreShares n share → ((p : Packet) → queue p < n) →
    MeetAtOneQueue queue f (hs ++ record { packet = packet; choices = choices } ∷ []) →
    NeverFall 0 hs → last_time 0 hs ≤ packet.time → TakeOfShare share queue hs →
    ((w : ℕ) → run_by (share_stops (share w)) f (opening f) (of_queue queue w hs) ≡ Some (runs w)) →
    run f (opening f) hs ≡ Some r →
    IsShareStop (share (queue packet)) f (runs (queue packet)).state packet fields choices chain
    ↔ IsShareStop (share (queue packet)) f r.state packet fields choices chain
