-- Shards that worked packets have run them as the undivided function does.
use Rattle.std.proofs.Common.{◌≡◌, ◌<◌, ◌%◌, ◌==◌, ℕ, List, [], ◌∷◌, map, Some, refl, ap, sym, ◌∙◌, subst}
use Rattle.std.specs.Bool.{IsTrue}
use Rattle.std.specs.List.{All, AllByRecursion}
use Rattle.std.proofs.lemmas.List.Elements.{All-from_recursion, All-contains}
use Rattle.nf_base.specs.declared.done.Done.{Done}
use Rattle.nf_base.specs.declared.keys.Keys.{Keys}
use Rattle.nf_base.specs.declared.packet.Packet.{Packet}
use Rattle.nf_base.specs.declared.packet.Fields.{Fields}
use Rattle.nf_base.specs.declared.share.Share.{Share}
use Rattle.nf_base.specs.declared.state.State.{State}
use Rattle.nf_base.specs.Text.{Function}
use Rattle.nf_base.specs.Runs.{Handling, RunResult, run}
use Rattle.nf_base.specs.Shares.{IsShareStop}
use Rattle.nf_base.specs.Step.{opening}
use Rattle.nf_base.specs.Hashed.{HasInput}
use Rattle.toeplitz_hash.specs.Meeting.{HashAlikeWhereTheyMeet}
use Rattle.shard_laws.specs.Queues.{Throughout}
use Rattle.shard_laws.specs.Rule.{AreShares, KeepsRule, KeepsToQueue, KeepShareRule}
use Rattle.shard_machine.specs.Machine.{Machine, dones_of, lines_of}
use Rattle.shard_machine.specs.Moments.{IsAtStop}
use Rattle.shard_machine.specs.Laws.{OneQueueWhereTheyMeet}
use Rattle.shard_machine.proofs.Ran.{collected_is_a_run, stops_are}
use Rattle.shard_core.specs.Sharded as shards
use Rattle.shard_core.specs.Sharded.{Sharded}
use Rattle.shard_core.proofs.Keyed.{keys_give}
use Rattle.stream_run.specs.Runs.{Handled}
use Rattle.stream_run.specs.Streaming.{handling_in}
use Rattle.stream_run.specs.Rules.{queue_by, shard_rule, KeepsBy, AreBy}
use Rattle.stream_run.proofs.Stepping.{weaker}
use Rattle.sharded_run.specs.Setups.{setup_of}
use Rattle.sharded_run.specs.Reading.{Rises}
use Rattle.sharded_run.specs.Going.{answer_in, HaveWorked}
use Rattle.sharded_run.proofs.Rising.{never_fall}

lines_are : (hs : List Handled) → lines_of (map answer_in hs) ≡ map handling_in hs
lines_are [] = refl
lines_are (h ∷ hs) = ap (λ (t : List Handling). handling_in h ∷ t) (lines_are hs)

dones_are : (hs : List Handled) → dones_of (map answer_in hs) ≡ map (λ (h : Handled). h.done) hs
dones_are [] = refl
dones_are (h ∷ hs) = ap (λ (t : List Done). h.done ∷ t) (dones_are hs)

-- ---- the rule of shares, by the number of the queue

to_queue : (share : Share) (n q : ℕ) (f : Function) (s : State) (h : Handling) → share.of ≡ n → share.queue ≡ q → KeepsRule share f s h → KeepsToQueue n q f s h
to_queue share n q f s h of queue k = record {
  own = subst (λ (m : ℕ). All (λ i. IsTrue (i % n == m)) h.choices) queue (subst (λ (m : ℕ). All (λ i. IsTrue (i % m == share.queue)) h.choices) of k.own);
  granted = k.granted;
}

within_shares : (f : Function) (keys : Keys) (workers : ℕ) (share : ℕ → Share) (s : State) (hs : List Handling) → AreShares workers share → ((p : Packet) → queue_by keys workers p < workers) → KeepShareRule share (queue_by keys workers) f s hs → Throughout (KeepsBy (shard_rule keys workers) f) f s hs
within_shares f keys workers share s hs shares below t =
    let queue = λ (h : Handling). queue_by keys workers h.packet in
    weaker (λ u h. KeepsRule (share (queue h)) f u h) (KeepsBy (shard_rule keys workers) f) f
    (λ u h k. to_queue (share (queue h)) workers (queue h) f u h (shares.of (queue h) (below h.packet)) (shares.queue (queue h) (below h.packet)) k) s hs t

-- ---- shards

-- shards at a moment, of packets whose times never fall, with their fields within their widths
pub record Stand (f : Function) (keys : Keys) (workers : ℕ) (share : ℕ → Share) (hs : List Handled) (v : Sharded) (at : Machine) : Type 0 where
  pub stands : shards.StandsFor (setup_of f keys workers share) at v
  pub collected : at.collected ≡ map answer_in hs
  pub queues : AllByRecursion (λ (h : Handled). h.worker ≡ queue_by keys workers h.arrival.packet) hs
  pub last : ℕ
  pub rises : Rises 0 at.dispatched last
  pub inputs : AllByRecursion HasInput at.dispatched

pub one_queue : (f : Function) (keys : Keys) (workers : ℕ) (share : ℕ → Share) (sent : List Packet) → HashAlikeWhereTheyMeet f keys → AllByRecursion HasInput sent → OneQueueWhereTheyMeet (setup_of f keys workers share) sent
one_queue f keys workers share sent alike inputs =
    keys_give (setup_of f keys workers share) keys workers sent alike (λ p. refl) (λ p there. All-contains HasInput sent p (All-from_recursion HasInput sent inputs) there)

pub record Ran (f : Function) (keys : Keys) (workers : ℕ) (hs : List Handled) (at : Machine) : Type 0 where
  pub ran : RunResult
  pub is : run f (opening f) (lines_of at.collected) ≡ Some ran
  pub sharded : AreBy (shard_rule keys workers) f hs ran.state

pub ran_of : (f : Function) (keys : Keys) (workers : ℕ) (share : ℕ → Share) (hs : List Handled) (v : Sharded) (at : Machine) → 1 < workers → HashAlikeWhereTheyMeet f keys → Stand f keys workers share hs v at → Ran f keys workers hs at
ran_of f keys workers share hs v at several alike s =
    let x = setup_of f keys workers share in
    let c = collected_is_a_run x at s.stands.setup.is s.stands.holds (never_fall 0 at.dispatched s.last s.rises) (one_queue f keys workers share at.dispatched alike s.inputs) in
    let lines : lines_of at.collected ≡ map handling_in hs = ap lines_of s.collected ∙ lines_are hs in
    let dones : c.ran.answers ≡ map (λ (h : Handled). h.done) hs = c.answers ∙ ap dones_of s.collected ∙ dones_are hs in
    record {
      ran = c.ran;
      is = c.is;
      sharded = record {
        undivided = ap (run f (opening f)) (sym lines) ∙ c.is ∙ ap (λ (ds : List Done). Some (record { state = c.ran.state; answers = ds })) dones;
        own = s.queues;
        kept = within_shares f keys workers share (opening f) (map handling_in hs) s.stands.setup.is.shares s.stands.setup.is.below
            (subst (λ (ls : List Handling). KeepShareRule share (queue_by keys workers) f (opening f) ls) lines (c.rule several));
      };
    }

-- the share stop of shards
pub record Stopped (f : Function) (keys : Keys) (workers : ℕ) (state : State) (packet : Packet) (queue chain : ℕ) : Type 0 where
  pub fields : Fields
  pub choices : List ℕ
  pub share : Share
  pub share_is : (share.queue ≡ queue) × (share.of ≡ workers)
  pub stops : IsShareStop share f state packet fields choices chain

pub stopped_of : (f : Function) (keys : Keys) (workers : ℕ) (share : ℕ → Share) (hs : List Handled) (v : Sharded) (at : Machine) (packet : Packet) (queue chain : ℕ) → 1 < workers → HashAlikeWhereTheyMeet f keys → Stand f keys workers share hs v at → (r : Ran f keys workers hs at)
    → IsAtStop (setup_of f keys workers share) at packet chain → queue ≡ queue_by keys workers packet → Stopped f keys workers r.ran.state packet queue chain
stopped_of f keys workers share hs v at packet queue chain several alike s r stop e =
    let x = setup_of f keys workers share in
    let t = stops_are x at packet chain r.ran several s.stands.setup.is s.stands.holds (never_fall 0 at.dispatched s.last s.rises) (one_queue f keys workers share at.dispatched alike s.inputs) stop r.is in
    record {
      fields = t.0;
      choices = t.1;
      share = share (queue_by keys workers packet);
      share_is = (s.stands.setup.is.shares.queue (queue_by keys workers packet) (s.stands.setup.is.below packet) ∙ sym e, s.stands.setup.is.shares.of (queue_by keys workers packet) (s.stands.setup.is.below packet));
      stops = t.2;
    }

pub worked_stand : (f : Function) (keys : Keys) (workers : ℕ) (hs : List Handled) (v : Sharded) → (h : HaveWorked f keys workers hs v) → Stand f keys workers h.share hs v h.at
worked_stand f keys workers hs v h = record { stands = h.stands; collected = h.collected; queues = h.queues; last = h.last; rises = h.rises; inputs = h.inputs }
