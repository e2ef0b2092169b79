-- Turns that are their worker's own, and shares of which no index is left.
use Rattle.std.proofs.Common.{◌≡◌, ◌<◌, ◌%◌, ◌==◌, ℕ, List, [], ◌∷◌, map, Option, Some, None, refl, sym, ◌∙◌, subst}
use Rattle.std.specs.Bool.{IsTrue}
use Rattle.std.specs.List.{AllByRecursion}
use Rattle.std.proofs.lemmas.Bool.{eqb-true}
use Rattle.std.proofs.lemmas.List.Elements.{All-from_recursion, All-weaker}
use Rattle.nf_base.specs.declared.keys.Keys.{Keys}
use Rattle.nf_base.specs.declared.state.State.{State}
use Rattle.nf_base.specs.Doors.{handler_at}
use Rattle.nf_base.specs.Families.{door_of}
use Rattle.nf_base.specs.Text.{Function, Block}
use Rattle.nf_base.specs.Operations.{never}
use Rattle.nf_base.specs.Course.{StoppedAt}
use Rattle.nf_base.specs.Runs.{RunResult, run}
use Rattle.nf_base.specs.Shares.{share_stops}
use Rattle.nf_base.specs.Step.{completes, opening}
use Rattle.nf_laws.proofs.Parted.{begins}
use Rattle.nf_laws.proofs.Stopping.{shares_stop}
use Rattle.nf_base.specs.Step.{input, start_context}
use Rattle.shard_laws.specs.Queues.{Throughout}
use Rattle.shard_core.specs.declared.collected.Stop.{Stop}
use Rattle.stream_run.specs.Runs.{Run, Turn, handling_of}
use Rattle.stream_run.specs.Rules.{queue_by, shard_rule, KeepsBy}
use Rattle.sharded_run.specs.Sharded.{IsStopBehind}
use Rattle.sharded_run.specs.Laws.{IsOwnTurn, TurnsAreOwn, StopsWhereNoneIsLeft, SharesAreFull}
use Rattle.sharded_run.proofs.Begun.{queue_below}

own_turns : (f : Function) (keys : Keys) (workers : ℕ) (s : State) (ts : List Turn) (r : RunResult) → 0 < workers → run f s (map handling_of ts) ≡ Some r → AllByRecursion (λ (t : Turn). t.worker ≡ queue_by keys workers t.arrival.packet) ts
    → Throughout (KeepsBy (shard_rule keys workers) f) f s (map handling_of ts) → AllByRecursion (IsOwnTurn workers) ts
own_turns f keys workers s [] r lt e at kept = tt
own_turns f keys workers s (t ∷ ts) r lt e at kept =
    let w = begins never f s (handling_of t) (map handling_of ts) r e in
    let q = queue_by keys workers t.arrival.packet in (
      record {
        below = subst (λ (n : ℕ). n < workers) (sym at.0) (queue_below keys workers t.arrival.packet lt);
        own = All-weaker (λ i. IsTrue (i % workers == q)) (λ i. i % workers ≡ t.worker) (λ i h. eqb-true (i % workers) q h ∙ sym at.0) t.choices kept.0.own;
      },
      own_turns f keys workers w.next.state ts w.rest lt w.ran at.1 (kept.1 w.next w.stepped),
    )

pub turns_own : TurnsAreOwn
turns_own f keys workers card given r lt h =
    All-from_recursion (IsOwnTurn workers) r.turns
    (own_turns f keys workers (opening f) r.turns h.legal.result lt (subst (λ (g : Function). run g (opening g) (map handling_of r.turns) ≡ Some h.legal.result) h.function h.legal.ran) h.own h.kept)

full_at : (f : Function) (keys : Keys) (workers : ℕ) (r : Run) (stop : Stop) (s : IsStopBehind f keys workers r stop) (o : Option Block) → handler_at f (door_of stop.packet.id.port s.fields) ≡ o
    → completes (share_stops s.share) f s.state stop.packet.time s.fields s.choices o ≡ StoppedAt stop.chain [] → StopsWhereNoneIsLeft f keys workers r stop s
full_at f keys workers r stop s None at e = absurd cc
full_at f keys workers r stop s (Some block) at e = record {
  block = block;
  handler = at;
  stops = shares_stop s.share (input f stop.packet.time s.fields) block (start_context f s.state stop.packet.time s.choices) stop.chain [] e;
}

pub shares_full : SharesAreFull
shares_full f keys workers r stop s = full_at f keys workers r stop s (handler_at f (door_of stop.packet.id.port s.fields)) refl s.stops.stops
