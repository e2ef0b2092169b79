-- What a worker stands for, call by call.
use Rattle.std.proofs.Common.{◌≡◌, ℕ, List, [], ◌∷◌, ◌++◌, Option, Some, None, refl, ap, sym, ◌∙◌, subst}
use Rattle.nf_base.specs.declared.state.State.{State}
use Rattle.nf_base.specs.Text.{Function}
use Rattle.nf_base.specs.Shares.{share_stops, IsShareStop}
use Rattle.nf_base.specs.Step.{step_by}
use Rattle.shard_machine.specs.declared.event.Answer.{Answer}
use Rattle.shard_machine.specs.declared.event.Worked.{Worked}
use Rattle.shard_machine.specs.declared.event.Worked.TheVariants as worked
use Rattle.shard_machine.specs.Machine.{Worker}
use Rattle.shard_machine.specs.Events.{Works}
use Rattle.shard_machine.specs.Events as event
use Rattle.shard_machine.proofs.Sent.{append_twice}
use Rattle.shard_core.specs.Held.{Held, SameButRoom, StandsFor, WorksNext, StopsNext, Stops, HeldWorks, WorksOn}

pub same_stands : (old new : Held) (worker : Worker) (taken : List Answer) → SameButRoom old new → StandsFor old worker taken → StandsFor new worker taken
same_stands old new worker taken s h = record {
  worked = h.worked ∙ ap (λ zs. taken ++ zs) (sym s.answers);
  waiting = h.waiting ∙ sym s.waiting;
  stopped = h.stopped ∙ sym s.stopped;
  state = λ e. h.state (sym s.stopped ∙ e) ∙ ap (λ t. t.state) (sym s.tables);
}

next_works : (f : Function) (old new : Held) (worker : Worker) (taken : List Answer) → StandsFor old worker taken → WorksNext f old new → WorksOn f worked.Done old.tables.share worker new taken
next_works f old new worker taken h n =
    let a : Answer = record { packet = n.packet; done = n.done } in
    record {
      next = record { worked = worker.worked ++ a ∷ []; waiting = new.waiting; state = new.tables.state; stopped = None };
      works = event.works worker n.packet new.waiting n.done new.tables.state (h.stopped ∙ n.running) (h.waiting ∙ n.waited) n.own
          (ap (λ (s : State). step_by (share_stops old.tables.share) f s n.packet n.done.picks) (h.state n.running) ∙ n.stepped);
      stands = record {
        worked = ap (λ zs. zs ++ a ∷ []) h.worked ∙ append_twice taken old.answers (a ∷ []) ∙ ap (λ zs. taken ++ zs) (sym n.answered);
        waiting = refl;
        stopped = sym n.runs;
        state = λ e. refl;
      };
    }

next_stops : (f : Function) (old new : Held) (worker : Worker) (taken : List Answer) → StandsFor old worker taken → StopsNext f old new → WorksOn f worked.Stopped old.tables.share worker new taken
next_stops f old new worker taken h n = record {
  next = record worker { stopped = Some n.chain };
  works = event.stops worker n.packet n.later n.stop.fields n.stop.choices n.chain (h.stopped ∙ n.running) (h.waiting ∙ n.waited)
      (subst (λ (s : State). IsShareStop old.tables.share f s n.packet n.stop.fields n.stop.choices n.chain) (sym (h.state n.running)) n.stop.stop);
  stands = record {
    worked = h.worked ∙ ap (λ zs. taken ++ zs) (sym n.answers);
    waiting = h.waiting ∙ sym n.waiting;
    stopped = sym n.stopped;
    state = λ e. let q : Some n.chain ≡ None = sym n.stopped ∙ e in cc;
  };
}

stops_on : (f : Function) (o : Option ℕ) (old new : Held) (worker : Worker) (taken : List Answer) → old.stopped ≡ o → StandsFor old worker taken → Stops f o old new → WorksOn f worked.Stopped old.tables.share worker new taken
stops_on f None old new worker taken e h n = next_stops f old new worker taken h n
stops_on f (Some chain) old new worker taken e h n = record { next = worker; works = event.stays worker chain (h.stopped ∙ e); stands = same_stands old new worker taken n h }

pub works_on : (f : Function) (came : Worked) (old new : Held) (worker : Worker) (taken : List Answer) → StandsFor old worker taken → HeldWorks f came old new → WorksOn f came old.tables.share worker new taken
works_on f worked.Done old new worker taken h n = next_works f old new worker taken h n
works_on f worked.Idle old new worker taken h n = record { next = worker; works = event.idles worker (h.stopped ∙ n.0) (h.waiting ∙ n.1); stands = same_stands old new worker taken n.2 h }
works_on f worked.Stopped old new worker taken h n = stops_on f old.stopped old new worker taken refl h n
