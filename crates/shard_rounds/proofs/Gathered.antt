-- Answers collected one after another.
use Rattle.std.proofs.Common.{◌≡◌, zero, suc, List, [], ◌∷◌, ◌++◌, length, map, replicate, All, Some, None, refl, ap, sym, subst, arith}
use Rattle.std.proofs.lemmas.List.Elements.{All-append}
use Rattle.shard_machine.specs.declared.event.Answer.{Answer}
use Rattle.shard_machine.specs.declared.event.Event.{Event}
use Rattle.shard_machine.specs.declared.event.Event.TheVariants.{Collect}
use Rattle.shard_machine.specs.Machine.{Setup, Machine}
use Rattle.shard_machine.specs.Events.{Plays, IsNext, collected}
use Rattle.shard_machine.specs.Events as event
use Rattle.shard_machine.proofs.Sent.{map_append}
use Rattle.shard_core.specs.declared.collected.Collected.{Collected}
use Rattle.shard_core.specs.Sharded.{Sharded, StandsFor, Collects, answer_of}
use Rattle.shard_core.proofs.Played.{plays_append}
use Rattle.shard_rounds.specs.Rounds.{Collecting, CollectedAll}

pub none_yet : (x : Setup) (m : Machine) (v : Sharded) → StandsFor x m v → Collecting x m [] v
none_yet x m v h = record { machine = m; plays = event.ends m; queues = λ k d lt. absurd (omega (arith, lt)); workers = refl; stands = h }

one_all : (x : Setup) (c : Collected) → c.queue ≡ x.queue c.packet → All (λ (d : Collected). d.queue ≡ x.queue d.packet) (c ∷ [])
one_all x c e zero d lt = e
one_all x c e (suc k) d lt = absurd (omega (arith, lt))

longer : (e : Event) (got : List Collected) (c : Collected) → replicate (length got) e ++ e ∷ [] ≡ replicate (length (got ++ c ∷ [])) e
longer e [] c = refl
longer e (g ∷ got) c = ap (λ (es : List Event). e ∷ es) (longer e got c)

pub one_more : (x : Setup) (m : Machine) (got : List Collected) (c : Collected) (old new : Sharded) → Collecting x m got old → ((n : Machine) → StandsFor x n old → Collects x n (Some c) new) → Collecting x m (got ++ c ∷ []) new
one_more x m got c old new p go =
    let one = go p.machine p.stands in
    let n = collected (answer_of c) p.machine in
    let last : Plays x (Collect ∷ []) p.machine n (answer_of c ∷ []) = event.collects (answer_of c) [] p.machine n [] one.0 (event.ends n) in
    record {
      machine = n;
      plays = subst (λ (es : List Event). Plays x es m n (map answer_of (got ++ c ∷ []))) (longer Collect got c)
          (subst (λ (as_ : List Answer). Plays x (replicate (length got) Collect ++ Collect ∷ []) m n as_) (sym (map_append answer_of got (c ∷ [])))
          (plays_append x (replicate (length got) Collect) (Collect ∷ []) m p.machine n (map answer_of got) (answer_of c ∷ []) p.plays last));
      queues = All-append (λ (d : Collected). d.queue ≡ x.queue d.packet) got (c ∷ []) p.queues (one_all x c one.1);
      workers = p.workers;
      stands = one.2;
    }

pub none_more : (x : Setup) (m : Machine) (got : List Collected) (old new : Sharded) → Collecting x m got old → ((n : Machine) → StandsFor x n old → Collects x n None new) → CollectedAll x m got new
none_more x m got old new p go =
    let end = go p.machine p.stands in
    record {
      so_far = record { machine = p.machine; plays = p.plays; queues = p.queues; workers = p.workers; stands = end.1 };
      none = end.0;
    }
