-- Events played one after another.
use Rattle.std.proofs.Common.{◌≡◌, ◌<◌, ◌≤◌, ◌+◌, get_or, ℕ, zero, suc, List, [], ◌∷◌, ◌++◌, length, map, take, All, Option, Some, None, Result, Ok, Err, refl, ap, sym, ◌∙◌, subst, arith}
use Rattle.std.specs.Result.{OnOk, OnErr}
use Rattle.std.specs.Option.{option_to_list}
use Rattle.std.proofs.Math.Seq.{take-suc}
use Rattle.std.proofs.lemmas.List.{length-set}
use Rattle.std.proofs.lemmas.List.Elements.{All-append}
use Rattle.nf_base.specs.declared.packet.Packet.{Packet}
use Rattle.shard_machine.specs.declared.event.Answer.{Answer}
use Rattle.shard_machine.specs.declared.event.Event.{Event}
use Rattle.shard_machine.specs.declared.event.Event.TheVariants.{Dispatch, Work, Collect}
use Rattle.shard_machine.specs.declared.event.Worked.{Worked}
use Rattle.shard_machine.specs.Machine.{Setup, Machine}
use Rattle.shard_machine.specs.Events as event
use Rattle.shard_machine.specs.Events.{Plays, dispatched}
use Rattle.shard_machine.proofs.Sent.{map_append}
use Rattle.shard_core.specs.declared.collected.Collected.{Collected}
use Rattle.shard_core.specs.Held.{Held}
use Rattle.shard_core.specs.Sharded.{Sharded, IsWhole, StandsFor, OneChanged, GivenTo, WorkedAt, WorksAt, Takes, Collects, SameButRooms, answer_of}
use Rattle.shard_core.specs.Plays.{Played, PlayedFront, SameSize}
use Rattle.shard_core.proofs.Giving.{on_both}

pub plays_append : (x : Setup) (es fs : List Event) (m n k : Machine) (got more : List Answer) → Plays x es m n got → Plays x fs n k more → Plays x (es ++ fs) m k (got ++ more)
plays_append x es fs m n k got more (event.ends j) q = q
plays_append x es fs m n k got more (event.dispatches p rest a b c go) q = event.dispatches p (rest ++ fs) m k (got ++ more) (plays_append x rest fs (dispatched x p m) n k got more go q)
plays_append x es fs m n k got more (event.works w came worker rest a b c lt one go) q = event.works w came worker (rest ++ fs) m k (got ++ more) lt one (plays_append x rest fs (event.with_worker w worker m) n k got more go q)
plays_append x es fs m n k got more (event.collects a rest b c d next go) q = event.collects a (rest ++ fs) m k (d ++ more) next (plays_append x rest fs (event.collected a m) n k d more go q)
plays_append x es fs m n k got more (event.waits rest a b c none go) q = event.waits (rest ++ fs) m k (got ++ more) none (plays_append x rest fs m n k got more go q)

pub played_none : (x : Setup) (m : Machine) (v : Sharded) → StandsFor x m v → Played x m [] [] v
played_none x m v h = record { machine = m; plays = event.ends m; queues = λ k d lt. absurd (omega (arith, lt)); stands = h }

pub played_more : (x : Setup) (m : Machine) (es : List Event) (e : Event) (got more : List Collected) (old new : Sharded) → Played x m es got old → ((n : Machine) → StandsFor x n old → Played x n (e ∷ []) more new) → Played x m (es ++ e ∷ []) (got ++ more) new
played_more x m es e got more old new p go =
    let one = go p.machine p.stands in
    record {
      machine = one.machine;
      plays = subst (λ (as_ : List Answer). Plays x (es ++ e ∷ []) m one.machine as_) (sym (map_append answer_of got more)) (plays_append x es (e ∷ []) m p.machine one.machine (map answer_of got) (map answer_of more) p.plays one.plays);
      queues = All-append (λ (c : Collected). c.queue ≡ x.queue c.packet) got more p.queues one.queues;
      stands = one.stands;
    }

-- single events
pub one_dispatched : (x : Setup) (m : Machine) (p : Packet) (new : Sharded) → StandsFor x (dispatched x p m) new → Played x m (Dispatch p ∷ []) [] new
one_dispatched x m p new h = record { machine = dispatched x p m; plays = event.dispatches p [] m (dispatched x p m) [] (event.ends (dispatched x p m)); queues = λ k d lt. absurd (omega (arith, lt)); stands = h }

pub one_worked : (x : Setup) (m : Machine) (w : ℕ) (came : Worked) (old new : Sharded) → StandsFor x m old → w < length old.workers → WorksAt x m w came new → Played x m (Work w ∷ []) [] new
one_worked x m w came old new h lt n =
    let count = h.setup.workers in
    let whole = h.whole in
    record {
      machine = event.with_worker w n.next m;
      plays = event.works w came n.next [] m (event.with_worker w n.next m) [] (omega (arith, lt, count, whole)) n.works (event.ends (event.with_worker w n.next m));
      queues = λ k d l. absurd (omega (arith, l));
      stands = n.stands;
    }

one_all : (x : Setup) (c : Collected) → c.queue ≡ x.queue c.packet → All (λ (d : Collected). d.queue ≡ x.queue d.packet) (c ∷ [])
one_all x c e zero d lt = e
one_all x c e (suc k) d lt = absurd (omega (arith, lt))

pub one_collected : (x : Setup) (m : Machine) (got : Option Collected) (new : Sharded) → Collects x m got new → Played x m (Collect ∷ []) (option_to_list got) new
one_collected x m None new n = record { machine = m; plays = event.waits [] m m [] n.0 (event.ends m); queues = λ k d lt. absurd (omega (arith, lt)); stands = n.1 }
one_collected x m (Some c) new n = record {
  machine = event.collected (answer_of c) m;
  plays = event.collects (answer_of c) [] m (event.collected (answer_of c) m) [] n.0 (event.ends (event.collected (answer_of c) m));
  queues = one_all x c n.1;
  stands = n.2;
}

-- the size stays
changed_size : (w : ℕ) (old new : Sharded) (before after : Held) → OneChanged w old new before after → SameSize old new
changed_size w old new before after c = record { func = c.func; count = c.count; long = ap length c.workers ∙ length-set old.workers w after }

pub rooms_size : (old new : Sharded) → SameButRooms old new → SameSize old new
rooms_size old new s = record { func = s.func; count = s.count; long = s.long }

pub given_size : {T E : Type 0} (r : Result T E) (p : Packet) (old new : Sharded) → OnOk r (GivenTo p old new) → OnErr r (SameButRooms old new) → SameSize old new
given_size r p old new given err = on_both r (GivenTo p old new) (SameButRooms old new) (SameSize old new) given err (λ n. changed_size _ old new n.before n.after n.changed) (rooms_size old new)

pub worked_size : (w : ℕ) (came : Worked) (old new : Sharded) → WorkedAt w came old new → SameSize old new
worked_size w came old new n = changed_size w old new n.before n.after n.changed

pub taken_size : (got : Option Collected) (old new : Sharded) → Takes got old new → SameSize old new
taken_size None old new n = rooms_size old new n.1
taken_size (Some c) old new n = changed_size c.queue old new n.before n.after n.changed

-- the same events, where what comes after stands for what stood before
pub played_stays : (x : Setup) (m : Machine) (es : List Event) (got : List Collected) (old new : Sharded) → Played x m es got old → ((n : Machine) → StandsFor x n old → StandsFor x n new) → Played x m es got new
played_stays x m es got old new p go = record { machine = p.machine; plays = p.plays; queues = p.queues; stands = go p.machine p.stands }

-- the first events, and the next one
pub played_next : (x : Setup) (m : Machine) (all : List Event) (i : ℕ) (e : Event) (got more kept : List Collected) (old new : Sharded) → i < length all → e ≡ get_or all i e → kept ≡ got ++ more → Played x m (take i all) got old → ((n : Machine) → StandsFor x n old → Played x n (e ∷ []) more new) → Played x m (take (i + 1) all) kept new
played_next x m all i e got more kept old new lt at is p go =
    let one : take (i + 1) all ≡ take i all ++ e ∷ [] = ap (λ (k : ℕ). take k all) (plus_one i) ∙ take-suc all i e lt ∙ ap (λ (z : Event). take i all ++ z ∷ []) (sym at) in
    subst (λ (es : List Event). Played x m es kept new) (sym one) (subst (λ (cs : List Collected). Played x m (take i all ++ e ∷ []) cs new) (sym is) (played_more x m (take i all) e got more old new p go))
  where
    plus_one : (i : ℕ) → i + 1 ≡ suc i
    plus_one i = omega arith

take_all : {A : Type 0} (xs : List A) (n : ℕ) → length xs ≤ n → take n xs ≡ xs
take_all [] zero le = refl
take_all [] (suc n) le = refl
take_all (x ∷ xs) zero le = absurd (omega (arith, le))
take_all (x ∷ xs) (suc n) le = ap (λ zs. x ∷ zs) (take_all xs n (omega (arith, le)))

pub played_all : (x : Setup) (m : Machine) (all : List Event) (i : ℕ) (got : List Collected) (v : Sharded) → length all ≤ i → Played x m (take i all) got v → Played x m all got v
played_all x m all i got v le p = subst (λ (es : List Event). Played x m es got v) (take_all all i le) p

-- all workers are there as before
pub still_whole : (old new : Sharded) → SameSize old new → IsWhole old → IsWhole new
still_whole old new s whole = s.long ∙ whole ∙ sym s.count

pub sizes_more : (old mid new : Sharded) → SameSize old mid → SameSize mid new → SameSize old new
sizes_more old mid new a b = record { func = b.func ∙ a.func; count = b.count ∙ a.count; long = b.long ∙ a.long }

-- where nothing was played yet
pub any_err : {T E : Type 0} (r : Result T E) (P : Type 0) → P → OnErr r P
any_err (Ok t) P p = tt
any_err (Err e) P p = p

some_events : (n : ℕ) → (n ≡ 0 → ⊥) → 0 < n
some_events zero ne = absurd (ne refl)
some_events (suc n) ne = omega arith

pub none_played : (x : Setup) (m : Machine) (events : List Event) (v : Sharded) → (length events ≡ 0 → ⊥) → StandsFor x m v → PlayedFront x m events v
none_played x m events v some h = record { count = 0; before = some_events (length events) some; got = []; played = played_none x m v h }
