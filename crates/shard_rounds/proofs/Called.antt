-- What the workers do, each for itself and all together.
use Rattle.std.proofs.Common.{◌≡◌, ◌<◌, ◌≤◌, ◌+◌, ℕ, zero, suc, true, false, List, [], ◌∷◌, ◌++◌, length, take, replicate, Option, Some, None, slice_get, slice_index_or, refl, ap, sym, ◌∙◌, subst, arith}
use Rattle.std.proofs.lemmas.Option.{slice_get_within}
use Rattle.nf_base.specs.declared.packet.Packet.{Packet}
use Rattle.nf_base.specs.Doors.{IsServed}
use Rattle.nf_base.specs.Text.{Function}
use Rattle.nf_base.specs.Functions.{function_of}
use Rattle.nf_base.specs.declared.func.Func.{Func}
use Rattle.nf_base.specs.declared.packet.PacketId.{PacketId}
use Rattle.nf_engine.specs.View.{Fixed, fixed_of}
use Rattle.shard_machine.specs.declared.event.Event.{Event}
use Rattle.shard_machine.specs.declared.event.Event.TheVariants.{Work}
use Rattle.shard_machine.specs.declared.event.Worked.{Worked}
use Rattle.shard_machine.specs.declared.event.Worked.TheVariants as result
use Rattle.shard_machine.specs.Machine.{Setup, Machine}
use Rattle.shard_machine.specs.Events.{Plays}
use Rattle.shard_core.specs.Apart.{AreWorked, works_from, WorkedBack}
use Rattle.shard_core.specs.Held as one
use Rattle.shard_core.specs.Held.{Held, first_id, Stops, HeldWorks, WorksOnce, WorkedTimes}
use Rattle.shard_core.specs.Sharded.{Sharded, StandsFor, AreWorkersOf}
use Rattle.shard_core.proofs.Changing.{works_waiting}
use Rattle.shard_rounds.specs.Workings.{CanWork, AreWorkers, WentOn, WorkedThrough, AllWorkedThrough, WorkedAll}

-- a worker that has stopped stays as it is, however often it is called
stays : (f : Function) (held : Held) (stopped : Option ℕ) (chain : ℕ) → held.stopped ≡ stopped → stopped ≡ Some chain → Stops f stopped held held
stays f held None chain e g = cc
stays f held (Some k) chain e g = record { tables = refl; waiting = refl; answers = refl; stopped = refl }

stays_once : (f : Function) (held : Held) (chain : ℕ) → held.stopped ≡ Some chain → WorksOnce f result.Stopped held held
stays_once f held chain e = record { works = stays f held held.stopped chain refl e; fixed = refl; room = omega arith }

more_times : (f : Function) (first held : Held) (n k chain : ℕ) → held.stopped ≡ Some chain → WorkedTimes f first n held → WorkedTimes f first (n + k) held
more_times f first held n zero chain e times = subst (λ (j : ℕ). WorkedTimes f first j held) (plus_none n) times
  where
    plus_none : (n : ℕ) → n ≡ n + 0
    plus_none n = omega arith
more_times f first held n (suc k) chain e times =
    subst (λ (j : ℕ). WorkedTimes f first j held) (plus_one n k) (one.goes_on (n + k) result.Stopped held held (more_times f first held n k chain e times) (stays_once f held chain e))
  where
    plus_one : (n k : ℕ) → suc (n + k) ≡ n + suc k
    plus_one n k = omega arith

-- a worker that stops at a packet has worked through
pub stops_through : (f : Function) (first before held : Held) (n chain : ℕ) → n + length before.waiting ≡ length first.waiting → 0 < length before.waiting → held.stopped ≡ Some chain → WorkedTimes f first (suc n) held → WorkedThrough f first held
stops_through f first before held n chain long some stopped times =
    let k = less (length before.waiting) some in
    let all : suc n + k.0 ≡ length first.waiting = (let e = k.1 in omega (arith, e, long)) in
    record {
      times = subst (λ (j : ℕ). WorkedTimes f first j held) all (more_times f first held (suc n) k.0 chain stopped times);
      done = λ none. let bad : Some chain ≡ None = sym stopped ∙ none in cc;
    }
  where
    less : (n : ℕ) → 0 < n → (k : ℕ) × (n ≡ suc k)
    less zero lt = absurd (omega (arith, lt))
    less (suc k) lt = (k, refl)

-- one that has no packet left, too
pub none_left : (f : Function) (first held : Held) (n : ℕ) → n + length held.waiting ≡ length first.waiting → held.waiting ≡ [] → WorkedTimes f first n held → WorkedThrough f first held
none_left f first held n long none times =
    let e : length held.waiting ≡ 0 = ap length none in
    let all : n ≡ length first.waiting = omega (arith, e, long) in
    record { times = subst (λ (j : ℕ). WorkedTimes f first j held) all times; done = λ s. none }

-- the packets that waited for a worker
abbrev waiting_of : Option Held → ℕ
waiting_of None = 0
waiting_of (Some held) = length held.waiting

some_worker : (ws : List Held) (w : ℕ) → w < length ws → (held : Held) × (slice_get ws w ≡ Some held)
some_worker [] w lt = absurd (omega (arith, lt))
some_worker (h ∷ ws) zero lt = (h, refl)
some_worker (h ∷ ws) (suc w) lt = some_worker ws w (omega (arith, lt))

-- so often each worker was called
abbrev pub calls : List Held → ℕ → ℕ
calls before w = waiting_of (slice_get before w)

calls_at : (before : List Held) (w : ℕ) (held : Held) → slice_get before w ≡ Some held → calls before w ≡ length held.waiting
calls_at before w held at = ap waiting_of at

pub are_worked : (f : Function) (before after : List Held) → AllWorkedThrough f before after → AreWorked f (calls before) before after
are_worked f before after all = record {
  count = all.count;
  each = λ w old new was is. subst (λ (n : ℕ). WorkedTimes f old n new) (sym (calls_at before w old was)) (all.each w old new was is).times;
}

-- works by equal counts
pub works_same : (c d : ℕ → ℕ) (w n : ℕ) → ((i : ℕ) → i < w + n → c i ≡ d i) → works_from c w n ≡ works_from d w n
works_same c d w zero e = refl
works_same c d w (suc n) e =
    ap (λ (k : ℕ). replicate k (Work w) ++ works_from c (suc w) n) (e w (omega arith))
    ∙ ap (λ (es : List Event). replicate (d w) (Work w) ++ es) (works_same c d (suc w) n (λ i lt. e i (omega (arith, lt))))

-- all together
pub worked_all : (x : Setup) (m : Machine) (old new : Sharded) (before after : List Held) → old.workers ≡ before → new.workers ≡ after → StandsFor x m old → AllWorkedThrough (function_of old.func) before after → WorkedBack x m (calls before) new → WorkedAll x m new
worked_all x m old new before after was is h all back =
    let whole : length old.workers ≡ old.count = h.whole in
    let many : x.workers ≡ old.count = h.setup.workers in
    let same : length before ≡ length old.workers = ap length (sym was) in
    let size : length new.workers ≡ length before = ap length is ∙ all.count in
    let long : length new.workers ≡ x.workers = size ∙ same ∙ whole ∙ sym many in
    let counts : (i : ℕ) → i < 0 + x.workers → calls before i ≡ length (m.worker i).waiting =
    (λ i lt.
    let held = some_worker before i (omega (arith, lt, long, size)) in
    let k = h.workers i held.0 (ap (λ (ws : List Held). slice_get ws i) was ∙ held.1) in
    calls_at before i held.0 held.1 ∙ ap length (sym k.stands.waiting)) in
    record {
      machine = back.machine;
      plays = subst (λ (es : List Event). Plays x es m back.machine []) (ap (works_from (calls before) 0) long ∙ works_same (calls before) (λ w. length (m.worker w).waiting) 0 x.workers counts) back.plays;
      done = λ w lt none.
          let held = some_worker new.workers w (omega (arith, lt, long)) in
          let old_one = some_worker before w (omega (arith, lt, long, size)) in
          let through = all.each w old_one.0 held.0 old_one.1 (ap (λ (ws : List Held). slice_get ws w) (sym is) ∙ held.1) in
          let k = back.stands.workers w held.0 held.1 in
          k.stands.waiting ∙ through.done (sym k.stands.stopped ∙ none);
      stands = back.stands;
    }

-- one call: the packets and the tables stay those of the function
pub still_can : (func : Func) (f : Function) (came : Worked) (old new : Held) → HeldWorks f came old new → fixed_of new.tables ≡ fixed_of old.tables → CanWork func old → CanWork func new
still_can func f came old new works fixed can = record {
  decls = ap (λ (x : Fixed). x.decls) fixed ∙ can.decls;
  ports = works_waiting (λ (p : Packet). p.id.port < length func.handlers) f came old new works can.ports;
  served = works_waiting (IsServed (function_of func)) f came old new works can.served;
}

-- a packet less waits, or it has stopped
pub went_on : (f : Function) (old new : Held) → HeldWorks f result.Done old new → WentOn true old new
went_on f old new n = (n.packet, n.waited)

stops_went : (f : Function) (was : Option ℕ) (old new : Held) → old.stopped ≡ was → Stops f was old new → WentOn false old new
stops_went f None old new e n = (n.chain, n.stopped, n.waiting)
stops_went f (Some chain) old new e n = (chain, n.stopped ∙ e, n.waiting)

pub went_stopped : (f : Function) (old new : Held) → HeldWorks f result.Stopped old new → WentOn false old new
went_stopped f old new n = stops_went f old.stopped old new refl n

-- a worker with a packet is not idle
pub no_idle : (f : Function) (old new : Held) (p : PacketId) → HeldWorks f result.Idle old new → first_id old.waiting ≡ Some p → ⊥
no_idle f old new p n e = let none : None ≡ Some p = ap first_id (sym n.1) ∙ e in cc

pub no_first : (ps : List Packet) → first_id ps ≡ None → ps ≡ []
no_first [] e = refl
no_first (p ∷ ps) e = cc

pub has_first : (ps : List Packet) (p : PacketId) → first_id ps ≡ Some p → 0 < length ps
has_first [] p e = cc
has_first (q ∷ ps) p e = omega arith

-- a worker that stopped at its next packet
pub stops_here : (f : Function) (first before held : Held) (n : ℕ) (p : PacketId) → n + length before.waiting ≡ length first.waiting → first_id before.waiting ≡ Some p → WentOn false before held → WorkedTimes f first (suc n) held → WorkedThrough f first held
stops_here f first before held n p long some went times = stops_through f first before held n went.0 long (has_first before.waiting p some) went.1 times

-- one packet less
pub one_less : (first before held : Held) (n : ℕ) → n + length before.waiting ≡ length first.waiting → WentOn true before held → suc n + length held.waiting ≡ length first.waiting
one_less first before held n long went = let e = ap length went.1 in omega (arith, e, long)

-- an item of a list, by its place
pub got_at : {A : Type 0} (xs : List A) (i : ℕ) (x : A) → i < length xs → x ≡ slice_index_or xs i x → slice_get xs i ≡ Some x
got_at [] i x lt e = absurd (omega (arith, lt))
got_at (y ∷ ys) zero x lt e = ap Some (sym e)
got_at (y ∷ ys) (suc i) x lt e = got_at ys i x (omega (arith, lt)) e

pub is_at : {A : Type 0} (xs : List A) (i : ℕ) (x d : A) → slice_get xs i ≡ Some x → slice_index_or xs i d ≡ x
is_at [] i x d e = cc
is_at (y ∷ ys) zero x d e = cc
is_at (y ∷ ys) (suc i) x d e = is_at ys i x d e

-- what was done to each place was done to each worker
pub all_through : (f : Function) (before after : List Held) → length after ≡ length before → ((i : ℕ) (d : Held) → i < length before → WorkedThrough f (slice_index_or before i d) (slice_index_or after i d)) → AllWorkedThrough f before after
all_through f before after count each = record {
  count = count;
  each = λ w old new was is.
      subst (λ (z : Held). WorkedThrough f z new) (is_at before w old old was)
      (subst (λ (z : Held). WorkedThrough f (slice_index_or before w old) z) (is_at after w new old is) (each w old (slice_get_within before w old was)));
}

pub can_each : (func : Func) (workers : List Held) (i : ℕ) (held : Held) → AreWorkers func workers → i < length workers → held ≡ slice_index_or workers i held → (i < 16) × CanWork func held
can_each func workers i held are lt at = (let most = are.most in omega (arith, lt, most), are.each i held (got_at workers i held lt at))

-- workers that belong to shards may work
pub of_shards : (v : Sharded) (workers : List Held) → AreWorkersOf v workers → length workers ≤ 16 → AreWorkers v.func workers
of_shards v workers of few = record {
  most = few;
  each = λ w held at. let k = of.each w held at in record { decls = k.decls_are; ports = k.ports_are; served = k.served_are };
}

-- a whole list in front of another
pub all_of : (n : ℕ) (xs ys : List Held) → n ≡ length xs → take n (xs ++ ys) ≡ xs
all_of zero [] ys e = refl
all_of (suc n) [] ys e = absurd (omega (arith, e))
all_of zero (x ∷ xs) ys e = absurd (omega (arith, e))
all_of (suc n) (x ∷ xs) ys e = ap (λ (hs : List Held). x ∷ hs) (all_of n xs ys (omega (arith, e)))
