-- The tables of shards whose packets are all collected.
use Rattle.std.proofs.Common.{◌≡◌, ◌<◌, ◌+◌, ℕ, zero, suc, List, [], ◌∷◌, ◌++◌, length, map, Option, Some, None, Result, Ok, Err, slice_get, refl, ap, sym, ◌∙◌, subst, arith}
use Rattle.std.specs.Option.{option_map}
use Rattle.std.specs.Result.{IfOk}
use Rattle.std.proofs.lemmas.List.{length-map}
use Rattle.std.proofs.lemmas.Nat.{mod_below}
use Rattle.std.proofs.lemmas.Option.{slice_get-map, get_or_from_slice_get}
use Rattle.nf_base.specs.declared.decl.ChainDecl.{ChainDecl}
use Rattle.nf_base.specs.declared.func.Func.{Func}
use Rattle.nf_base.specs.declared.keys.Keys.{Keys}
use Rattle.nf_base.specs.declared.packet.Packet.{Packet}
use Rattle.nf_base.specs.Functions.{function_of}
use Rattle.nf_base.specs.Operations.{never}
use Rattle.nf_base.specs.Runs.{run}
use Rattle.nf_base.specs.Step.{opening}
use Rattle.nf_base.specs.Text.{Function}
use Rattle.nf_laws.proofs.Parted.{run_sound, run_shape}
use Rattle.nf_laws.proofs.Shaped.{opening_shape}
use Rattle.nf_laws.proofs.Sound.{opening_sound}
use Rattle.shard_laws.specs.Queues.{last_time}
use Rattle.shard_laws.specs.Rule.{owner_of}
use Rattle.shard_laws.specs.Unions as queues
use Rattle.vig_tables.specs.TablesState.{TablesState}
use Rattle.vig_tables.specs.Union.{owner_among, no_state, state_in, AreOf}
use Rattle.vig_tables.proofs.OneUnion.{one_union}
use Rattle.shard_machine.specs.declared.event.Answer.{Answer}
use Rattle.shard_machine.specs.Machine.{Setup, Machine, packets_of, lines_of, packets_at, answers_at}
use Rattle.shard_machine.specs.Moments.{Holds}
use Rattle.shard_machine.specs.Laws.{TimesNeverFall, OneQueueWhereTheyMeet}
use Rattle.shard_machine.proofs.Sent.{append_nil, length_append, length_map, packets_of_at}
use Rattle.shard_machine.proofs.Ran.{collected_is_a_run, all_collected}
use Rattle.shard_core.specs.Held.{Held}
use Rattle.shard_core.specs.Sharded.{Sharded, IsSharded, StandsFor}
use Rattle.shard_core.specs.Finished.{tables_in, IsMergeOf, Finishes}
use Rattle.shard_core.proofs.Changing.{some_worker}
use Rattle.shard_core.proofs.Uniting.{united, apart_names, same_names}

-- where all were collected nothing waits, so no worker has stopped
none_waits : (x : Setup) (m : Machine) → Holds x m → packets_of m.collected ≡ m.dispatched → (w : ℕ) → length (m.worker w).waiting ≡ 0
none_waits x m h all w =
    let as_sent : packets_of (m.worker w).worked ++ (m.worker w).waiting ≡ packets_of (answers_at x.queue w m.collected) = (h.worker w).order ∙ ap (packets_at x.queue w) (sym all) ∙ packets_of_at x.queue w m.collected in
    let long : length (packets_of (m.worker w).worked) + length (m.worker w).waiting ≡ length (answers_at x.queue w m.collected) = sym (length_append (packets_of (m.worker w).worked) (m.worker w).waiting) ∙ ap length as_sent ∙ length_map (λ (a : Answer). a.packet) (answers_at x.queue w m.collected) in
    let worked : length (packets_of (m.worker w).worked) ≡ length (answers_at x.queue w m.collected) + length (h.more w) = length_map (λ (a : Answer). a.packet) (m.worker w).worked ∙ ap length (h.answers w) ∙ length_append (answers_at x.queue w m.collected) (h.more w) in
    omega (arith, long, worked)

none_stops : (x : Setup) (m : Machine) → Holds x m → (w : ℕ) → length (m.worker w).waiting ≡ 0 → (o : Option ℕ) → (m.worker w).stopped ≡ o → o ≡ None
none_stops x m h w none None e = refl
none_stops x m h w none (Some chain) e =
    let s = (h.worker w).stop chain e in
    let long : length (m.worker w).waiting ≡ suc (length s.later) = ap length s.waiting in
    absurd (omega (arith, none, long))

state_at : (ws : List Held) (w : ℕ) (held : Held) → slice_get ws w ≡ Some held → state_in (tables_in ws) w ≡ held.tables.state
state_at ws w held at =
    get_or_from_slice_get (map (λ (t : TablesState). t.state) (tables_in ws)) w held.tables.state no_state
    (slice_get-map (λ (t : TablesState). t.state) (tables_in ws) w ∙ ap (option_map (λ (t : TablesState). t.state)) (slice_get-map (λ (h : Held). h.tables) ws w ∙ ap (option_map (λ (h : Held). h.tables)) at))

-- the states are those of the machine's workers
states_are : (x : Setup) (m : Machine) (v : Sharded) → StandsFor x m v → packets_of m.collected ≡ m.dispatched → (w : ℕ) → w < length v.workers → (m.worker w).state ≡ state_in (tables_in v.workers) w
states_are x m v h all w lt =
    let held = some_worker v.workers w lt in
    let k = (h.workers w held.0 held.1).stands in
    let runs = none_stops x m h.holds w (none_waits x m h.holds all w) (m.worker w).stopped refl in
    k.state (sym k.stopped ∙ runs) ∙ sym (state_at v.workers w held.0 held.1)

none_left : (queue : Packet → ℕ) (left : List Packet) → [] ≡ map queue left → left ≡ []
none_left queue [] e = refl
none_left queue (p ∷ left) e = cc

-- the union of the workers' tables holds the last state of the run
pub finishes : (x : Setup) (m : Machine) (v : Sharded) (whole : TablesState) → StandsFor x m v → v.queues.items ≡ [] → TimesNeverFall 0 m.dispatched → OneQueueWhereTheyMeet x m.dispatched → IsMergeOf v whole → Finishes x m whole
finishes x m v whole h none times meet merge =
    let f = function_of v.func in
    let parts = tables_in v.workers in
    let n = length parts in
    let states = λ (w : ℕ). (m.worker w).state in
    let left : h.left ≡ [] = none_left x.queue h.left (sym none ∙ h.order) in
    let all : packets_of m.collected ≡ m.dispatched = sym (h.sent ∙ ap (λ ps. packets_of m.collected ++ ps) left ∙ append_nil (packets_of m.collected)) in
    let c = collected_is_a_run x m h.setup.is h.holds times meet in
    let u = all_collected x m c.ran h.setup.is h.holds times meet all c.is in
    let long : length v.workers ≡ n = sym (length-map v.workers (λ (w : Held). w.tables)) in
    let count : x.workers ≡ n = h.setup.workers ∙ sym h.whole ∙ long in
    let some = h.setup.is.some in
    let is : run f (opening f) (lines_of m.collected) ≡ Some c.ran = subst (λ (g : Function). run g (opening g) (lines_of m.collected) ≡ Some c.ran) h.setup.function c.is in
    let of_run : queues.IsUnion (owner_of n) f v.time n states c.ran.state =
    subst (λ (t : ℕ). queues.IsUnion (owner_of n) f t n states c.ran.state) (sym h.time)
    (subst (λ (k : ℕ). queues.IsUnion (owner_of k) f (last_time 0 (lines_of m.collected)) k states c.ran.state) count
    (subst (λ (g : Function). queues.IsUnion (owner_of x.workers) g (last_time 0 (lines_of m.collected)) x.workers states c.ran.state) h.setup.function u)) in
    let shape = run_shape never f (opening f) (lines_of m.collected) c.ran v.func.fits (opening_shape f) is in
    let sound = run_sound never f (opening f) (lines_of m.collected) c.ran (opening_sound f) is in
    let some_of : 0 < n = omega (arith, some, count) in
    let agree : (w : ℕ) → w < n → states w ≡ state_in parts w = λ w lt. states_are x m v h all w (omega (arith, lt, long)) in
    let names = same_names n f v.time states (state_in parts) some_of agree (apart_names n f v.time states c.ran.state of_run sound) in
    record {
      all = all;
      ran = c.ran;
      is = c.is;
      answers = c.answers;
      decls = merge.decls ∙ ap (λ (g : Function). g.chains) (sym h.setup.function);
      state = sym (one_union (owner_among n) f v.time n states (state_in parts) c.ran.state whole.state (λ k i. mod_below i n some_of) agree (united n f v.time states c.ran.state of_run shape) (merge.union names));
      share = merge.share;
    }

-- three facts of a success, taken together
pub if_all_ok : {T E : Type 0} (r : Result T E) (P Q R S : T → Type 0) → IfOk r P → IfOk r Q → IfOk r R → ((t : T) → P t → Q t → R t → S t) → IfOk r S
if_all_ok (Ok t) P Q R S p q r all = all t p q r
if_all_ok (Err e) P Q R S p q r all = tt

-- the tables are of one function
pub of_one : (func : Func) (keys : Keys) (count : ℕ) (ws : List Held) (queues table : List ℕ) → IsSharded func keys count ws queues table → AreOf func.chains (tables_in ws)
of_one func keys count ws queues table is = each_of func.chains ws (λ w held at. (is.each w held at).decls_are)
  where
    each_of : (decls : List ChainDecl) (ws : List Held) → ((w : ℕ) (held : Held) → slice_get ws w ≡ Some held → held.tables.decls ≡ decls) → AreOf decls (tables_in ws)
    each_of decls [] each k d lt = absurd (omega (arith, lt))
    each_of decls (h ∷ ws) each zero d lt = each 0 h refl
    each_of decls (h ∷ ws) each (suc k) d lt = each_of decls ws (λ w held at. each (suc w) held at) k d (omega (arith, lt))
