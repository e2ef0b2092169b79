-- An answer taken from one worker of shards.
use Rattle.std.proofs.Common.{◌≡◌, ◌<◌, ◌≤◌, ℕ, suc, List, [], ◌∷◌, length, All, Option, Some, None, slice_get, slice_index_or, slice_set, refl, ap, ap₂, sym, ◌∙◌, subst, arith, inl, inr}
use Rattle.std.proofs.lemmas.Option.{same_Some, slice_get_read}
use Rattle.std.proofs.lemmas.List.{length-set}
use Rattle.nf_base.specs.declared.func.Func.{Func}
use Rattle.nf_base.specs.declared.keys.Keys.{Keys}
use Rattle.nf_base.specs.declared.packet.Packet.{Packet}
use Rattle.nf_base.specs.Doors.{IsServed}
use Rattle.nf_base.specs.Functions.{function_of}
use Rattle.nf_base.proofs.Mixes.{got_set}
use Rattle.nf_engine.specs.View.{fixed_of}
use Rattle.std.specs.Borrow.{Bor}
use Rattle.std.specs.Prelude.{IfSome, IfNone}
use Rattle.shard_core.specs.declared.collected.Stop.{Stop}
use Rattle.shard_core.specs.Fifos.{Pending, IsFirst}
use Rattle.shard_core.specs.Held.{Held, SameButRoom, IsStopIn, IsNoStop}
use Rattle.shard_core.specs.Sharded.{sharded_of, IsSharded, SameButRooms, HasRoom, NoneTaken, ComesFirst, StopIn}
use Rattle.shard_core.proofs.Changing.{worker_of, changed_sharded}

pub first_below : (q n : ℕ) (qs : List ℕ) → ComesFirst q qs → All (λ (p : ℕ). p < n) qs → q < n
first_below q n [] first all = absurd first
first_below q n (p ∷ ps) first all = subst (λ (j : ℕ). j < n) first (all 0 0 (omega arith))

-- of a worker answers and room alone have changed
abbrev pub Taken : Held → Held → Type 0
Taken before after = after ≡ record before { answers = after.answers; room = after.room }

pub same_tables : (before after : Held) → Taken before after → after.tables ≡ before.tables
same_tables before after t = ap (λ (h : Held). h.tables) t

pub same_waiting : (before after : Held) → Taken before after → after.waiting ≡ before.waiting
same_waiting before after t = ap (λ (h : Held). h.waiting) t

pub same_stopped : (before after : Held) → Taken before after → after.stopped ≡ before.stopped
same_stopped before after t = ap (λ (h : Held). h.stopped) t

pub there : (func : Func) (keys : Keys) (count : ℕ) (ws : List Held) (queues table : List ℕ) (q : ℕ) (before : Held) → length ws ≡ count → IsSharded func keys count ws queues table → ComesFirst q queues → before ≡ slice_index_or ws q before → slice_get ws q ≡ Some before
there func keys count ws queues table q before whole is first value = slice_get_read ws (length ws) q before refl (subst (λ (n : ℕ). q < n) (sym whole) (first_below q count queues first is.below)) value

pub taken_sharded : (func : Func) (keys : Keys) (count : ℕ) (ws : List Held) (queues table : List ℕ) (q : ℕ) (before after : Held) → IsSharded func keys count ws queues table → slice_get ws q ≡ Some before → Taken before after → IsSharded func keys count (slice_set ws q after) queues table
taken_sharded func keys count ws queues table q before after is at t =
    let one = is.each q before at in
    changed_sharded func keys count ws queues table q after is
    (worker_of func count q before after one (ap fixed_of (same_tables before after t))
    (subst (All (λ (p : Packet). p.id.port < length func.handlers)) (sym (same_waiting before after t)) one.ports_are)
    (subst (All (IsServed (function_of func))) (sym (same_waiting before after t)) one.served_are))

below_tail : (n p : ℕ) (ps : List ℕ) → All (λ (q : ℕ). q < n) (p ∷ ps) → All (λ (q : ℕ). q < n) ps
below_tail n p ps all k d lt = all (suc k) d (omega (arith, lt))

pub popped_sharded : (func : Func) (keys : Keys) (count : ℕ) (ws : List Held) (q : ℕ) (queues rest table : List ℕ) → queues ≡ q ∷ rest → IsSharded func keys count ws queues table → IsSharded func keys count ws rest table
popped_sharded func keys count ws q queues rest table e is = record {
  table_is = is.table_is;
  some = is.some;
  most = is.most;
  keys_fit = is.keys_fit;
  each = is.each;
  below = below_tail count q rest (subst (All (λ (p : ℕ). p < count)) e is.below);
}

pub more_room : (n : ℕ) (func : Func) (keys : Keys) (count : ℕ) (ws : List Held) (queues more : Pending ℕ) (time later : ℕ) → queues.room ≤ more.room → HasRoom n (sharded_of func keys count ws queues time) → HasRoom n (sharded_of func keys count ws more later)
more_room n func keys count ws queues more time later le room = record { queues = let l = room.queues in omega (arith, l, le); workers = room.workers }

pub same_but_rooms : (func : Func) (keys : Keys) (count : ℕ) (ws : List Held) (queues : Pending ℕ) (time q : ℕ) (before after : Held) → slice_get ws q ≡ Some before → SameButRoom before after →
    SameButRooms (sharded_of func keys count ws queues time) (sharded_of func keys count (slice_set ws q after) queues time)
same_but_rooms func keys count ws queues time q before after at same = record {
  func = refl;
  keys = refl;
  count = refl;
  long = length-set ws q after;
  each = λ w a b was is. elim (got_set ws q w after b is) [
    | inl e ↦ subst (λ (z : Held). SameButRoom z b) (same_Some _ _ (sym at ∙ ap (slice_get ws) (sym e.0) ∙ was)) (subst (λ (z : Held). SameButRoom before z) e.1 same)
    | inr e ↦ subst (λ (z : Held). SameButRoom a z) (same_Some _ _ (sym was ∙ e.1)) (record { tables = refl; waiting = refl; answers = refl; stopped = refl })
  ];
  queues = refl;
  time = refl;
}

pub first_is : (q : ℕ) (queues : List ℕ) (r : ℕ) (rest : List ℕ) → ComesFirst q queues → queues ≡ r ∷ rest → queues ≡ q ∷ rest
first_is q [] r rest first e = absurd first
first_is q (p ∷ ps) r rest first e =
    let tail : ps ≡ rest = cc in
    ap₂ (λ z zs. z ∷ zs) first tail

pub none_taken : (q : ℕ) (queues : List ℕ) (ws : List Held) (before : Held) → ComesFirst q queues → slice_get ws q ≡ Some before → before.answers ≡ [] → NoneTaken queues ws
none_taken q [] ws before first at none = absurd first
none_taken q (p ∷ ps) ws before first at none = λ held got. ap (λ (h : Held). h.answers) (same_Some _ _ (sym got ∙ ap (slice_get ws) first ∙ at)) ∙ none

pub of_first : (queues : List ℕ) (q : Bor ℕ) → IsFirst queues (Some q) → ComesFirst q.now queues
of_first [] q first = absurd first
of_first (p ∷ ps) q first = sym first

pub stop_in : (q : ℕ) (queues : List ℕ) (ws : List Held) (held : Held) (stop : Option Stop) → ComesFirst q queues → slice_get ws q ≡ Some held → IfSome stop (IsStopIn held q) → IfNone stop (IsNoStop held) → StopIn queues ws stop
stop_in q [] ws held stop first at some none = absurd first
stop_in q (p ∷ ps) ws held None first at some none = (held, ap (slice_get ws) first ∙ at, none)
stop_in q (p ∷ ps) ws held (Some s) first at some none = (held, ap (slice_get ws) first ∙ at, subst (λ (j : ℕ). IsStopIn held j s) (sym first) some)
