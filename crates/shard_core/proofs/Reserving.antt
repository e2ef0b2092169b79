-- Room made in each worker of shards.
use Rattle.std.proofs.Common.{◌≡◌, ◌<◌, ◌≤◌, ◌+◌, ℕ, nat_lt, ltb-true, ltb-false, List, length, All, Some, slice_get, slice_set, ap, sym, ◌∙◌, subst, arith, inl, inr}
use Rattle.std.proofs.lemmas.List.{length-set}
use Rattle.std.proofs.lemmas.Bool.{cases_Bool}
use Rattle.nf_base.specs.declared.func.Func.{Func}
use Rattle.nf_base.specs.declared.keys.Keys.{Keys}
use Rattle.nf_base.specs.declared.packet.Packet.{Packet}
use Rattle.nf_base.specs.Doors.{IsServed}
use Rattle.nf_base.specs.Functions.{function_of}
use Rattle.nf_base.proofs.Mixes.{got_set}
use Rattle.shard_core.specs.Fifos.{Pending}
use Rattle.shard_core.specs.Held.{Held, SameButRoom}
use Rattle.shard_core.specs.Sharded.{sharded_of, IsSharded, AreSameButRoom, HaveRoom, HasRoom}
use Rattle.std.proofs.lemmas.Option.{slice_get_within}
use Rattle.shard_core.proofs.Changing.{some_worker}

-- room made in each worker
pub reserved_same : (orig ws : List Held) (w : ℕ) (before after : Held) → AreSameButRoom orig ws → slice_get ws w ≡ Some before → SameButRoom before after → AreSameButRoom orig (slice_set ws w after)
reserved_same orig ws w before after are at same = record {
  count = length-set ws w after ∙ are.count;
  each = λ v a b was is. elim (got_set ws w v after b is) [
    | inl e ↦
        let s = are.each v a before was (ap (slice_get ws) e.0 ∙ at) in
        subst (λ (z : Held). SameButRoom a z) e.1 (record { tables = same.tables ∙ s.tables; waiting = same.waiting ∙ s.waiting; answers = same.answers ∙ s.answers; stopped = same.stopped ∙ s.stopped })
    | inr e ↦ are.each v a b was e.1
  ];
}

pub reserved_room : (n w : ℕ) (ws : List Held) (after : Held) → HaveRoom n w ws → n ≤ after.room → HaveRoom n (w + 1) (slice_set ws w after)
reserved_room n w ws after have le v held lt at = elim (got_set ws w v after held at) [
  | inl e ↦ subst (λ (z : Held). n ≤ z.room) e.1 le
  | inr e ↦ have v held (lower v w lt e.0) e.1
]
  where
    lower : (v w : ℕ) → v < w + 1 → (v ≡ w → ⊥) → v < w
    lower v w l ne = elim (cases_Bool (nat_lt v w)) [
      | inl b ↦ ltb-true v w b
      | inr b ↦ let ge = ltb-false v w b in absurd (ne (omega (arith, l, ge)))
    ]

pub reserved_grows : (m w : ℕ) (ws : List Held) (before after : Held) → HaveRoom m (length ws) ws → slice_get ws w ≡ Some before → before.room ≤ after.room → HaveRoom m (length (slice_set ws w after)) (slice_set ws w after)
reserved_grows m w ws before after have at le v held lt got = elim (got_set ws w v after held got) [
  | inl e ↦
      let l = have w before (slice_get_within ws w before at) at in
      subst (λ (z : Held). m ≤ z.room) e.1 (omega (arith, l, le))
  | inr e ↦ have v held (slice_get_within ws v held e.1) e.1
]

pub many_sharded : (func : Func) (keys : Keys) (count : ℕ) (ws others : List Held) (queues rest table : List ℕ) → AreSameButRoom ws others → rest ≡ queues → IsSharded func keys count ws queues table → IsSharded func keys count others rest table
many_sharded func keys count ws others queues rest table are e is = record {
  table_is = is.table_is;
  some = is.some;
  most = is.most;
  keys_fit = is.keys_fit;
  each = λ w held at.
      let lt = slice_get_within others w held at in
      let c = are.count in
      let was = some_worker ws w (omega (arith, lt, c)) in
      let s = are.each w was.0 held was.1 at in
      let k = is.each w was.0 was.1 in
      record {
        decls_are = ap (λ t. t.decls) s.tables ∙ k.decls_are;
        queue_is = ap (λ t. t.share.queue) s.tables ∙ k.queue_is;
        of_is = ap (λ t. t.share.of) s.tables ∙ k.of_is;
        ports_are = subst (All (λ (p : Packet). p.id.port < length func.handlers)) (sym s.waiting) k.ports_are;
        served_are = subst (All (IsServed (function_of func))) (sym s.waiting) k.served_are;
      };
  below = subst (All (λ (q : ℕ). q < count)) (sym e) is.below;
}

pub all_room : (n : ℕ) (func : Func) (keys : Keys) (count : ℕ) (ws : List Held) (queues : Pending ℕ) (time : ℕ) → n ≤ queues.room → HaveRoom n (length ws) ws → HasRoom n (sharded_of func keys count ws queues time)
all_room n func keys count ws queues time le have = record { queues = le; workers = λ w held at. have w held (slice_get_within ws w held at) at }
