-- Shards and workers before their first packet.
use mathlib.Core.HLevel.{×_prop}
use native.Mathlib.Bridge.{le_prop}
use Rattle.std.proofs.Common.{◌≡◌, ◌<◌, ◌≤◌, ◌+◌, ℕ, zero, suc, List, [], ◌∷◌, ◌++◌, length, All, Some, slice_get, refl, ap, sym, ◌∙◌, subst, arith, ◌⊎◌, inl, inr}
use Rattle.std.proofs.lemmas.Option.{same_Some}
use Rattle.std.proofs.lemmas.List.{length-map, length-append}
use Rattle.nf_base.specs.Limits.{IsShare}
use Rattle.nf_base.specs.declared.func.Func.{Func}
use Rattle.nf_base.specs.declared.keys.Keys.{Keys}
use Rattle.nf_base.specs.declared.packet.Packet.{Packet}
use Rattle.nf_base.specs.declared.share.Share.{Share}
use Rattle.nf_base.specs.Doors.{IsServed}
use Rattle.nf_base.specs.Functions.{function_of}
use Rattle.nf_base.specs.Handlers.{blocks_of}
use Rattle.nf_base.specs.Step.{opening}
use Rattle.nf_base.specs.Text.{Function}
use Rattle.rss_table.specs.Tables.{even_table}
use Rattle.shard_machine.specs.Machine.{Setup, new_machine}
use Rattle.shard_machine.proofs.Kept.{new_holds}
use Rattle.shard_core.specs.Held.{Held, IsNew}
use Rattle.shard_core.specs.Sharded.{Sharded, IsSharded, IsSetupOf, StandsFor, AreNew, IsNewSharded}
use Rattle.std.proofs.lemmas.Option.{slice_get_within}

-- shares of one queue of as many
share_of : (q o : ℕ) → IsShare q o → Share
share_of q o w = record { queue = q; of = o; within = w }

pub same_share : (a b : Share) → a.queue ≡ b.queue → a.of ≡ b.of → a ≡ b
unfolding share_of
same_share a b e f =
    subst (λ (q : ℕ). (w : IsShare q b.of) → a ≡ share_of q b.of w) e
    (subst (λ (o : ℕ). (w : IsShare a.queue o) → a ≡ share_of a.queue o w) f (λ w. ap (share_of a.queue a.of) (×_prop le_prop le_prop a.within w)))
    b.within

-- shards before their first packet
pub new_stands : (f : Function) (keys : Keys) (n : ℕ) (v : Sharded) → IsNewSharded f keys n v → (x : Setup) → IsSetupOf x v → StandsFor x (new_machine x.function) v
new_stands f keys n v new x s = record {
  setup = s;
  holds = new_holds x;
  workers = λ w held at.
      let made = new.workers.each w held at in
      let lt : w < length v.workers = slice_get_within v.workers w held at in
      let n_is = new.workers.long in
      let count = s.workers in
      let known = new.count in
      let mine : w < x.workers = omega (arith, lt, count, n_is, known) in
      let is = made.3 in
      let of : x.workers ≡ n = s.workers ∙ new.count in
      record {
        stands = record {
          worked = sym is.answers;
          waiting = sym is.waiting;
          stopped = sym is.stopped;
          state = λ e. ap opening (s.function ∙ new.function) ∙ ap (λ t. t.state) (sym is.tables);
        };
        share = ap (λ t. t.share) is.tables ∙ same_share made.0 (x.share w) (made.1 ∙ sym (s.is.shares.queue w mine)) (made.2 ∙ sym of ∙ sym (s.is.shares.of w mine));
      };
  left = [];
  sent = refl;
  order = new.queues;
  time = new.time;
  whole = new.workers.long ∙ sym new.count;
}

none_of : {A : Type 0} (P : A → Type 0) → All P []
none_of P k d lt = absurd (omega (arith, lt))

pub new_sharded : (func : Func) (keys : Keys) (n : ℕ) (ws : List Held) (queues table : List ℕ) → AreNew (function_of func) n n ws → 0 < n → n ≤ 16 → length func.handlers ≤ length keys.ports → table ≡ even_table keys.table n → queues ≡ [] → IsSharded func keys n ws queues table
new_sharded func keys n ws queues table new some most fit t e = record {
  table_is = t;
  some = some;
  most = most;
  keys_fit = fit;
  each = λ w held at.
      let made = new.each w held at in
      let is = made.3 in
      record {
        decls_are = ap (λ z. z.decls) is.tables;
        queue_is = ap (λ z. z.share.queue) is.tables ∙ made.1;
        of_is = ap (λ z. z.share.of) is.tables ∙ made.2;
        ports_are = subst (All (λ (p : Packet). p.id.port < length func.handlers)) (sym is.waiting) (none_of (λ (p : Packet). p.id.port < length func.handlers));
        served_are = subst (All (IsServed (function_of func))) (sym is.waiting) (none_of (IsServed (function_of func)));
      };
  below = subst (All (λ (q : ℕ). q < n)) (sym e) (none_of (λ (q : ℕ). q < n));
}

pub same_handlers : (a b : Func) → function_of a ≡ function_of b → length a.handlers ≡ length b.handlers
same_handlers a b e = sym (length-map a.handlers blocks_of) ∙ ap (λ (f : Function). length f.handlers) e ∙ length-map b.handlers blocks_of

got_append : (ws : List Held) (held : Held) (v : ℕ) (h : Held) → slice_get (ws ++ held ∷ []) v ≡ Some h → (slice_get ws v ≡ Some h) ⊎ ((v ≡ length ws) × (held ≡ h))
got_append [] held zero h e = inr (refl, same_Some _ _ e)
got_append [] held (suc v) h e = cc
got_append (w ∷ ws) held zero h e = inl e
got_append (w ∷ ws) held (suc v) h e = elim (got_append ws held v h e) [
  | inl q ↦ inl q
  | inr q ↦ inr (ap suc q.0, q.1)
]

pub made_more : (f : Function) (n w : ℕ) (ws : List Held) (share : Share) (held : Held) → AreNew f n w ws → share.queue ≡ w → share.of ≡ n → IsNew f share held → AreNew f n (w + 1) (ws ++ held ∷ [])
made_more f n w ws share held new queue of is = record {
  long = length-append ws (held ∷ []) ∙ ap (λ (k : ℕ). k + 1) new.long;
  each = λ v h at. elim (got_append ws held v h at) [
    | inl q ↦ new.each v h q
    | inr q ↦ (share, queue ∙ sym (q.0 ∙ new.long), of, subst (IsNew f share) q.1 is)
  ];
}
