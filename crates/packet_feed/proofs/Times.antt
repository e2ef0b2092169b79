-- Times of packets that are given never fall.
use Rattle.std.proofs.Common.{◌≡◌, ℕ, ◌≤◌, List, length, set, Some, inl, inr, refl, sym, ap, ◌∙◌, subst, arith}
use Rattle.std.specs.List.{slice_get}
use Rattle.std.proofs.lemmas.Option.{slice_get_within}
use Rattle.nf_base.proofs.Mixes.{got_set}
use Rattle.nf_base.specs.declared.packet.Packet.{Packet}
use Rattle.packet_feed.specs.declared.ahead.Ahead.{Ahead}
use Rattle.packet_feed.specs.declared.ahead.Ahead.TheVariants.{Unread, Held, Ended, Torn}
use Rattle.packet_feed.specs.Streams.{Stream, time_in, IsSettled, IsFrom}
use Rattle.packet_feed.specs.Sources.{AreSettled, AreFrom, IsFirst, IsGiven, time_at, given_away}
use Rattle.packet_feed.proofs.Firsts.{time_of}
use Rattle.packet_feed.proofs.Standing.{held_first}
use Rattle.packet_feed.proofs.Streaming.{came_at}

-- nothing comes before the time 0
zero_from : (ahead : Ahead) (latest : ℕ) → IsFrom 0 ahead latest
zero_from Unread latest = omega arith
zero_from Held latest = omega arith
zero_from Ended latest = tt
zero_from (Torn offset) latest = tt

pub from_zero : (sources : List Stream) → AreFrom 0 sources
from_zero sources = λ port s e. zero_from s.ahead s.latest

-- one more capture was read on
pub from_more : (time : ℕ) (sources : List Stream) (k : ℕ) (s new_s : Stream) → slice_get sources k ≡ Some s → (IsFrom time s.ahead s.latest → IsFrom time new_s.ahead new_s.latest) → AreFrom time sources → AreFrom time (set sources k new_s)
from_more time sources k s new_s at on h = λ port x e. elim (got_set sources k port new_s x e) [
  | inl here ↦ subst (λ (t : Stream). IsFrom time t.ahead t.latest) here.1 (on (h k s at))
  | inr there ↦ h port x there.1
]

-- a capture of which it is known what comes next
settled_from : (time : ℕ) (ahead : Ahead) (latest : ℕ) → IsSettled ahead → (time_in ahead latest ≡ Some latest → time ≤ latest) → IsFrom time ahead latest
settled_from time Unread latest settled h = absurd settled
settled_from time Held latest settled h = h refl
settled_from time Ended latest settled h = tt
settled_from time (Torn offset) latest settled h = tt

held_from : (time : ℕ) (ahead : Ahead) (latest : ℕ) → ahead ≡ Held → IsFrom time ahead latest → time ≤ latest
held_from time Unread latest e h = absurd cc
held_from time Held latest e h = h
held_from time Ended latest e h = absurd cc
held_from time (Torn offset) latest e h = absurd cc

-- the first packet was given
pub gives_from : (time : ℕ) (k at : ℕ) (packet : Packet) (sources new : List Stream) → IsGiven k packet sources new → AreSettled sources → IsFirst sources (length sources) (Some (record { port = k; time = at }))
    → AreFrom time sources → (time ≤ packet.time) × AreFrom packet.time new
gives_from time k at packet sources new g settled first h =
    let s = g.source in
    let held = held_first sources k at s g.at first in
    let here : packet.time ≡ s.latest = ap (λ (p : Packet). p.time) g.packet_is ∙ came_at s.six k s.seq s.latest s.is_ethernet s.original s.frame in
    let low : time ≤ s.latest = held_from time s.ahead s.latest held.0 (h k s g.at) in (
      omega arith,
      subst (λ (xs : List Stream). AreFrom packet.time xs) (sym g.new_is) (λ port x e. elim (got_set sources k port (given_away s) x e) [
        | inl here_is ↦ subst (λ (t : Stream). IsFrom packet.time t.ahead t.latest) here_is.1 (let le : packet.time ≤ s.latest = omega arith in le)
        | inr there ↦
            settled_from packet.time x.ahead x.latest (settled port x there.1) (λ e_time.
            let t : time_at sources port ≡ Some x.latest = time_of sources port x there.1 ∙ e_time in
            let least = (first.2 port x.latest (slice_get_within sources port x there.1) t).0 in
            omega (arith, held.1))
      ]),
    )
