-- The packets of traffic, one after another.
use Rattle.std.proofs.Common.{◌≡◌, ℕ, zero, suc, ◌+◌, ◌*◌, ◌/◌, ◌%◌, ◌<◌, ◌≤◌, false, List, length, get_or, refl, ap, ◌∙◌, arith}
use Rattle.std.specs.Prelude.{Some, None, slice_get}
use Rattle.std.proofs.lemmas.Bool.{le-ltb, ne_eqb}
use Rattle.nf_base.specs.declared.packet.Packet.{Packet}
use Rattle.nf_base.specs.declared.packet.Fields.{Fields}
use Rattle.nf_base.specs.Orders.{comes_before}
use Rattle.gen_traffic.specs.declared.end.End.{End}
use Rattle.gen_traffic.specs.Numbers.{number_of, next_number, flow_of}
use Rattle.gen_traffic.specs.Ends.{source, destination}
use Rattle.gen_traffic.specs.Frames.{frame_between, fields_between}
use Rattle.gen_traffic.specs.Traffic.{Recipe, packet_at, sent_at, sent_from, traffic}
use Rattle.gen_traffic.specs.Laws.{IsCounted, packets_in, TrafficIsInOrder}

long : (r : Recipe) (k n : ℕ) → length (sent_from r k n) ≡ n
long r k zero = refl
long r k (suc n) = ap suc (long r (suc k) n)

got : (r : Recipe) (k n j : ℕ) → j < n → slice_get (sent_from r k n) j ≡ Some (sent_at r (k + j))
got r k zero j lt = absurd (omega arith)
got r k (suc n) zero lt = let e : k ≡ k + 0 = omega arith in ap (λ (i : ℕ). Some (sent_at r i)) e
got r k (suc n) (suc j) lt = let e : suc k + j ≡ k + suc j = omega arith in got r (suc k) n j (omega arith) ∙ ap (λ (i : ℕ). Some (sent_at r i)) e

past : (r : Recipe) (k n j : ℕ) → n ≤ j → slice_get (sent_from r k n) j ≡ None
past r k zero j le = refl
past r k (suc n) zero le = absurd (omega arith)
past r k (suc n) (suc j) le = past r (suc k) n j (omega arith)

pub next_is : (r : Recipe) (k : ℕ) → k < r.count → slice_get (traffic r) k ≡ Some (sent_at r k)
next_is r k lt = let e : 0 + k ≡ k = omega arith in got r 0 r.count k lt ∙ ap (λ (i : ℕ). Some (sent_at r i)) e

pub none_left : (r : Recipe) (k : ℕ) → r.count ≤ k → slice_get (traffic r) k ≡ None
none_left r k le = past r 0 r.count k le

pub counted : (r : Recipe) → IsCounted r
counted r = record { count = long r 0 r.count; each = next_is r }

-- ---- in order

packet_got : (r : Recipe) (k n j : ℕ) (d : Packet) → j < n → get_or (packets_in (sent_from r k n)) j d ≡ packet_at r (k + j)
packet_got r k zero j d lt = absurd (omega arith)
packet_got r k (suc n) zero d lt = let e : k ≡ k + 0 = omega arith in ap (λ (i : ℕ). packet_at r i) e
packet_got r k (suc n) (suc j) d lt = let e : suc k + j ≡ k + suc j = omega arith in packet_got r (suc k) n j d (omega arith) ∙ ap (λ (i : ℕ). packet_at r i) e

packets_long : (r : Recipe) (k n : ℕ) → length (packets_in (sent_from r k n)) ≡ n
packets_long r k zero = refl
packets_long r k (suc n) = ap suc (packets_long r (suc k) n)

later : (r : Recipe) (j k : ℕ) → k < j → comes_before (packet_at r j) (packet_at r k) ≡ false
later r j k lt = rw (le-ltb (1000 * j) (1000 * k) (omega arith), ne_eqb (1000 * j) (1000 * k) (λ e. omega arith)) refl

pub in_order : TrafficIsInOrder
in_order r k d low lt =
    let long = packets_long r 0 r.count in
    let first = packet_got r 0 r.count k d (omega (arith, long)) in
    let second = packet_got r 0 r.count (k + 1) d (omega (arith, long)) in
    ap (λ (p : Packet). comes_before p (get_or (packets_in (traffic r)) k d)) second
    ∙ ap (λ (p : Packet). comes_before (packet_at r (0 + (k + 1))) p) first
    ∙ later r (0 + (k + 1)) (0 + k) (omega arith)

-- ---- one packet

pub given_is : (r : Recipe) (k before number flow t : ℕ) (from to : End) (fields : Fields) (frame : List ℕ)
    → before ≡ number_of r.seed k → number ≡ next_number before → flow ≡ flow_of r.flows number → from ≡ source (k % r.ports) flow → to ≡ destination (k % r.ports) flow → t ≡ k
    → fields ≡ fields_between from to → frame ≡ frame_between from to
    → (let sent : Packet × List ℕ = (record { id = record { port = k % r.ports; seq = k / r.ports }; time = 1000 * t; fields = Some fields }, frame) in sent) ≡ sent_at r k
given_is r k before number flow t from to fields frame e0 e1 e2 e3 e4 e5 e6 e7 = rw (e7, e6, e5, e4, e3, e2, e1, e0) refl
