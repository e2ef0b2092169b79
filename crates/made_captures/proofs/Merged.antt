-- The packets of all ports, put into capture order, come as they are made.
use Rattle.std.proofs.Common.{◌≡◌, ℕ, zero, suc, ◌+◌, ◌*◌, ◌%◌, ◌<◌, ◌≤◌, ◌⊎◌, inl, inr, Bool, true, false, cond, List, [], ◌∷◌, ◌++◌, map, refl, sym, ap, subst, ◌∙◌, append_assoc, arith}
use Rattle.std.specs.Prelude.{◌==◌}
use Rattle.std.specs.List.{AllByRecursion}
use Rattle.std.proofs.lemmas.Bool.{cases_order, le-ltb, lt-ltb, ne_eqb, eq-eqb}
use Rattle.std.proofs.lemmas.Nat.{mod_below}
use Rattle.nf_base.specs.declared.packet.Packet.{Packet}
use Rattle.nf_base.specs.Orders.{comes_before}
use Rattle.packet_feed.specs.Arrivals.{Arrival}
use Rattle.packet_feed.specs.Order.{put_in, in_order}
use Rattle.gen_traffic.specs.Traffic.{Recipe, sent_at, sent_from}
use Rattle.made_captures.specs.Records.{at_port}
use Rattle.made_captures.specs.Laws.{arrival_of}
use Rattle.made_captures.proofs.Walks.{here, elsewhere}

-- ---- a packet that comes before others

-- packets that come later than a time
abbrev pub AreLater : ℕ → List Arrival → Type 0
AreLater time all = AllByRecursion (λ (a : Arrival). time < a.packet.time) all

comes_first : (t a : Arrival) → t.packet.time < a.packet.time → comes_before t.packet a.packet ≡ true
comes_first t a lt = rw (lt-ltb t.packet.time a.packet.time lt) refl

comes_last : (t a : Arrival) → t.packet.time < a.packet.time → comes_before a.packet t.packet ≡ false
comes_last t a lt = rw (le-ltb a.packet.time t.packet.time (omega (arith, lt)), ne_eqb a.packet.time t.packet.time (λ e. omega (arith, e, lt))) refl

put_either : (time : ℕ) (a b : Arrival) (bs : List Arrival) (c : Bool) → time < a.packet.time → AreLater time (b ∷ bs) → AreLater time (put_in a bs) → AreLater time (cond c (a ∷ (b ∷ bs)) (b ∷ put_in a bs))
put_either time a b bs true lt all put = (lt, all)
put_either time a b bs false lt all put = (all.0, put)

put_later : (time : ℕ) (a : Arrival) (bs : List Arrival) → time < a.packet.time → AreLater time bs → AreLater time (put_in a bs)
put_later time a [] lt all = (lt, tt)
put_later time a (b ∷ bs) lt all = put_either time a b bs (comes_before a.packet b.packet) lt all (put_later time a bs lt all.1)

ordered_later : (time : ℕ) (all : List Arrival) → AreLater time all → AreLater time (in_order all)
ordered_later time [] later = tt
ordered_later time (a ∷ all) later = put_later time a (in_order all) later.0 (ordered_later time all later.1)

put_first : (t : Arrival) (bs : List Arrival) → AreLater t.packet.time bs → put_in t bs ≡ t ∷ bs
put_first t [] later = refl
put_first t (b ∷ bs) later = ap (λ (c : Bool). cond c (t ∷ (b ∷ bs)) (b ∷ put_in t bs)) (comes_first t b later.0)

-- wherever it stands among them
front : (t : Arrival) (xs bs : List Arrival) → AreLater t.packet.time (xs ++ bs) → in_order (xs ++ (t ∷ bs)) ≡ t ∷ in_order (xs ++ bs)
front t [] bs later = put_first t (in_order bs) (ordered_later t.packet.time bs later)
front t (a ∷ xs) bs later =
    ap (put_in a) (front t xs bs later.1)
    ∙ ap (λ (c : Bool). cond c (a ∷ (t ∷ in_order (xs ++ bs))) (t ∷ put_in a (in_order (xs ++ bs)))) (comes_last t a later.0)

-- ---- the packets of all ports

-- so many packets from packet k on, as they are made, and those of them of a port
abbrev pub made_from : Recipe → ℕ → ℕ → List Arrival
made_from r k n = map arrival_of (sent_from r k n)

abbrev pub of_port : Recipe → ℕ → ℕ → ℕ → List Arrival
of_port r port k n = map arrival_of (at_port port (sent_from r k n))

-- those of so many ports from one on, port by port
abbrev pub of_ports : Recipe → ℕ → ℕ → ℕ → ℕ → List Arrival
of_ports r port zero k n = []
of_ports r port (suc m) k n = of_port r port k n ++ of_ports r (port + 1) m k n

both_later : (time : ℕ) (xs bs : List Arrival) → AreLater time xs → AreLater time bs → AreLater time (xs ++ bs)
both_later time [] bs p q = q
both_later time (a ∷ xs) bs p q = (p.0, both_later time xs bs p.1 q)

one_later : (r : Recipe) (time k : ℕ) (sents : List (Packet × List ℕ)) (b : Bool) → time < 1000 * k → AreLater time (map arrival_of sents) → AreLater time (map arrival_of (cond b (sent_at r k ∷ sents) sents))
one_later r time k sents true lt later = (lt, later)
one_later r time k sents false lt later = later

port_later : (r : Recipe) (port time k n : ℕ) → time < 1000 * k → AreLater time (of_port r port k n)
port_later r port time k zero lt = tt
port_later r port time k (suc n) lt =
    one_later r time k (at_port port (sent_from r (suc k) n)) (k % r.ports == port) lt (port_later r port time (suc k) n (omega (arith, lt)))

ports_later : (r : Recipe) (port m time k n : ℕ) → time < 1000 * k → AreLater time (of_ports r port m k n)
ports_later r port zero time k n lt = tt
ports_later r port (suc m) time k n lt = both_later time (of_port r port k n) (of_ports r (port + 1) m k n) (port_later r port time k n lt) (ports_later r (port + 1) m time k n lt)

none_made : (r : Recipe) (port m k : ℕ) → of_ports r port m k 0 ≡ []
none_made r port zero k = refl
none_made r port (suc m) k = none_made r (port + 1) m k

port_here : (r : Recipe) (port k n : ℕ) → k % r.ports ≡ port → of_port r port k (suc n) ≡ arrival_of (sent_at r k) ∷ of_port r port (suc k) n
port_here r port k n e = ap (λ (sents : List (Packet × List ℕ)). map arrival_of sents) (here port (sent_at r k) (sent_from r (suc k) n) (eq-eqb (k % r.ports) port e))

port_elsewhere : (r : Recipe) (port k n : ℕ) → (k % r.ports ≡ port → ⊥) → of_port r port k (suc n) ≡ of_port r port (suc k) n
port_elsewhere r port k n ne = ap (λ (sents : List (Packet × List ℕ)). map arrival_of sents) (elsewhere port (sent_at r k) (sent_from r (suc k) n) (ne_eqb (k % r.ports) port ne))

-- no port from this one on has the next packet
ports_elsewhere : (r : Recipe) (port m k n : ℕ) → k % r.ports < port → of_ports r port m k (suc n) ≡ of_ports r port m (suc k) n
ports_elsewhere r port zero k n lt = refl
ports_elsewhere r port (suc m) k n lt =
    ap (λ (xs : List Arrival). xs ++ of_ports r (port + 1) m k (suc n)) (port_elsewhere r port k n (λ e. omega (arith, e, lt)))
    ∙ ap (λ (xs : List Arrival). of_port r port (suc k) n ++ xs) (ports_elsewhere r (port + 1) m k n (omega (arith, lt)))

-- the next packet stands among those of all ports, and the others are those behind it
record Stands (r : Recipe) (port m k n : ℕ) : Type 0 where
  pub before : List Arrival
  pub behind : List Arrival
  pub all : of_ports r port m k (suc n) ≡ before ++ (arrival_of (sent_at r k) ∷ behind)
  pub others : of_ports r port m (suc k) n ≡ before ++ behind

stands_first : (r : Recipe) (port m k n : ℕ) → k % r.ports ≡ port → Stands r port (suc m) k n
stands_first r port m k n e = record {
  before = [];
  behind = of_port r port (suc k) n ++ of_ports r (port + 1) m (suc k) n;
  all =
      ap (λ (xs : List Arrival). xs ++ of_ports r (port + 1) m k (suc n)) (port_here r port k n e)
      ∙ ap (λ (xs : List Arrival). arrival_of (sent_at r k) ∷ (of_port r port (suc k) n ++ xs)) (ports_elsewhere r (port + 1) m k n (omega (arith, e)));
  others = refl;
}

stands_later : (r : Recipe) (port m k n : ℕ) → (k % r.ports ≡ port → ⊥) → Stands r (port + 1) m k n → Stands r port (suc m) k n
stands_later r port m k n ne s =
    let mine : List Arrival = of_port r port (suc k) n in
    record {
      before = mine ++ s.before;
      behind = s.behind;
      all =
          ap (λ (xs : List Arrival). xs ++ of_ports r (port + 1) m k (suc n)) (port_elsewhere r port k n ne)
          ∙ ap (λ (xs : List Arrival). mine ++ xs) s.all
          ∙ sym (append_assoc mine s.before (arrival_of (sent_at r k) ∷ s.behind));
      others = ap (λ (xs : List Arrival). mine ++ xs) s.others ∙ sym (append_assoc mine s.before s.behind);
    }

stands_either : (r : Recipe) (port m k n : ℕ) → port ≤ k % r.ports → (port < k % r.ports → Stands r (port + 1) m k n) → ((k % r.ports ≡ port) ⊎ ((k % r.ports < port) ⊎ (port < k % r.ports))) → Stands r port (suc m) k n
stands_either r port m k n le go (inl e) = stands_first r port m k n e
stands_either r port m k n le go (inr (inl less)) = absurd (omega (arith, le, less))
stands_either r port m k n le go (inr (inr more)) = stands_later r port m k n (λ e. omega (arith, e, more)) (go more)

stands : (r : Recipe) (port m k n : ℕ) → port ≤ k % r.ports → k % r.ports < port + m → Stands r port m k n
stands r port zero k n le lt = absurd (omega (arith, le, lt))
stands r port (suc m) k n le lt =
    stands_either r port m k n le (λ more. stands r (port + 1) m k n (omega (arith, more)) (omega (arith, lt))) (cases_order (k % r.ports) port)

-- All in capture order come as they are made.
pub merged : (r : Recipe) → 1 ≤ r.ports → (k n : ℕ) → in_order (of_ports r 0 r.ports k n) ≡ made_from r k n
merged r some k zero = ap in_order (none_made r 0 r.ports k)
merged r some k (suc n) =
    let s = stands r 0 r.ports k n (omega arith) (omega (arith, mod_below k r.ports some)) in
    let t : Arrival = arrival_of (sent_at r k) in
    let later : AreLater t.packet.time (s.before ++ s.behind) = subst (AreLater (1000 * k)) s.others (ports_later r 0 r.ports (1000 * k) (suc k) n (omega arith)) in
    ap in_order s.all
    ∙ front t s.before s.behind later
    ∙ ap (λ (xs : List Arrival). t ∷ in_order xs) (sym s.others)
    ∙ ap (λ (xs : List Arrival). t ∷ xs) (merged r some (suc k) n)
