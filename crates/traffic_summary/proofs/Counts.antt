-- How many packets come in at a port.
use Rattle.std.proofs.Common.{◌≡◌, ℕ, zero, suc, ◌+◌, ◌/◌, ◌%◌, ◌<◌, ◌≤◌, ◌⊎◌, inl, inr, Bool, true, false, cond, List, length, refl, sym, ap, subst, ◌∙◌, arith}
use Rattle.std.specs.Prelude.{◌==◌}
use Rattle.std.proofs.lemmas.Bool.{cases_lt, eqb-true, eqb-false, lt-ltb, le-ltb}
use Rattle.nf_base.specs.declared.packet.Packet.{Packet}
use Rattle.gen_traffic.specs.Traffic.{Recipe, id_at, sent_at, sent_from, traffic}
use Rattle.made_captures.specs.Records.{at_port}
use Rattle.made_captures.proofs.Walks.{here, elsewhere}
use Rattle.made_captures.proofs.Turns.{Came, none_came, came_here, came_elsewhere}
use Rattle.traffic_summary.specs.Summary.{count_at}
use Rattle.traffic_summary.specs.Laws.{PortsAreCounted}

came_as : (ports port k seq k' seq' : ℕ) → k ≡ k' → seq ≡ seq' → Came ports port k seq → Came ports port k' seq'
came_as ports port k seq k' seq' e f c = subst (λ (n : ℕ). Came ports port k' n) f (subst (λ (n : ℕ). Came ports port n seq) e c)

one_more : (r : Recipe) (port k n seq : ℕ) (b : Bool) → 1 ≤ r.ports → port < r.ports → Came r.ports port k seq → ((id_at r k).port == port) ≡ b
    → ((next : ℕ) → Came r.ports port (suc k) next → Came r.ports port (suc k + n) (next + length (at_port port (sent_from r (suc k) n))))
    → Came r.ports port (k + suc n) (seq + length (at_port port (sent_from r k (suc n))))
one_more r port k n seq true some lt c e go =
    let later = at_port port (sent_from r (suc k) n) in
    let is : k % r.ports ≡ port = eqb-true (k % r.ports) port e in
    let all : length (at_port port (sent_from r k (suc n))) ≡ suc (length later) = ap (λ (xs : List (Packet × List ℕ)). length xs) (here port (sent_at r k) (sent_from r (suc k) n) e) in
    came_as r.ports port (suc k + n) (seq + 1 + length later) (k + suc n) (seq + length (at_port port (sent_from r k (suc n)))) (omega arith) (omega (arith, all))
    (go (seq + 1) (came_here r.ports port k seq some lt c is (cases_lt (k % r.ports + 1) r.ports)))
one_more r port k n seq false some lt c e go =
    let later = at_port port (sent_from r (suc k) n) in
    let all : length (at_port port (sent_from r k (suc n))) ≡ length later = ap (λ (xs : List (Packet × List ℕ)). length xs) (elsewhere port (sent_at r k) (sent_from r (suc k) n) e) in
    came_as r.ports port (suc k + n) (seq + length later) (k + suc n) (seq + length (at_port port (sent_from r k (suc n)))) (omega arith) (omega (arith, all))
    (go seq (came_elsewhere r.ports port k seq some lt c (eqb-false (k % r.ports) port e) (cases_lt (k % r.ports + 1) r.ports)))

all_came : (r : Recipe) (port k n seq : ℕ) → 1 ≤ r.ports → port < r.ports → Came r.ports port k seq → Came r.ports port (k + n) (seq + length (at_port port (sent_from r k n)))
all_came r port k zero seq some lt c = came_as r.ports port k seq (k + 0) (seq + 0) (omega arith) (omega arith) c
all_came r port k (suc n) seq some lt c =
    one_more r port k n seq ((id_at r k).port == port) some lt c refl (λ next came. all_came r port (suc k) n next some lt came)

counted_so : (count ports port seq : ℕ) → Came ports port count seq → (port < count % ports) ⊎ (count % ports ≤ port) → seq ≡ count_at count ports port
counted_so count ports port seq c (inl lt) = c.this_turn lt ∙ ap (λ (b : Bool). count / ports + cond b 1 0) (sym (lt-ltb port (count % ports) lt))
counted_so count ports port seq c (inr le) = let whole : count / ports ≡ count / ports + 0 = omega arith in c.not_yet le ∙ whole ∙ ap (λ (b : Bool). count / ports + cond b 1 0) (sym (le-ltb port (count % ports) le))

pub are_counted : PortsAreCounted
are_counted r port lt =
    let some : 1 ≤ r.ports = omega (arith, lt) in
    let long = length (at_port port (traffic r)) in
    let came = came_as r.ports port (0 + r.count) (0 + long) r.count long (omega arith) (omega arith) (all_came r port 0 r.count 0 some lt (none_came r.ports port some)) in
    counted_so r.count r.ports port long came (cases_lt port (r.count % r.ports))
