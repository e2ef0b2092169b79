-- The packets of a port are numbered from 0, and so are the records of its capture.
use Rattle.std.proofs.Common.{◌≡◌, ℕ, zero, suc, ◌+◌, ◌*◌, ◌/◌, ◌%◌, ◌<◌, ◌≤◌, ◌^◌, ◌⊎◌, inl, inr, Bool, true, false, List, ◌∷◌, length, map, refl, sym, ap, ◌∙◌, arith}
use Rattle.std.specs.Prelude.{Option, ◌==◌, max}
use Rattle.std.proofs.lemmas.Bool.{cases_lt, eqb-true, eqb-false}
use Rattle.std.proofs.lemmas.Nat.{div-mul-add, mod-mul-add, div-add-mod', mod_below}
use Rattle.nf_base.specs.declared.packet.Packet.{Packet}
use Rattle.nf_base.specs.declared.packet.Fields.{Fields}
use Rattle.nf_base.specs.Doors.{served_fields}
use Rattle.frame_ip.specs.Frame.{fields_in}
use Rattle.pcap_file.specs.declared.form.TimeUnit.TheVariants.{Nanoseconds}
use Rattle.pcap_file.specs.Record.{record_at, time_of}
use Rattle.pcapng_file.specs.Heard.{heard_in}
use Rattle.packet_feed.specs.Arrivals.{Arrival, arrivals_from}
use Rattle.packet_feed.specs.Arrivals as arrivals
use Rattle.gen_traffic.specs.Traffic.{Recipe, id_at, packet_at, frame_at, sent_at, sent_from}
use Rattle.gen_traffic.specs.Laws.{EachIsHandled}
use Rattle.made_captures.specs.Records.{record_of, at_port}
use Rattle.made_captures.specs.Laws.{arrival_of}
use Rattle.made_captures.proofs.Walks.{here, elsewhere}

-- so many packets came in at a port before packet k
pub record Came (ports port k seq : ℕ) : Type 0 where
  pub not_yet : k % ports ≤ port → seq ≡ k / ports
  pub this_turn : port < k % ports → seq ≡ k / ports + 1

pub none_came : (ports port : ℕ) → 1 ≤ ports → Came ports port 0 0
none_came ports port some =
    let e : 0 ≡ 0 * ports + 0 = omega arith in
    let d : 0 / ports ≡ 0 = ap (λ (n : ℕ). n / ports) e ∙ div-mul-add 0 ports 0 (omega arith) in
    let m : 0 % ports ≡ 0 = ap (λ (n : ℕ). n % ports) e ∙ mod-mul-add 0 ports 0 (omega arith) in
    record { not_yet = λ le. sym d; this_turn = λ lt. absurd (omega (arith, m, lt)) }

-- the next packet comes in at the next port, or where there is none at the first
record Next (ports k : ℕ) : Type 0 where
  pub goes : k % ports + 1 < ports → (suc k / ports ≡ k / ports) × (suc k % ports ≡ k % ports + 1)
  pub turns : k % ports + 1 ≡ ports → (suc k / ports ≡ k / ports + 1) × (suc k % ports ≡ 0)

next : (ports k : ℕ) → 1 ≤ ports → Next ports k
next ports k some =
    let q = k / ports in
    let m = k % ports in
    let whole : q * ports + m ≡ k = div-add-mod' k ports in
    record {
      goes = λ lt.
          let e : q * ports + (m + 1) ≡ suc k = omega (arith, whole) in
          (ap (λ (n : ℕ). n / ports) (sym e) ∙ div-mul-add q ports (m + 1) lt, ap (λ (n : ℕ). n % ports) (sym e) ∙ mod-mul-add q ports (m + 1) lt);
      turns = λ last.
          let f : (q + 1) * ports ≡ q * ports + ports = omega arith in
          let e : (q + 1) * ports + 0 ≡ suc k = omega (arith, whole, last, f) in
          (ap (λ (n : ℕ). n / ports) (sym e) ∙ div-mul-add (q + 1) ports 0 some, ap (λ (n : ℕ). n % ports) (sym e) ∙ mod-mul-add (q + 1) ports 0 some);
    }

pub came_here : (ports port k seq : ℕ) → 1 ≤ ports → port < ports → Came ports port k seq → k % ports ≡ port → (k % ports + 1 < ports) ⊎ (ports ≤ k % ports + 1) → Came ports port (suc k) (seq + 1)
came_here ports port k seq some lt c e (inl more) =
    let n = (next ports k some).goes more in
    record { not_yet = λ le. absurd (omega (arith, n.1, le, e)); this_turn = λ past. omega (arith, n.0, c.not_yet (omega (arith, e))) }
came_here ports port k seq some lt c e (inr last) =
    let n = (next ports k some).turns (omega (arith, last, mod_below k ports some)) in
    record { not_yet = λ le. omega (arith, n.0, c.not_yet (omega (arith, e))); this_turn = λ past. absurd (omega (arith, n.1, past)) }

apart : (a b : ℕ) → (a ≡ b → ⊥) → b ≤ a → b < a
apart a b ne le = omega (arith, ne)

pub came_elsewhere : (ports port k seq : ℕ) → 1 ≤ ports → port < ports → Came ports port k seq → (k % ports ≡ port → ⊥) → (k % ports + 1 < ports) ⊎ (ports ≤ k % ports + 1) → Came ports port (suc k) seq
came_elsewhere ports port k seq some lt c ne (inl more) =
    let n = (next ports k some).goes more in
    record {
      not_yet = λ le. c.not_yet (omega (arith, n.1, le)) ∙ sym n.0;
      this_turn = λ past. c.this_turn (apart (k % ports) port ne (omega (arith, n.1, past))) ∙ ap (λ (i : ℕ). i + 1) (sym n.0);
    }
came_elsewhere ports port k seq some lt c ne (inr last) =
    let below = mod_below k ports some in
    let n = (next ports k some).turns (omega (arith, last, below)) in
    record {
      not_yet = λ le. c.this_turn (apart (k % ports) port ne (omega (arith, last, lt))) ∙ sym n.0;
      this_turn = λ past. absurd (omega (arith, n.1, past));
    }

-- ---- one packet

timed : (time : ℕ) (frame : List ℕ) → time < 2 ^ 32 * 1000 → time_of Nanoseconds (record_at time (length frame) frame) ≡ time
timed time frame lt = omega arith

abbrev arrival_with : ℕ → ℕ → ℕ → Option Fields → ℕ → List ℕ → Arrival
arrival_with port seq time fields original frame = record {
  packet = record { id = record { port = port; seq = seq }; time = time; fields = fields };
  original = original;
  frame = frame;
}

with_parts : (port port' seq seq' time time' : ℕ) (fields fields' : Option Fields) (original : ℕ) (frame : List ℕ) → port ≡ port' → seq ≡ seq' → time ≡ time' → fields ≡ fields'
    → arrival_with port seq time fields original frame ≡ arrival_with port' seq' time' fields' original frame
with_parts port port' seq seq' time time' fields fields' original frame p q t f = rw (p, q, t, f) refl

arrival_is : (r : Recipe) (six : Bool) (port seq time k : ℕ) → EachIsHandled → k % r.ports ≡ port → k / r.ports ≡ seq → time ≡ 1000 * k
    → arrivals.arrival_of six port seq time true (length (frame_at r k)) (frame_at r k) ≡ arrival_of (sent_at r k)
unfolding arrivals.arrival_of
arrival_is r six port seq time k handled p q t =
    let frame : List ℕ = frame_at r k in
    with_parts port (k % r.ports) seq (k / r.ports) time (1000 * k) (served_fields six (fields_in frame (length frame))) (packet_at r k).fields (length frame) frame (sym p) (sym q) t (ap (served_fields six) (handled r k))

-- ---- all of a port

-- the packets of records that are read one after another, and those that they were made of
abbrev ReadAgain : Recipe → Bool → ℕ → ℕ → ℕ → ℕ → List (Packet × List ℕ) → Type 0
ReadAgain r six port seq latest k sents = arrivals_from six port seq latest (map (heard_in Nanoseconds) (map record_of sents)) ≡ map arrival_of sents

one_more : (r : Recipe) (six : Bool) (port k n seq latest : ℕ) → EachIsHandled → 1 ≤ r.ports → port < r.ports → k < 2 ^ 32 → Came r.ports port k seq → latest ≤ 1000 * k → (b : Bool) → ((id_at r k).port == port) ≡ b
    → ((seq' latest' : ℕ) → Came r.ports port (suc k) seq' → latest' ≤ 1000 * suc k → ReadAgain r six port seq' latest' (suc k) (at_port port (sent_from r (suc k) n)))
    → ReadAgain r six port seq latest k (at_port port (sent_from r k (suc n)))
one_more r six port k n seq latest handled some lt few came le true e go =
    let s = sent_at r k in
    let later = at_port port (sent_from r (suc k) n) in
    let is : k % r.ports ≡ port = eqb-true (k % r.ports) port e in
    let now : max latest (time_of Nanoseconds (record_of s)) ≡ 1000 * k = omega (arith, timed (1000 * k) (frame_at r k) (omega arith), le) in
    let after = came_here r.ports port k seq some lt came is (cases_lt (k % r.ports + 1) r.ports) in
    let t : ℕ = max latest (time_of Nanoseconds (record_of s)) in
    ap (λ (sents : List (Packet × List ℕ)). arrivals_from six port seq latest (map (heard_in Nanoseconds) (map record_of sents))) (here port s (sent_from r (suc k) n) e)
    ∙ ap (λ (a : Arrival). a ∷ arrivals_from six port (seq + 1) t (map (heard_in Nanoseconds) (map record_of later))) (arrival_is r six port seq t k handled is (sym (came.not_yet (omega (arith, is)))) now)
    ∙ ap (λ (xs : List Arrival). arrival_of s ∷ xs) (go (seq + 1) t after (omega (arith, now)))
    ∙ sym (ap (λ (sents : List (Packet × List ℕ)). map arrival_of sents) (here port s (sent_from r (suc k) n) e))
one_more r six port k n seq latest handled some lt few came le false e go =
    let s = sent_at r k in
    let after = came_elsewhere r.ports port k seq some lt came (eqb-false (k % r.ports) port e) (cases_lt (k % r.ports + 1) r.ports) in
    ap (λ (sents : List (Packet × List ℕ)). arrivals_from six port seq latest (map (heard_in Nanoseconds) (map record_of sents))) (elsewhere port s (sent_from r (suc k) n) e)
    ∙ go seq latest after (omega (arith, le))
    ∙ sym (ap (λ (sents : List (Packet × List ℕ)). map arrival_of sents) (elsewhere port s (sent_from r (suc k) n) e))

pub read_again : (r : Recipe) (six : Bool) (port k n seq latest : ℕ) → EachIsHandled → 1 ≤ r.ports → port < r.ports → k + n ≤ 2 ^ 32 → Came r.ports port k seq → latest ≤ 1000 * k
    → ReadAgain r six port seq latest k (at_port port (sent_from r k n))
read_again r six port k zero seq latest handled some lt few came le = refl
read_again r six port k (suc n) seq latest handled some lt few came le =
    one_more r six port k n seq latest handled some lt (omega (arith, few)) came le ((id_at r k).port == port) refl
    (λ seq' latest' came' le'. read_again r six port (suc k) n seq' latest' handled some lt (omega (arith, few)) came' le')
