-- A made capture is whole, and its packets are those of its port; and so are all of them beside files.
use Rattle.std.proofs.Common.{◌≡◌, ℕ, zero, suc, ◌+◌, ◌-◌, ◌*◌, ◌%◌, ◌<◌, ◌≤◌, ◌^◌, Bool, true, false, cond, List, [], ◌∷◌, ◌++◌, length, map, refl, sym, ap, ◌∙◌, append-nil, arith}
use Rattle.std.specs.Prelude.{Option, Some, None, ◌==◌, slice_get, option_map, option_and_then}
use Rattle.std.specs.List.{flat_map, AllByRecursion}
use Rattle.std.proofs.lemmas.Bool.{le-leb}
use Rattle.std.proofs.lemmas.List.{length-append}
use Rattle.nf_base.specs.declared.packet.Packet.{Packet}
use Rattle.nf_base.specs.Doors.{six_at}
use Rattle.nf_files.specs.Told.{Told}
use Rattle.pcap_file.specs.Record.{Record, Fits, record_at}
use Rattle.pcap_file.specs.Capture.{Capture, capture_from, capture_within, capture_of, behind}
use Rattle.pcap_file.specs.Spelled.{written_form, written_bytes, header_bytes, capture_bytes}
use Rattle.pcap_file.proofs.Spelling.{is_written}
use Rattle.packet_feed.specs.Arrivals.{Arrival, arrivals_in}
use Rattle.packet_feed.specs.Told.{both, gathered, packets_in}
use Rattle.packet_feed.proofs.Holding.{holds_pcap}
use Rattle.gen_traffic.specs.Traffic.{Recipe, sent_at, sent_from, traffic, frame_at}
use Rattle.gen_traffic.specs.Laws.{EachIsHandled}
use Rattle.made_captures.specs.Records.{record_of, at_port, made_bytes}
use Rattle.made_captures.specs.Captures.{captures_from, captures_of, numbers_from, first_number, left_at}
use Rattle.made_captures.specs.Told.{first_of, with_made}
use Rattle.made_captures.specs.Laws.{IsRecipe, CapturesAreWhole, CapturesAreTraffic}
use Rattle.made_captures.proofs.Turns.{none_came, read_again}
use Rattle.made_captures.proofs.Merged.{of_port, of_ports, merged}

-- ---- one capture

fits_record : (time : ℕ) (frame : List ℕ) → time < 2 ^ 32 * 1000 → length frame ≡ 42 → Fits (record_at time (length frame) frame)
fits_record time frame lt long = record {
  seconds_fit = omega (arith, lt);
  fraction_fits = omega arith;
  original_fits = omega (arith, long);
  frame_fits = omega (arith, long);
}

one_fits : (r : Recipe) (k : ℕ) (sents : List (Packet × List ℕ)) (b : Bool) → k < 2 ^ 32 → AllByRecursion Fits (map record_of sents) → AllByRecursion Fits (map record_of (cond b (sent_at r k ∷ sents) sents))
one_fits r k sents true lt others = (fits_record (1000 * k) (frame_at r k) (omega (arith, lt)) refl, others)
one_fits r k sents false lt others = others

records_fit : (r : Recipe) (port k n : ℕ) → k + n ≤ 2 ^ 32 → AllByRecursion Fits (map record_of (at_port port (sent_from r k n)))
records_fit r port k zero le = tt
records_fit r port k (suc n) le =
    one_fits r k (at_port port (sent_from r (suc k) n)) (k % r.ports == port) (omega (arith, le)) (records_fit r port (suc k) n (omega (arith, le)))

record_long : (r : Recipe) (k : ℕ) → length (written_bytes (record_of (sent_at r k))) ≡ 58
record_long r k = refl

one_long : (r : Recipe) (k n : ℕ) (sents : List (Packet × List ℕ)) (b : Bool) → length (flat_map written_bytes (map record_of sents)) ≤ 58 * n → length (flat_map written_bytes (map record_of (cond b (sent_at r k ∷ sents) sents))) ≤ 58 * suc n
one_long r k n sents true le = omega (arith, le, record_long r k, length-append (written_bytes (record_of (sent_at r k))) (flat_map written_bytes (map record_of sents)))
one_long r k n sents false le = omega (arith, le)

records_long : (r : Recipe) (port k n : ℕ) → length (flat_map written_bytes (map record_of (at_port port (sent_from r k n)))) ≤ 58 * n
records_long r port k zero = omega arith
records_long r port k (suc n) = one_long r k n (at_port port (sent_from r (suc k) n)) (k % r.ports == port) (records_long r port (suc k) n)

nothing_left : (offset : ℕ) → capture_from written_form offset [] ≡ record { form = written_form; records = []; torn = None }
unfolding capture_from capture_within
nothing_left offset = refl

pub are_whole : CapturesAreWhole
are_whole r port is =
    let rs : List Record = map record_of (at_port port (traffic r)) in
    let few : length (capture_bytes rs) < 2 ^ 64 = omega (arith, is.few, records_long r port 0 r.count, length-append header_bytes (flat_map written_bytes rs)) in
    ap capture_of (sym (append-nil (capture_bytes rs)))
    ∙ is_written rs [] (records_fit r port 0 r.count (omega (arith, is.few))) few
    ∙ ap (λ (c : Capture). Some (behind rs c)) (nothing_left (length (capture_bytes rs)))
    ∙ ap (λ (all : List Record). Some (record { form = written_form; records = all; torn = None })) (append-nil rs)

-- ---- one port more

captures_next : (r : Recipe) (port n : ℕ) → captures_from r port (suc n) ≡ captures_from r port n ++ made_bytes r (port + n) ∷ []
captures_next r port zero = let e : port ≡ port + 0 = omega arith in ap (λ (p : ℕ). made_bytes r p ∷ []) e
captures_next r port (suc n) =
    let e : (port + 1) + n ≡ port + suc n = omega arith in
    ap (λ (xs : List (List ℕ)). made_bytes r port ∷ xs) (captures_next r (port + 1) n)
    ∙ ap (λ (p : ℕ). made_bytes r port ∷ (captures_from r (port + 1) n ++ made_bytes r p ∷ [])) e

-- a port more
pub captures_more : (r : Recipe) (port : ℕ) (old new : List (List ℕ)) (capture : List ℕ) → old ≡ captures_from r 0 port → capture ≡ made_bytes r port → new ≡ old ++ capture ∷ [] → new ≡ captures_from r 0 (port + 1)
captures_more r port old new capture e f g =
    let one : port + 1 ≡ suc port = omega arith in
    let here : 0 + port ≡ port = omega arith in
    g
    ∙ ap (λ (xs : List (List ℕ)). xs ++ capture ∷ []) e
    ∙ ap (λ (x : List ℕ). captures_from r 0 port ++ x ∷ []) (f ∙ ap (made_bytes r) (sym here))
    ∙ sym (captures_next r 0 port)
    ∙ ap (captures_from r 0) (sym one)

numbers_next : (number n : ℕ) → numbers_from number (suc n) ≡ numbers_from number n ++ (number + n) ∷ []
numbers_next number zero = let e : number ≡ number + 0 = omega arith in ap (λ (p : ℕ). p ∷ []) e
numbers_next number (suc n) =
    let e : (number + 1) + n ≡ number + suc n = omega arith in
    ap (λ (xs : List ℕ). number ∷ xs) (numbers_next (number + 1) n)
    ∙ ap (λ (p : ℕ). number ∷ (numbers_from (number + 1) n ++ p ∷ [])) e

pub numbers_more : (number n : ℕ) → numbers_from number (n + 1) ≡ numbers_from number n ++ (number + n) ∷ []
numbers_more number n = let one : n + 1 ≡ suc n = omega arith in ap (numbers_from number) one ∙ numbers_next number n

-- ---- all of them

packets_are : (r : Recipe) (six : Bool) (port : ℕ) → EachIsHandled → IsRecipe r → port < r.ports → packets_in six port (Some (made_bytes r port)) ≡ Some (of_port r port 0 r.count)
packets_are r six port handled is lt =
    ap (option_map (arrivals_in six port)) (holds_pcap (made_bytes r port) _ refl (are_whole r port is))
    ∙ ap (λ (xs : List Arrival). Some xs) (read_again r six port 0 r.count 0 0 handled is.some_port lt (omega (arith, is.few)) (none_came r.ports port is.some_port) (omega arith))

pub captures_long : (r : Recipe) (port n : ℕ) → length (captures_from r port n) ≡ n
captures_long r port zero = refl
captures_long r port (suc n) = ap suc (captures_long r (port + 1) n)

capture_at : (r : Recipe) (port n j : ℕ) → j < n → slice_get (captures_from r port n) j ≡ Some (made_bytes r (port + j))
capture_at r port zero j lt = absurd (omega (arith, lt))
capture_at r port (suc n) zero lt = let e : port ≡ port + 0 = omega arith in ap (λ (p : ℕ). Some (made_bytes r p)) e
capture_at r port (suc n) (suc j) lt = let e : (port + 1) + j ≡ port + suc j = omega arith in capture_at r (port + 1) n j (omega (arith, lt)) ∙ ap (λ (p : ℕ). Some (made_bytes r p)) e

pub left_here : (captures : List (List ℕ)) (n port number : ℕ) → length captures ≡ n → number ≡ first_number n + port → left_at captures number ≡ slice_get captures port
left_here captures n port number long e =
    let le : first_number (length captures) ≤ number = omega (arith, long, e) in
    let place : number - first_number (length captures) ≡ port = omega (arith, long, e) in
    ap (λ (b : Bool). option_and_then (λ (p : ℕ). slice_get captures p) (cond b (Some (number - first_number (length captures))) None)) (le-leb (first_number (length captures)) number le)
    ∙ ap (slice_get captures) place

rest_is : (r : Recipe) (mark : List ℕ) (told : Told) (port number : ℕ) → port < r.ports → number ≡ first_number r.ports + port → (with_made (captures_of r) mark told).rest number ≡ Some (made_bytes r port)
rest_is r mark told port number lt e =
    let here : 0 + port ≡ port = omega arith in
    ap (λ (left : Option (List ℕ)). first_of left (told.rest number)) (left_here (captures_of r) r.ports port number (captures_long r 0 r.ports) e ∙ capture_at r 0 r.ports port lt ∙ ap (λ (p : ℕ). Some (made_bytes r p)) here)

gathered_are : (six : List Bool) (r : Recipe) (mark : List ℕ) (told : Told) (port n number : ℕ) → EachIsHandled → IsRecipe r → port + n ≡ r.ports → number ≡ first_number r.ports + port
    → gathered (λ (p file : ℕ). packets_in (six_at six p) p ((with_made (captures_of r) mark told).rest file)) port (numbers_from number n) ≡ Some (of_ports r port n 0 r.count)
gathered_are six r mark told port zero number handled is e f = refl
gathered_are six r mark told port (suc n) number handled is e f =
    let lt : port < r.ports = omega (arith, e) in
    let others : List Arrival = of_ports r (port + 1) n 0 r.count in
    let here : packets_in (six_at six port) port ((with_made (captures_of r) mark told).rest number) ≡ Some (of_port r port 0 r.count) = ap (packets_in (six_at six port) port) (rest_is r mark told port number lt f) ∙ packets_are r (six_at six port) port handled is lt in
    let more = gathered_are six r mark told (port + 1) n (number + 1) handled is (omega (arith, e)) (omega (arith, f)) in
    ap (both (packets_in (six_at six port) port ((with_made (captures_of r) mark told).rest number))) more
    ∙ ap (λ (first : Option (List Arrival)). both first (Some others)) here

pub are_traffic : EachIsHandled → CapturesAreTraffic
are_traffic handled six r mark told is = record {
  all = of_ports r 0 r.ports 0 r.count;
  packets = gathered_are six r mark told 0 r.ports (first_number r.ports) handled is (omega arith) (omega arith);
  order = merged r is.some_port 0 r.count;
}
