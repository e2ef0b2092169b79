-- Which packets lines are of, where each port's come in their order.
use Rattle.std.proofs.Common.{◌≡◌, ◌≢◌, ℕ, ◌==◌, Bool, true, false, cond, List, [], ◌∷◌, ◌++◌, length, map, filter, Some, inl, inr, refl, sym, ap, ◌∙◌, subst, append_assoc, arith}
use Rattle.std.proofs.lemmas.Bool.{eq-eqb, ne_eqb, cases_eq}
use Rattle.std.proofs.lemmas.List.{length-map}
use Rattle.std.proofs.lemmas.List.Elements.{filter-append}
use Rattle.std.proofs.lemmas.Option.{same_Some}
use Rattle.packet_feed.specs.Arrivals.{Arrival}
use Rattle.packet_feed.specs.Ports.{is_of}
use Rattle.run_history.specs.declared.line.Mode.{Mode}
use Rattle.run_history.specs.declared.line.Mode.TheVariants.{One, Shard, Lock}
use Rattle.run_history.specs.declared.line.JournalLine.{JournalLine}
use Rattle.journal_check.specs.Judging.{port_in}
use Rattle.stream_run.specs.Runs.{Handled}
use Rattle.stream_run.specs.Rules.{order_in}
use Rattle.stream_run.specs.Streaming.{arrival_of}
use Rattle.stream_run.proofs.Stepping.{same_front}
use Rattle.stream_run.proofs.Ordered.{fewer_by}
use Rattle.replay_run.specs.Replaying.{line_in, AreFirstIn}

-- the first of the first packets are so too
pub first_front : (mode : Mode) (all xs ys : List Arrival) → AreFirstIn mode (Some all) (xs ++ ys) → AreFirstIn mode (Some all) xs
first_front mode all xs ys h = fewer_by (order_in mode) (Some all) xs ys h

pub keep_head : (port : ℕ) (a : Arrival) (xs : List Arrival) → a.packet.id.port ≡ port → filter (is_of port) (a ∷ xs) ≡ a ∷ filter (is_of port) xs
keep_head port a xs same = ap (λ (b : Bool). cond b (a ∷ filter (is_of port) xs) (filter (is_of port) xs)) (eq-eqb a.packet.id.port port same)

pub drop_head : (port : ℕ) (a : Arrival) (xs : List Arrival) → a.packet.id.port ≢ port → filter (is_of port) (a ∷ xs) ≡ filter (is_of port) xs
drop_head port a xs other = ap (λ (b : Bool). cond b (a ∷ filter (is_of port) xs) (filter (is_of port) xs)) (ne_eqb a.packet.id.port port other)

same_ports : (x y : Handled) → line_in x ≡ line_in y → x.arrival.packet.id.port ≡ y.arrival.packet.id.port
same_ports x y told = same_Some _ _ (ap port_in told)

-- as many packets of each port
as_many : (port : ℕ) (xs ys : List Handled) → map line_in xs ≡ map line_in ys → length (filter (is_of port) (map arrival_of xs)) ≡ length (filter (is_of port) (map arrival_of ys))
as_many port [] [] e = refl
as_many port [] (y ∷ ys) e = absurd cc
as_many port (x ∷ xs) [] e = absurd cc
as_many port (x ∷ xs) (y ∷ ys) e =
    let told : line_in x ≡ line_in y = cc in
    let rest : map line_in xs ≡ map line_in ys = cc in
    both (x.arrival.packet.id.port == port) (y.arrival.packet.id.port == port) (ap (λ (n : ℕ). n == port) (same_ports x y told)) (as_many port xs ys rest)
  where
    us : List Arrival
    us = filter (is_of port) (map arrival_of xs)

    vs : List Arrival
    vs = filter (is_of port) (map arrival_of ys)

    both : (b d : Bool) → b ≡ d → length us ≡ length vs → length (cond b (x.arrival ∷ us) us) ≡ length (cond d (y.arrival ∷ vs) vs)
    both true true e later = omega (arith, later)
    both false false e later = later
    both true false e later = absurd cc
    both false true e later = absurd cc

-- lists that have the same packets of each port, in the same order of ports
same_lists_by : (xs ys : List Handled) → map line_in xs ≡ map line_in ys → ((port : ℕ) → filter (is_of port) (map arrival_of xs) ≡ filter (is_of port) (map arrival_of ys)) → map arrival_of xs ≡ map arrival_of ys
same_lists_by [] [] e h = refl
same_lists_by [] (y ∷ ys) e h = absurd cc
same_lists_by (x ∷ xs) [] e h = absurd cc
same_lists_by (x ∷ xs) (y ∷ ys) e h =
    let told : line_in x ≡ line_in y = cc in
    let rest : map line_in xs ≡ map line_in ys = cc in
    let p = y.arrival.packet.id.port in
    let same : x.arrival.packet.id.port ≡ p = same_ports x y told in
    let us = map arrival_of xs in
    let vs = map arrival_of ys in
    let own : x.arrival ∷ filter (is_of p) us ≡ y.arrival ∷ filter (is_of p) vs = sym (keep_head p x.arrival us same) ∙ h p ∙ keep_head p y.arrival vs refl in
    let first : x.arrival ≡ y.arrival = cc in
    let mine : filter (is_of p) us ≡ filter (is_of p) vs = cc in
    ap (λ (a : Arrival). a ∷ us) first
    ∙ ap (λ (t : List Arrival). y.arrival ∷ t)
    (same_lists_by xs ys rest (λ q. elim (cases_eq q p) [
      | inl here ↦ subst (λ (n : ℕ). filter (is_of n) us ≡ filter (is_of n) vs) (sym here) mine
      | inr there ↦ sym (drop_head q x.arrival us (λ is. there (sym is ∙ same))) ∙ h q ∙ drop_head q y.arrival vs (λ is. there (sym is))
    ]))

same_long : (xs ys : List Handled) → map line_in xs ≡ map line_in ys → length (map arrival_of xs) ≡ length (map arrival_of ys)
same_long xs ys e =
    length-map xs arrival_of ∙ sym (length-map xs line_in) ∙ ap (λ (ls : List JournalLine). length ls) e ∙ length-map ys line_in ∙ sym (length-map ys arrival_of)

-- the same lines are of the same packets
pub same_packets : (mode : Mode) (all : List Arrival) (xs ys : List Handled) → map line_in xs ≡ map line_in ys → AreFirstIn mode (Some all) (map arrival_of xs) → AreFirstIn mode (Some all) (map arrival_of ys) → map arrival_of xs ≡ map arrival_of ys
same_packets One all xs ys e a b = same_front (map arrival_of xs) (map arrival_of ys) a.0 b.0 (same_long xs ys e) (sym a.1 ∙ b.1)
same_packets Shard all xs ys e a b = same_front (map arrival_of xs) (map arrival_of ys) a.0 b.0 (same_long xs ys e) (sym a.1 ∙ b.1)
same_packets Lock all xs ys e a b = same_lists_by xs ys e (λ port.
    let u = a port in
    let v = b port in
    same_front (filter (is_of port) (map arrival_of xs)) (filter (is_of port) (map arrival_of ys)) u.0 v.0 (as_many port xs ys e) (sym u.1 ∙ v.1))
