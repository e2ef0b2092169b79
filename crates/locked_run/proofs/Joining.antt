-- An order of packets, with what stands at their places.
use Rattle.std.proofs.Common.{◌≡◌, ℕ, zero, suc, ◌+◌, ◌<◌, ◌%◌, ◌==◌, Bool, true, false, List, [], ◌∷◌, ◌++◌, length, map, filter, cond, Option, Some, None, slice_get, slice_index_or, option_map, if◌then◌else◌, refl, ap, sym, ◌∙◌, subst, arith, append_assoc, length-append, eqb-true, eq-eqb}
use Rattle.std.specs.List.{AllByRecursion}
use Rattle.std.proofs.lemmas.List.{length-map}
use Rattle.std.proofs.lemmas.Option.{slice_get-map, slice_get_within, slice_get-get_or, same_Some}
use Rattle.std.proofs.lemmas.Nat.{mod_below}
use Rattle.nf_base.specs.declared.packet.Packet.{Packet}
use Rattle.nf_base.specs.declared.done.Done.{Done}
use Rattle.nf_base.specs.declared.state.State.{State}
use Rattle.nf_base.specs.Text.{Function}
use Rattle.nf_base.specs.Step.{opening}
use Rattle.nf_base.specs.Runs.{Handling, run}
use Rattle.packet_feed.specs.Arrivals.{Arrival, packet_of}
use Rattle.lock_core.specs.declared.call.Ordered.{Ordered}
use Rattle.lock_core.specs.Histories as order
use Rattle.lock_workers.specs.Dealing.{worker_of, places_from}
use Rattle.lock_workers.specs.RunResult.{AreAt, places_by, AreHandled}
use Rattle.stream_run.specs.Runs.{Handled}
use Rattle.stream_run.specs.Streaming.{IsUndivided, arrival_of, handling_in}
use Rattle.locked_run.specs.Handled.{in_front, joined}
use Rattle.nf_base.specs.Orders.{KeepsPortOrder}
use Rattle.packet_feed.specs.Ports.{is_of}
use Rattle.stream_run.specs.Orders.{port_of}

-- the packet that stands at a place
pub record Stands (batch : List Arrival) (place : ℕ) (x : Ordered) : Type 0 where
  pub a : Arrival
  pub at : slice_get batch place ≡ Some a
  pub packet : a.packet ≡ x.packet

some_packet : (o : Option Arrival) (x : Ordered) → option_map packet_of o ≡ Some x.packet → (a : Arrival) × (o ≡ Some a) × (a.packet ≡ x.packet)
some_packet None x e = absurd (cc e)
some_packet (Some a) x e = (a, refl, same_Some _ _ e)

pub stands_at : (batch : List Arrival) (place : ℕ) (x : Ordered) → slice_get (map packet_of batch) place ≡ Some x.packet → Stands batch place x
stands_at batch place x e =
    let r = some_packet (slice_get batch place) x (sym (slice_get-map packet_of batch place) ∙ e) in
    record { a = r.0; at = r.1; packet = r.2 }

-- a packet as it was handled
abbrev pub handled_as : Arrival → Ordered → Handled
handled_as a x = record { arrival = a; worker = x.seat; done = x.done }

pub handled_so : (a : Arrival) (x : Ordered) (worker : ℕ) (done : Done) → worker ≡ x.seat → done ≡ x.done → ◌≡◌ {A = Handled} (record { arrival = a; worker = worker; done = done }) (handled_as a x)
handled_so a x worker done same is = ap (λ (w : ℕ). record { arrival = a; worker = w; done = done }) same ∙ ap (λ (d : Done). record { arrival = a; worker = x.seat; done = d }) is

pub joined_is : (batch : List Arrival) (x : Ordered) (xs : List Ordered) (place : ℕ) (places : List ℕ) (s : Stands batch place x) → joined batch (x ∷ xs) (place ∷ places) ≡ handled_as s.a x ∷ joined batch xs places
joined_is batch x xs place places s = ap (λ (o : Option Arrival). in_front o x (joined batch xs places)) s.at

-- ---- the run

pub same_handlings : (batch : List Arrival) (xs : List Ordered) (places : List ℕ) → AreAt (map packet_of batch) xs places → map handling_in (joined batch xs places) ≡ map order.handling_in xs
same_handlings batch [] places h = refl
same_handlings batch (x ∷ xs) [] h = absurd h
same_handlings batch (x ∷ xs) (place ∷ places) h =
    let s = stands_at batch place x h.0 in
    ap (map handling_in) (joined_is batch x xs place places s)
    ∙ ap (λ (p : Packet). record { packet = p; choices = x.done.picks } ∷ map handling_in (joined batch xs places)) s.packet
    ∙ ap (λ (hs : List Handling). order.handling_in x ∷ hs) (same_handlings batch xs places h.1)

pub same_answers : (batch : List Arrival) (xs : List Ordered) (places : List ℕ) → AreAt (map packet_of batch) xs places → map (λ (h : Handled). h.done) (joined batch xs places) ≡ map order.answer_in xs
same_answers batch [] places h = refl
same_answers batch (x ∷ xs) [] h = absurd h
same_answers batch (x ∷ xs) (place ∷ places) h =
    let s = stands_at batch place x h.0 in
    ap (map (λ (z : Handled). z.done)) (joined_is batch x xs place places s)
    ∙ ap (λ (ds : List Done). x.done ∷ ds) (same_answers batch xs places h.1)

pub undivided_of : (f : Function) (batch : List Arrival) (xs : List Ordered) (places : List ℕ) (state : State) → AreAt (map packet_of batch) xs places → order.Runs f xs state → IsUndivided f (joined batch xs places) state
undivided_of f batch xs places state at runs =
    ap (run f (opening f)) (same_handlings batch xs places at)
    ∙ runs
    ∙ ap (λ (ds : List Done). Some (record { state = state; answers = ds })) (sym (same_answers batch xs places at))

-- ---- each worker's

-- what stands at places
abbrev picked_front : Option Arrival → List Arrival → List Arrival
picked_front None rest = rest
picked_front (Some a) rest = a ∷ rest

abbrev picked : List Arrival → List ℕ → List Arrival
picked batch [] = []
picked batch (place ∷ places) = picked_front (slice_get batch place) (picked batch places)

abbrev is_by : ℕ → Handled → Bool
is_by w h = h.worker == w

picked_by : (batch : List Arrival) (w : ℕ) (xs : List Ordered) (places : List ℕ) → AreAt (map packet_of batch) xs places → map arrival_of (filter (is_by w) (joined batch xs places)) ≡ picked batch (places_by w xs places)
picked_by batch w [] places h = refl
picked_by batch w (x ∷ xs) [] h = absurd h
picked_by batch w (x ∷ xs) (place ∷ places) h =
    let s = stands_at batch place x h.0 in
    ap (λ (hs : List Handled). map arrival_of (filter (is_by w) hs)) (joined_is batch x xs place places s)
    ∙ one (x.seat == w) s.a s.at (picked_by batch w xs places h.1)
  where
    one : (b : Bool) (a : Arrival) → slice_get batch place ≡ Some a → map arrival_of (filter (is_by w) (joined batch xs places)) ≡ picked batch (places_by w xs places)
        → map arrival_of (cond b (handled_as a x ∷ filter (is_by w) (joined batch xs places)) (filter (is_by w) (joined batch xs places))) ≡ picked batch (if b then place ∷ places_by w xs places else places_by w xs places)
    one true a at e = ap (λ (as_list : List Arrival). a ∷ as_list) e ∙ ap (λ (o : Option Arrival). picked_front o (picked batch (places_by w xs places))) (sym at)
    one false a at e = e

abbrev is_worker : ℕ → ℕ → Arrival → Bool
is_worker workers w a = worker_of workers a.packet == w

at_middle : (front : List Arrival) (a : Arrival) (rest : List Arrival) → slice_get (front ++ a ∷ rest) (length front) ≡ Some a
at_middle [] a rest = refl
at_middle (x ∷ front) a rest = at_middle front a rest

own_from : (workers w : ℕ) (front rest : List Arrival) (place : ℕ) → place ≡ length front → picked (front ++ rest) (places_from workers w place (map packet_of rest)) ≡ filter (is_worker workers w) rest
own_from workers w front [] place e = refl
own_from workers w front (a ∷ rest) place e =
    one (is_worker workers w a)
    (ap (λ (as_list : List Arrival). picked as_list (places_from workers w (place + 1) (map packet_of rest))) (sym (append_assoc front (a ∷ []) rest))
    ∙ own_from workers w (front ++ a ∷ []) rest (place + 1) (ap (λ (n : ℕ). n + 1) e ∙ sym (length-append front (a ∷ []))))
  where
    more : List ℕ
    more = places_from workers w (place + 1) (map packet_of rest)

    one : (b : Bool) → picked (front ++ a ∷ rest) (places_from workers w (place + 1) (map packet_of rest)) ≡ filter (is_worker workers w) rest
        → picked (front ++ a ∷ rest) (if b then place ∷ places_from workers w (place + 1) (map packet_of rest) else places_from workers w (place + 1) (map packet_of rest)) ≡ cond b (a ∷ filter (is_worker workers w) rest) (filter (is_worker workers w) rest)
    one true h =
        ap (λ (o : Option Arrival). picked_front o (picked (front ++ a ∷ rest) (places_from workers w (place + 1) (map packet_of rest)))) (ap (slice_get (front ++ a ∷ rest)) e ∙ at_middle front a rest)
        ∙ ap (λ (as_list : List Arrival). a ∷ as_list) h
    one false h = h

-- what each worker handled is what is its own
pub each_own : (f : Function) (workers : ℕ) (batch : List Arrival) (xs : List Ordered) (places : List ℕ) (state : State) → AreHandled f workers (map packet_of batch) xs places state → (w : ℕ) → map arrival_of (filter (is_by w) (joined batch xs places)) ≡ filter (is_worker workers w) batch
each_own f workers batch xs places state h w = picked_by batch w xs places h.at ∙ ap (picked batch) (h.own w) ∙ own_from workers w [] batch 0 refl

-- so each packet is handled by its worker
abbrev AreOwn : ℕ → List Handled → Type 0
AreOwn workers hs = (w : ℕ) → AllByRecursion (λ (a : Arrival). worker_of workers a.packet ≡ w) (map arrival_of (filter (is_by w) hs))

filter_is : (workers w : ℕ) (as_list : List Arrival) → AllByRecursion (λ (a : Arrival). worker_of workers a.packet ≡ w) (filter (is_worker workers w) as_list)
filter_is workers w [] = tt
filter_is workers w (a ∷ as_list) = one (is_worker workers w a) refl (filter_is workers w as_list)
  where
    one : (b : Bool) → is_worker workers w a ≡ b → AllByRecursion (λ (z : Arrival). worker_of workers z.packet ≡ w) (filter (is_worker workers w) as_list)
        → AllByRecursion (λ (z : Arrival). worker_of workers z.packet ≡ w) (cond b (a ∷ filter (is_worker workers w) as_list) (filter (is_worker workers w) as_list))
    one true e h = (eqb-true (worker_of workers a.packet) w e, h)
    one false e h = h

own_each : (workers : ℕ) (hs : List Handled) → AreOwn workers hs → AllByRecursion (λ (h : Handled). h.worker ≡ worker_of workers h.arrival.packet) hs
own_each workers [] own = tt
own_each workers (h ∷ hs) own = (first (is_by h.worker h) (eq-eqb h.worker h.worker refl) (own h.worker), own_each workers hs (λ w. rest w (is_by w h) (own w)))
  where
    first : (b : Bool) → b ≡ true → AllByRecursion (λ (a : Arrival). worker_of workers a.packet ≡ h.worker) (map arrival_of (cond b (h ∷ filter (is_by h.worker) hs) (filter (is_by h.worker) hs))) → h.worker ≡ worker_of workers h.arrival.packet
    first true e all = sym all.0
    first false e all = absurd (cc e)

    rest : (w : ℕ) (b : Bool) → AllByRecursion (λ (a : Arrival). worker_of workers a.packet ≡ w) (map arrival_of (cond b (h ∷ filter (is_by w) hs) (filter (is_by w) hs))) → AllByRecursion (λ (a : Arrival). worker_of workers a.packet ≡ w) (map arrival_of (filter (is_by w) hs))
    rest w true all = all.1
    rest w false all = all

pub workers_are : (f : Function) (workers : ℕ) (batch : List Arrival) (xs : List Ordered) (places : List ℕ) (state : State) → AreHandled f workers (map packet_of batch) xs places state → AllByRecursion (λ (h : Handled). h.worker ≡ h.arrival.packet.id.port % workers) (joined batch xs places)
workers_are f workers batch xs places state h =
    own_each workers (joined batch xs places)
    (λ w. subst (AllByRecursion (λ (a : Arrival). worker_of workers a.packet ≡ w)) (sym (each_own f workers batch xs places state h w)) (filter_is workers w batch))

-- ---- the order of each port

-- a port's packets are among those of its worker
port_of_own : (workers port : ℕ) (as_list : List Arrival) → filter (is_of port) (filter (is_worker workers (port % workers)) as_list) ≡ filter (is_of port) as_list
port_of_own workers port [] = refl
port_of_own workers port (a ∷ as_list) = one (is_of port a) refl (is_worker workers (port % workers) a) refl (port_of_own workers port as_list)
  where
    one : (p : Bool) → is_of port a ≡ p → (q : Bool) → is_worker workers (port % workers) a ≡ q → filter (is_of port) (filter (is_worker workers (port % workers)) as_list) ≡ filter (is_of port) as_list
        → filter (is_of port) (cond q (a ∷ filter (is_worker workers (port % workers)) as_list) (filter (is_worker workers (port % workers)) as_list)) ≡ cond p (a ∷ filter (is_of port) as_list) (filter (is_of port) as_list)
    one true e true k h = ap (λ (b : Bool). cond b (a ∷ filter (is_of port) (filter (is_worker workers (port % workers)) as_list)) (filter (is_of port) (filter (is_worker workers (port % workers)) as_list))) e ∙ ap (λ (zs : List Arrival). a ∷ zs) h
    one true e false k h =
        let same : a.packet.id.port ≡ port = eqb-true a.packet.id.port port e in
        absurd (cc (sym k ∙ eq-eqb (worker_of workers a.packet) (port % workers) (ap (λ (n : ℕ). n % workers) same)))
    one false e true k h = ap (λ (b : Bool). cond b (a ∷ filter (is_of port) (filter (is_worker workers (port % workers)) as_list)) (filter (is_of port) (filter (is_worker workers (port % workers)) as_list))) e ∙ h
    one false e false k h = h

port_of_by : (workers port : ℕ) (hs : List Handled) → AllByRecursion (λ (h : Handled). h.worker ≡ h.arrival.packet.id.port % workers) hs → filter (is_of port) (map arrival_of (filter (is_by (port % workers)) hs)) ≡ filter (is_of port) (map arrival_of hs)
port_of_by workers port [] own = refl
port_of_by workers port (h ∷ hs) own = one (is_of port h.arrival) refl (is_by (port % workers) h) refl (port_of_by workers port hs own.1)
  where
    one : (p : Bool) → is_of port h.arrival ≡ p → (q : Bool) → is_by (port % workers) h ≡ q → filter (is_of port) (map arrival_of (filter (is_by (port % workers)) hs)) ≡ filter (is_of port) (map arrival_of hs)
        → filter (is_of port) (map arrival_of (cond q (h ∷ filter (is_by (port % workers)) hs) (filter (is_by (port % workers)) hs))) ≡ cond p (h.arrival ∷ filter (is_of port) (map arrival_of hs)) (filter (is_of port) (map arrival_of hs))
    one true e true k i = ap (λ (b : Bool). cond b (h.arrival ∷ filter (is_of port) (map arrival_of (filter (is_by (port % workers)) hs))) (filter (is_of port) (map arrival_of (filter (is_by (port % workers)) hs)))) e ∙ ap (λ (zs : List Arrival). h.arrival ∷ zs) i
    one true e false k i =
        let same : h.arrival.packet.id.port ≡ port = eqb-true h.arrival.packet.id.port port e in
        absurd (cc (sym k ∙ eq-eqb h.worker (port % workers) (own.0 ∙ ap (λ (n : ℕ). n % workers) same)))
    one false e true k i = ap (λ (b : Bool). cond b (h.arrival ∷ filter (is_of port) (map arrival_of (filter (is_by (port % workers)) hs))) (filter (is_of port) (map arrival_of (filter (is_by (port % workers)) hs)))) e ∙ i
    one false e false k i = i

pub ports_kept : (f : Function) (workers : ℕ) (batch : List Arrival) (xs : List Ordered) (places : List ℕ) (state : State) → AreHandled f workers (map packet_of batch) xs places state → KeepsPortOrder port_of batch (map arrival_of (joined batch xs places))
ports_kept f workers batch xs places state h port =
    sym (port_of_by workers port (joined batch xs places) (workers_are f workers batch xs places state h))
    ∙ ap (filter (is_of port)) (each_own f workers batch xs places state h (port % workers))
    ∙ port_of_own workers port batch

-- ---- one worker

of_one : (n : ℕ) → n % 1 ≡ 0
of_one n = let below = mod_below n 1 (omega arith) in omega (arith, below)

all_by : (hs : List Handled) → AllByRecursion (λ (h : Handled). h.worker ≡ h.arrival.packet.id.port % 1) hs → filter (is_by 0) hs ≡ hs
all_by [] own = refl
all_by (h ∷ hs) own =
    ap (λ (b : Bool). cond b (h ∷ filter (is_by 0) hs) (filter (is_by 0) hs)) (eq-eqb h.worker 0 (own.0 ∙ of_one h.arrival.packet.id.port))
    ∙ ap (λ (zs : List Handled). h ∷ zs) (all_by hs own.1)

all_worker : (as_list : List Arrival) → filter (is_worker 1 0) as_list ≡ as_list
all_worker [] = refl
all_worker (a ∷ as_list) =
    ap (λ (b : Bool). cond b (a ∷ filter (is_worker 1 0) as_list) (filter (is_worker 1 0) as_list)) (eq-eqb (worker_of 1 a.packet) 0 (of_one a.packet.id.port))
    ∙ ap (λ (zs : List Arrival). a ∷ zs) (all_worker as_list)

pub all_zero : (hs : List Handled) → AllByRecursion (λ (h : Handled). h.worker ≡ h.arrival.packet.id.port % 1) hs → AllByRecursion (λ (h : Handled). h.worker ≡ 0) hs
all_zero [] own = tt
all_zero (h ∷ hs) own = (own.0 ∙ of_one h.arrival.packet.id.port, all_zero hs own.1)

pub in_capture_order : (f : Function) (batch : List Arrival) (xs : List Ordered) (places : List ℕ) (state : State) → AreHandled f 1 (map packet_of batch) xs places state → map arrival_of (joined batch xs places) ≡ batch
in_capture_order f batch xs places state h =
    ap (map arrival_of) (sym (all_by (joined batch xs places) (workers_are f 1 batch xs places state h)))
    ∙ each_own f 1 batch xs places state h 0
    ∙ all_worker batch

-- ---- one packet after another

pub joined_long : (batch : List Arrival) (xs : List Ordered) (places : List ℕ) → AreAt (map packet_of batch) xs places → length (joined batch xs places) ≡ length xs
joined_long batch [] places h = refl
joined_long batch (x ∷ xs) [] h = absurd h
joined_long batch (x ∷ xs) (place ∷ places) h =
    let s = stands_at batch place x h.0 in
    ap (λ (hs : List Handled). length hs) (joined_is batch x xs place places s) ∙ ap suc (joined_long batch xs places h.1)

pub places_long : (packets : List Packet) (xs : List Ordered) (places : List ℕ) → AreAt packets xs places → length places ≡ length xs
places_long packets [] [] h = refl
places_long packets [] (p ∷ ps) h = absurd h
places_long packets (x ∷ xs) [] h = absurd h
places_long packets (x ∷ xs) (p ∷ ps) h = ap suc (places_long packets xs ps h.1)

pub at_place : (packets : List Packet) (xs : List Ordered) (places : List ℕ) (k : ℕ) (x : Ordered) (place : ℕ) → AreAt packets xs places → slice_get xs k ≡ Some x → slice_get places k ≡ Some place → slice_get packets place ≡ Some x.packet
at_place packets [] places k x place h e q = absurd (cc e)
at_place packets (y ∷ ys) [] k x place h e q = absurd h
at_place packets (y ∷ ys) (p ∷ ps) zero x place h e q = let same : p ≡ place = cc q in ap (slice_get packets) (sym same) ∙ h.0 ∙ ap (λ (z : Ordered). Some z.packet) (same_Some _ _ e)
at_place packets (y ∷ ys) (p ∷ ps) (suc k) x place h e q = at_place packets ys ps k x place h.1 e q

pub joined_at : (batch : List Arrival) (xs : List Ordered) (places : List ℕ) (k : ℕ) (x : Ordered) (place : ℕ) (a : Arrival) → AreAt (map packet_of batch) xs places → slice_get xs k ≡ Some x → slice_get places k ≡ Some place → slice_get batch place ≡ Some a
    → slice_get (joined batch xs places) k ≡ Some (handled_as a x)
joined_at batch [] places k x place a h e q at = absurd (cc e)
joined_at batch (y ∷ ys) [] k x place a h e q at = absurd h
joined_at batch (y ∷ ys) (p ∷ ps) k x place a h e q at =
    let s = stands_at batch p y h.0 in
    ap (λ (hs : List Handled). slice_get hs k) (joined_is batch y ys p ps s)
    ∙ step k e q (λ j f r. joined_at batch ys ps j x place a h.1 f r at) s.a s.at
  where
    step : (k : ℕ) → slice_get (y ∷ ys) k ≡ Some x → slice_get (p ∷ ps) k ≡ Some place
        → ((j : ℕ) → slice_get ys j ≡ Some x → slice_get ps j ≡ Some place → slice_get (joined batch ys ps) j ≡ Some (handled_as a x))
        → (b : Arrival) → slice_get batch p ≡ Some b → slice_get (handled_as b y ∷ joined batch ys ps) k ≡ Some (handled_as a x)
    step zero e q more b there =
        let same_x : y ≡ x = same_Some _ _ e in
        let same_p : p ≡ place = same_Some _ _ q in
        let same_a : b ≡ a = same_Some _ _ (sym there ∙ ap (slice_get batch) same_p ∙ at) in
        ap (λ (z : Arrival). Some (handled_as z y)) same_a ∙ ap (λ (z : Ordered). Some (handled_as a z)) same_x
    step (suc k) e q more b there = more k e q

some_within : (packets : List Packet) (place : ℕ) (p : Packet) → slice_get packets place ≡ Some p → place < length packets
some_within packets place p at = slice_get_within packets place p at

some_item : {A : Type 0} (xs : List A) (k : ℕ) → k < length xs → (x : A) × (slice_get xs k ≡ Some x)
some_item [] k lt = absurd (omega (arith, lt))
some_item (x ∷ xs) zero lt = (x, refl)
some_item (x ∷ xs) (suc k) lt = some_item xs k (omega (arith, lt))

-- the place of a packet is one
pub place_within : (batch : List Arrival) (xs : List Ordered) (places : List ℕ) (k d : ℕ) → AreAt (map packet_of batch) xs places → k < length xs → slice_index_or places k d < length batch
place_within batch xs places k d at lt =
    let long = places_long (map packet_of batch) xs places at in
    let x = some_item xs k lt in
    let here = slice_get-get_or places k d (omega (arith, long, lt)) in
    let there = some_within (map packet_of batch) (slice_index_or places k d) x.0.packet (at_place (map packet_of batch) xs places k x.0 (slice_index_or places k d) at x.1 here) in
    let same = length-map batch packet_of in
    omega (arith, there, same)

-- a packet of an order with what stands at its place
pub record IsPaired (batch : List Arrival) (xs : List Ordered) (places : List ℕ) (k : ℕ) : Type 0 where
  pub a : Arrival
  pub x : Ordered
  pub at : slice_get batch (slice_index_or places k 0) ≡ Some a
  pub is : slice_get xs k ≡ Some x
  pub here : slice_get (joined batch xs places) k ≡ Some (handled_as a x)

pub pair_at : (batch : List Arrival) (xs : List Ordered) (places : List ℕ) (k : ℕ) → AreAt (map packet_of batch) xs places → k < length xs → IsPaired batch xs places k
pair_at batch xs places k at lt =
    let long = places_long (map packet_of batch) xs places at in
    let place = slice_index_or places k 0 in
    let x = some_item xs k lt in
    let a = some_item batch place (place_within batch xs places k 0 at lt) in
    let here = slice_get-get_or places k 0 (omega (arith, long, lt)) in
    record {
      a = a.0;
      x = x.0;
      at = a.1;
      is = x.1;
      here = joined_at batch xs places k x.0 place a.0 at x.1 here a.1;
    }
