-- How many records a run leaves in its outputs, by their length.
use Rattle.std.proofs.Common.{◌≡◌, ◌≢◌, inl, inr, ℕ, zero, suc, ◌+◌, ◌*◌, ◌%◌, ◌^◌, ◌<◌, ◌≤◌, Bool, true, false, cond, List, [], ◌∷◌, ◌++◌, length, map, filter, refl, sym, ap, ap₂, subst, ◌∙◌, arith, length-append}
use Rattle.std.specs.Prelude.{Option, Some, None, option_map}
use Rattle.std.specs.List.{AllByRecursion, flat_map, slice_get}
use Rattle.std.proofs.lemmas.Bool.{eqb-true, lt-ltb}
use Rattle.std.proofs.lemmas.List.{length-map}
use Rattle.capture_format.specs.declared.format.CaptureFormat.{CaptureFormat}
use Rattle.nf_base.specs.declared.card.Card.{Card}
use Rattle.nf_base.specs.Text.{Function}
use Rattle.nf_base.specs.Runs.{RunResult}
use Rattle.nf_base.specs.declared.done.Done.{Done}
use Rattle.nf_base.specs.declared.done.Edits.{Edits}
use Rattle.nf_base.specs.declared.state.State.{State}
use Rattle.nf_files.specs.Told.{Told, IsToldAs}
use Rattle.frame_ip.specs.Frame.{is_handled}
use Rattle.frame_ip.specs.Edit.{edited, writes}
use Rattle.frame_ip.proofs.Rising.{all_long}
use Rattle.capture_format.specs.declared.format.CaptureFormat.TheVariants.{Pcap, Pcapng}
use Rattle.capture_format.specs.Written.{head_bytes, head_length, packet_length}
use Rattle.capture_format.proofs.Around.{heads_long}
use Rattle.packet_feed.specs.Arrivals.{Arrival}
use Rattle.run_history.specs.Line.{header_line}
use Rattle.run_history.specs.declared.line.Mode.{Mode}
use Rattle.run_history.specs.declared.line.Mode.TheVariants as mode
use Rattle.stream_run.specs.Runs.{Run, Turn, Handled, arrival_in, paired, handled_if, handled_in, course_of}
use Rattle.stream_run.specs.Orders.{Order, AsGiven, Keeps}
use Rattle.stream_run.specs.Rules.{Rule}
use Rattle.stream_run.specs.Texts.{is_sent, with_edits, record_of, written_of, sent_bytes, line_of, bytes_of, file_bytes, sent_records}
use Rattle.stream_run.proofs.Edited.{packet_long}
use Rattle.gen_traffic.specs.Traffic.{Recipe, sent_from as sent_by}
use Rattle.made_captures.specs.Laws.{arrival_of, arrivals_of}
use Rattle.made_captures.specs.Outputs.{sum_of, bytes_from, is_right}
use Rattle.traffic_run.specs.declared.worker_plan.WorkerPlan.{WorkerPlan}
use Rattle.traffic_run.specs.declared.worker_plan.WorkerPlan.TheVariants.{One, Shards, Sharing}
use Rattle.traffic_run.specs.Runs.{IsDue, IsRunOf, IsWhole, sent_from, sent_in, AreTold, IsSent}
use Rattle.traffic_run.specs.Sent.{length_of_42, records_in}
use Rattle.traffic_run.specs.Beside.{CountsTo}

-- ---- the length of a packet

either_long : (b : Bool) (e : Edits) (f : List ℕ) → length (cond b (edited e f) f) ≡ length f
unfolding edited
either_long true e f = all_long f (writes e f)
either_long false e f = refl

edited_long : (e : Edits) (f : List ℕ) → length (with_edits e f) ≡ length f
unfolding with_edits
edited_long e f = either_long (is_handled f) e f

abbrev Is42 : Arrival → Type 0
Is42 a = length a.frame ≡ 42

abbrev Has42 : Handled → Type 0
Has42 h = length h.arrival.frame ≡ 42

written_long : (format : CaptureFormat) (h : Handled) → Has42 h → length (written_of format h) ≡ length_of_42 format
written_long format h is =
    packet_long format h.arrival.packet.time h.arrival.original (with_edits h.done.edits h.arrival.frame)
    ∙ ap (packet_length format) (edited_long h.done.edits h.arrival.frame ∙ is)

-- ---- the length of an output

one_long : (format : CaptureFormat) (b : Bool) (port : ℕ) (h : Handled) (hs : List Handled) → length (written_of format h) ≡ length_of_42 format → length (flat_map (sent_bytes format port) hs) ≡ length_of_42 format * length (sent_records port hs)
    → length (cond b (written_of format h) [] ++ flat_map (sent_bytes format port) hs) ≡ length_of_42 format * length (map record_of (cond b (h ∷ filter (is_sent port) hs) (filter (is_sent port) hs)))
one_long Pcap true port h hs is e = omega (arith, length-append (written_of Pcap h) (flat_map (sent_bytes Pcap port) hs), is, e)
one_long Pcapng true port h hs is e = omega (arith, length-append (written_of Pcapng h) (flat_map (sent_bytes Pcapng port) hs), is, e)
one_long format false port h hs is e = e

none_long : (format : CaptureFormat) → 0 ≡ length_of_42 format * 0
none_long Pcap = refl
none_long Pcapng = refl

port_long : (format : CaptureFormat) (port : ℕ) (hs : List Handled) → AllByRecursion Has42 hs → length (flat_map (sent_bytes format port) hs) ≡ length_of_42 format * length (sent_records port hs)
port_long format port [] all = none_long format
port_long format port (h ∷ hs) all = one_long format (is_sent port h) port h hs (written_long format h all.0) (port_long format port hs all.1)

file_long : (m : Mode) (workers : ℕ) (card : Card) (format : CaptureFormat) (ports port : ℕ) (hs : List Handled) → port < ports → AllByRecursion Has42 hs → length (bytes_of m workers card format ports port hs) ≡ head_length format + length_of_42 format * length (sent_records port hs)
unfolding bytes_of
file_long m workers card format ports port hs lt all =
    ap (λ (b : Bool). length (cond b (head_bytes format) (header_line m workers card) ++ flat_map (λ (h : Handled). cond b (sent_bytes format port h) (line_of h)) hs)) (lt-ltb port ports lt)
    ∙ length-append (head_bytes format) (flat_map (sent_bytes format port) hs)
    ∙ ap₂ (λ (m n : ℕ). m + n) (heads_long format) (port_long format port hs all)

-- ---- the packets of a run

paired_all : (turns : List Turn) (dones : List Done) → AllByRecursion Is42 (map arrival_in turns) → AllByRecursion Has42 (paired turns dones)
paired_all [] dones all = tt
paired_all (t ∷ turns) [] all = tt
paired_all (t ∷ turns) (d ∷ dones) all = (all.0, paired_all turns dones all.1)

handled_all : (turns : List Turn) (o : Option RunResult) → AllByRecursion Is42 (map arrival_in turns) → AllByRecursion Has42 (handled_if turns o)
handled_all turns None all = tt
handled_all turns (Some result) all = paired_all turns result.answers all

paired_short : (turns : List Turn) (dones : List Done) → length (paired turns dones) ≤ length turns
paired_short [] dones = omega arith
paired_short (t ∷ turns) [] = omega arith
paired_short (t ∷ turns) (d ∷ dones) = omega (arith, paired_short turns dones)

handled_short : (turns : List Turn) (o : Option RunResult) → length (handled_if turns o) ≤ length turns
handled_short turns None = omega arith
handled_short turns (Some result) = paired_short turns result.answers

made_42 : (r : Recipe) (k n : ℕ) → AllByRecursion Is42 (map arrival_of (sent_by r k n))
made_42 r k zero = tt
made_42 r k (suc n) = (refl, made_42 r (suc k) n)

cond_short : (b : Bool) (h : Handled) (xs : List Handled) (n : ℕ) → length xs ≤ n → length (cond b (h ∷ xs) xs) ≤ suc n
cond_short true h xs n le = omega (arith, le)
cond_short false h xs n le = omega (arith, le)

filter_short : (port : ℕ) (hs : List Handled) → length (filter (is_sent port) hs) ≤ length hs
filter_short port [] = omega arith
filter_short port (h ∷ hs) = cond_short (is_sent port h) h (filter (is_sent port) hs) (length hs) (filter_short port hs)

sent_small : (hs : List Handled) (port n : ℕ) → length hs < 2 ^ 32 → sent_from hs port n ≤ n * 4294967296
sent_small hs port zero lt = omega arith
sent_small hs port (suc n) lt = omega (arith, lt, length-map (filter (is_sent port) hs) record_of, filter_short port hs, sent_small hs (port + 1) n lt)

-- ---- what was given to all outputs

given_at : (o : Option (List ℕ)) (bytes : List ℕ) → IsToldAs bytes o → o ≢ None → o ≡ Some bytes
given_at None bytes told some = absurd (some refl)
given_at (Some given) bytes told some = ap Some told

more_given : (format : CaptureFormat) (bytes here later n : ℕ) → bytes ≡ head_length format + length_of_42 format * here → bytes + (head_length format * n + length_of_42 format * later) ≡ head_length format * suc n + length_of_42 format * (here + later)
more_given Pcap bytes here later n e = omega (arith, e)
more_given Pcapng bytes here later n e = omega (arith, e)

no_more_given : (format : CaptureFormat) → 0 ≡ head_length format * 0 + length_of_42 format * 0
no_more_given Pcap = refl
no_more_given Pcapng = refl

all_given : (format : CaptureFormat) (now : Told) (first ports : ℕ) (hs : List Handled) (bytes : ℕ → List ℕ) (port n : ℕ) → port + n ≤ ports → ((p : ℕ) → p < ports → now.given (first + p) ≡ Some (bytes p)) → ((p : ℕ) → p < ports → length (bytes p) ≡ head_length format + length_of_42 format * length (sent_records p hs))
    → bytes_from now.given (first + port) n ≡ Some (head_length format * n + length_of_42 format * sent_from hs port n)
all_given format now first ports hs bytes port zero le given long = ap Some (no_more_given format)
all_given format now first ports hs bytes port (suc n) le given long =
    let lt : port < ports = omega (arith, le) in
    let next : first + port + 1 ≡ first + (port + 1) = omega arith in
    ap₂ sum_of (ap (option_map (λ (b : List ℕ). length b)) (given port lt)) (ap (λ (f : ℕ). bytes_from now.given f n) next ∙ all_given format now first ports hs bytes (port + 1) n (omega (arith, le)) given long)
    ∙ ap Some (more_given format (length (bytes port)) (length (sent_records port hs)) (sent_from hs (port + 1) n) n (long port lt))

some_at : (files : List ℕ) (k : ℕ) → k < length files → (file : ℕ) × (slice_get files k ≡ Some file)
some_at [] k lt = absurd (omega (arith, lt))
some_at (x ∷ xs) zero lt = (x, refl)
some_at (x ∷ xs) (suc k) lt = some_at xs k (omega (arith, lt))

-- a file stands where its number says
pub file_at : (files : List ℕ) (first k : ℕ) → k < length files → ((i file : ℕ) → slice_get files i ≡ Some file → file ≡ first + i) → slice_get files k ≡ Some (first + k)
file_at files first k lt numbers =
    let there = some_at files k lt in
    there.1 ∙ ap Some (numbers k there.0 there.1)

count_is : (format : CaptureFormat) (n s bytes : ℕ) → n ≤ 4 → s ≤ n * 4294967296 → is_right (Some (head_length format * n + length_of_42 format * s)) bytes ≡ true → records_in format bytes n ≡ s
count_is Pcap n s bytes few small right =
    let e : (24 * n + 58 * s) % 2 ^ 64 ≡ bytes = eqb-true ((24 * n + 58 * s) % 2 ^ 64) bytes right in
    omega (arith, few, small, e)
count_is Pcapng n s bytes few small right =
    let e : (60 * n + 76 * s) % 2 ^ 64 ≡ bytes = eqb-true ((60 * n + 76 * s) % 2 ^ 64) bytes right in
    omega (arith, few, small, e)

-- ---- whose run it is

pub function_by : (worker_plan : WorkerPlan) (card : Card) (Refused : Type 0) (f : Function) (arrivals : List Arrival) (r : Run) → IsRunOf worker_plan card Refused f arrivals r → r.function ≡ f
function_by worker_plan card Refused f arrivals r is = is.is_run.function

-- but in mode `lock` packets are handled as they are given
as_given : (worker_plan : WorkerPlan) (Refused : Type 0) (rule : Rule) → IsDue worker_plan Refused rule → rule.mode ≢ mode.Lock → rule.order ≡ AsGiven
as_given One Refused rule e other = ap (λ (x : Rule). x.order) e
as_given (Shards keys workers) Refused rule e other = ap (λ (x : Rule). x.order) e
as_given (Sharing workers) Refused rule (inl e) other = absurd (other (ap (λ (x : Rule). x.mode) e))
as_given (Sharing workers) Refused rule (inr e) other = ap (λ (x : Rule). x.order) e.1

order_by : (worker_plan : WorkerPlan) (card : Card) (Refused : Type 0) (f : Function) (arrivals : List Arrival) (r : Run) → IsRunOf worker_plan card Refused f arrivals r → r.mode ≢ mode.Lock → map arrival_in r.turns ≡ arrivals
order_by worker_plan card Refused f arrivals r is other =
    subst (λ (o : Order). Keeps o arrivals (map arrival_in r.turns)) (as_given worker_plan Refused is.rule is.due (λ e. other (is.is_run.mode ∙ e))) is.is_run.order

sent_of : (format : CaptureFormat) (made : Recipe) (r : Run) (now : Told) (files : List ℕ) (first n bytes : ℕ) → map arrival_in r.turns ≡ arrivals_of made → length (map arrival_in r.turns) < 2 ^ 32 → length r.function.handlers ≡ n → n ≤ 4 → length files ≡ n + 1
    → ((k file : ℕ) → slice_get files k ≡ Some file → file ≡ first + k) → ((k file : ℕ) → slice_get files k ≡ Some file → IsToldAs (file_bytes format r k) (now.given file)) → CountsTo first n now bytes
    → AreTold now first (length r.function.handlers) → records_in format bytes n ≡ sent_in r
sent_of format made r now files first n bytes packets short ports few as_many numbers wholes right told =
    let hs = handled_in r in
    let all = handled_all r.turns (course_of r) (subst (AllByRecursion Is42) (sym packets) (made_42 made 0 made.count)) in
    let lots : length hs < 2 ^ 32 = omega (arith, handled_short r.turns (course_of r), length-map r.turns arrival_in, short) in
    let given = all_given format now first n hs (file_bytes format r) 0 n (omega arith)
    (λ p lt. given_at (now.given (first + p)) (file_bytes format r p) (wholes p (first + p) (file_at files first p (omega (arith, lt, as_many)) numbers)) (told p (omega (arith, lt, ports))))
    (λ p lt. file_long r.mode r.workers r.card format (length r.function.handlers) p hs (omega (arith, lt, ports)) all) in
    let zeroth : first + 0 ≡ first = omega arith in
    let sum : is_right (Some (head_length format * n + length_of_42 format * sent_from hs 0 n)) bytes ≡ true = subst (λ (o : Option ℕ). is_right o bytes ≡ true) (ap (λ (f : ℕ). bytes_from now.given f n) (sym zeroth) ∙ given) right in
    count_is format n (sent_from hs 0 n) bytes few (sent_small hs 0 n lots) sum ∙ ap (sent_from hs 0) (sym ports)

pub is_sent_by : (worker_plan : WorkerPlan) (card : Card) (format : CaptureFormat) (Refused : Type 0) (f : Function) (made : Recipe) (now : Told) (files : List ℕ) (m : Mode) (state : State) (w : IsWhole worker_plan card format Refused f (arrivals_of made) now files m state) (first n bytes : ℕ) → length (arrivals_of made) < 2 ^ 32 → length f.handlers ≡ n → n ≤ 4 → length files ≡ n + 1
    → ((k file : ℕ) → slice_get files k ≡ Some file → file ≡ first + k) → CountsTo first n now bytes → IsSent now first w.run (records_in format bytes n)
is_sent_by worker_plan card format Refused f made now files m state w first n bytes short ports few as_many numbers right other told =
    let packets = order_by worker_plan card Refused f (arrivals_of made) w.run w.is_run other in
    sent_of format made w.run now files first n bytes packets (omega (arith, short, ap (λ (t : List Arrival). length t) packets)) (ap (λ (g : Function). length g.handlers) (function_by worker_plan card Refused f (arrivals_of made) w.run w.is_run) ∙ ports) few as_many numbers w.wholes right told
