-- The next packet of captures, the end, and more packets than were asked for.
use Rattle.std.proofs.Common.{◌≡◌, ◌≢◌, inl, inr, ℕ, zero, suc, ◌+◌, ◌-◌, ◌≤◌, ◌<◌, Bool, List, [], ◌∷◌, ◌++◌, length, set, Option, Some, None, refl, sym, ap, ◌∙◌, subst, append-nil, arith}
use Rattle.std.specs.List.{All, slice_get}
use Rattle.std.specs.Option.{option_map}
use Rattle.std.proofs.lemmas.Bool.Decides.{eqb_tells}
use Rattle.std.proofs.lemmas.List.{length-set, length-append, get_or-set_same, map-set}
use Rattle.std.proofs.lemmas.List.Elements.{All-weaker, All-set}
use Rattle.std.proofs.lemmas.List.Sorted.{length_permutation}
use Rattle.std.proofs.lemmas.Option.{slice_get-get_or, slice_get-map, slice_get_within}
use Rattle.nf_base.specs.declared.packet.Packet.{Packet}
use Rattle.nf_base.specs.Doors.{served_fields}
use Rattle.nf_files.specs.Told.{Told}
use Rattle.pcap_file.specs.Record.{greatest_time}
use Rattle.nf_files.proofs.Changed.{got_other}
use Rattle.pcapng_file.specs.Heard.{Stream as Contents}
use Rattle.packet_feed.specs.declared.ahead.Ahead.{Ahead}
use Rattle.packet_feed.specs.declared.ahead.Ahead.TheVariants.{Unread, Held, Ended, Torn}
use Rattle.packet_feed.specs.declared.first.First.{First}
use Rattle.packet_feed.specs.Arrivals.{Arrival, arrival_of, fields_captured}
use Rattle.packet_feed.specs.Order.{in_order}
use Rattle.packet_feed.specs.Told.{packets_of, IsTear, IsApart}
use Rattle.packet_feed.specs.Streams.{Stream, last_given, last_read, tear_in, time_in, IsSettled, unread}
use Rattle.packet_feed.specs.Sources.{files_in, sixes_in, counts_in, all_left, Follows, SourcesStand, AreSettled, AreSettledBut, IsFirst, IsGiven, given_away}
use Rattle.packet_feed.specs.Feeding.{IsFeeding, last_at, StandsFor, HasMore, AreAll, AreTorn, IsShown, shown, frame_in, original_in, is_ethernet_in}
use Rattle.packet_feed.proofs.Ordering.{IsBehind, is_ordered}
use Rattle.packet_feed.proofs.Gathering.{Picks, map_kept}
use Rattle.packet_feed.proofs.Streaming.{came_at, came_in}
use Rattle.packet_feed.proofs.Standing.{given_stands, first_picked, all_given, at_file, same_length, none_left_at, six_is}

-- ---- a packet

pub came_from : (six : Bool) (port seq time : ℕ) (is_ethernet : Bool) (original : ℕ) (frame : List ℕ) → (arrival_of six port seq time is_ethernet original frame).packet.fields ≡ served_fields six (fields_captured is_ethernet frame original)
unfolding arrival_of
came_from six port seq time is_ethernet original frame = refl

arrival_is : (packet : Packet) (six : Bool) (port seq time : ℕ) (is_ethernet : Bool) (original : ℕ) (frame : List ℕ) → packet ≡ (arrival_of six port seq time is_ethernet original frame).packet → record { packet = packet; original = original; frame = frame } ≡ arrival_of six port seq time is_ethernet original frame
unfolding arrival_of
arrival_is packet six port seq time is_ethernet original frame e = ap (λ (p : Packet). let a : Arrival = record { packet = p; original = original; frame = frame } in a) e

got_same : (sources : List Stream) (k : ℕ) (s : Stream) → k < length sources → slice_get (set sources k s) k ≡ Some s
got_same sources k s lt = slice_get-get_or (set sources k s) k s (omega (arith, length-set sources k s)) ∙ ap (λ (x : Stream). Some x) (get_or-set_same sources k s s lt)

-- the packet that was given last is the one that was read
pub last_was_read : (k : ℕ) (s : Stream) → last_given k (given_away s) ≡ (last_read k s).packet
last_was_read k s =
    let seq : s.seq + 1 - 1 ≡ s.seq = omega arith in
    ap (λ (n : ℕ). (arrival_of s.six k n s.latest s.is_ethernet s.original s.frame).packet) seq

-- the packet that was read ahead was given, and is the one that is told of as the last
pub passed : (k : ℕ) (s : Stream) (sources new : List Stream) → slice_get sources k ≡ Some s → new ≡ set sources k (given_away s) → s.latest ≤ greatest_time → length s.frame ≤ 262144 → IsGiven k (last_at k (slice_get new k)) sources new
passed k s sources new at is time captured =
    let here : slice_get new k ≡ Some (given_away s) = ap (λ (xs : List Stream). slice_get xs k) is ∙ got_same sources k (given_away s) (slice_get_within sources k s at) in
    let packet : last_at k (slice_get new k) ≡ (last_read k s).packet = ap (last_at k) here ∙ last_was_read k s in
    record {
      source = s;
      at = at;
      packet_is = packet;
      new_is = is;
      time = omega (arith, ap (λ (p : Packet). p.time) packet, came_at s.six k s.seq s.latest s.is_ethernet s.original s.frame, time);
      captured = captured;
    }

-- what is shown of the packet that was given
record IsSeen (k : ℕ) (packet : Packet) (s : Stream) (new : List Stream) : Type 0 where
  pub at : slice_get new k ≡ Some (given_away s)
  pub frame : frame_in (slice_get new k) ≡ s.frame
  pub original : original_in (slice_get new k) ≡ s.original
  pub is_ethernet : is_ethernet_in (slice_get new k) ≡ s.is_ethernet

seen : (k : ℕ) (packet : Packet) (sources new : List Stream) (h : IsGiven k packet sources new) → IsSeen k packet h.source new
seen k packet sources new h =
    let at : slice_get new k ≡ Some (given_away h.source) = ap (λ (xs : List Stream). slice_get xs k) h.new_is ∙ got_same sources k (given_away h.source) (slice_get_within sources k h.source h.at) in
    record { at = at; frame = ap frame_in at; original = ap original_in at; is_ethernet = ap is_ethernet_in at }

pub shown_is : (k count most : ℕ) (packet : Packet) (sources new : List Stream) (h : IsGiven k packet sources new) → shown packet (record { sources = new; shown = k; given = count; most = most }) ≡ last_read k h.source
shown_is k count most packet sources new h =
    let s = h.source in
    let see = seen k packet sources new h in
    let here : (original : ℕ) (frame : List ℕ) → original ≡ s.original → frame ≡ s.frame → record { packet = packet; original = original; frame = frame } ≡ last_read k s =
    λ original frame e f. rw (e, f) (arrival_is packet s.six k s.seq s.latest s.is_ethernet s.original s.frame h.packet_is) in
    here (original_in (slice_get new k)) (frame_in (slice_get new k)) see.original see.frame

pub next_stands : (start : Told) (given : List Arrival) (now : Told) (k time count most : ℕ) (packet : Packet) (sources new : List Stream) → IsGiven k packet sources new → AreSettled sources
    → IsFirst sources (length sources) (Some (record { port = k; time = time })) → length given ≡ count → SourcesStand start given sources now
    → StandsFor start (given ++ shown packet (record { sources = new; shown = k; given = count + 1; most = most }) ∷ []) (record { sources = new; shown = k; given = count + 1; most = most }) now
next_stands start given now k time count most packet sources new h settled first long stands =
    let s = h.source in
    let a = shown packet (record { sources = new; shown = k; given = count + 1; most = most }) in
    record {
      count = omega (arith, length-append given (a ∷ []), long);
      sources =
          subst (λ (x : Arrival). SourcesStand start (given ++ x ∷ []) new now) (sym (shown_is k (count + 1) most packet sources new h))
          (subst (λ (xs : List Stream). SourcesStand start (given ++ last_read k s ∷ []) xs now) (sym h.new_is) (given_stands start given now sources k time s h.at settled first stands));
    }

pub next_shown : (k count most : ℕ) (packet : Packet) (sources new : List Stream) → IsGiven k packet sources new → IsShown packet (record { sources = new; shown = k; given = count; most = most })
next_shown k count most packet sources new h =
    let s = h.source in
    let see = seen k packet sources new h in
    record {
      port = ap (λ (p : Packet). p.id.port) h.packet_is ∙ came_in s.six k s.seq s.latest s.is_ethernet s.original s.frame;
      inside = slice_get_within new k (given_away s) see.at;
      fields = ap (λ (p : Packet). p.fields) h.packet_is ∙ came_from s.six k s.seq s.latest s.is_ethernet s.original s.frame ∙ rw (see.frame, see.original, see.is_ethernet, six_is new k (given_away s) see.at) refl;
      time = h.time;
      captured = omega (arith, ap (λ (xs : List ℕ). length xs) see.frame, h.captured);
    }

pub next_files : (k : ℕ) (packet : Packet) (sources new : List Stream) → IsGiven k packet sources new → files_in new ≡ files_in sources
next_files k packet sources new h = ap files_in h.new_is ∙ map_kept (λ (x : Stream). x.reading.file) sources k h.source (given_away h.source) h.at refl

pub next_sixes : (k : ℕ) (packet : Packet) (sources new : List Stream) → IsGiven k packet sources new → sixes_in new ≡ sixes_in sources
next_sixes k packet sources new h = ap sixes_in h.new_is ∙ map_kept (λ (x : Stream). x.six) sources k h.source (given_away h.source) h.at refl

pub next_feeding : (k : ℕ) (packet : Packet) (old sources new : List Stream) (given most : ℕ) → IsGiven k packet sources new → given < most → files_in sources ≡ files_in old → counts_in sources ≡ counts_in old → IsFeeding old given most → IsFeeding new (given + 1) most
next_feeding k packet old sources new given most h lt files counts f =
    let s = h.source in
    let before : All (λ (count : ℕ). count ≤ given) (counts_in sources) = subst (All (λ (count : ℕ). count ≤ given)) (sym counts) f.counts in
    let one : s.seq ≤ given = at_file (λ (count : ℕ). count ≤ given) (counts_in sources) k s.seq (slice_get-map (λ (x : Stream). x.seq) sources k ∙ ap (option_map (λ (x : Stream). x.seq)) h.at) before in
    let more : All (λ (count : ℕ). count ≤ given + 1) (counts_in sources) = All-weaker (λ (count : ℕ). count ≤ given) (λ (count : ℕ). count ≤ given + 1) (λ count le. omega arith) (counts_in sources) before in
    let is : counts_in new ≡ set (counts_in sources) k (s.seq + 1) = ap counts_in h.new_is ∙ map-set (λ (x : Stream). x.seq) sources k (given_away s) in
    let all_files : files_in new ≡ files_in old = next_files k packet sources new h ∙ files in
    record {
      counts = subst (All (λ (count : ℕ). count ≤ given + 1)) (sym is) (All-set (λ (count : ℕ). count ≤ given + 1) (counts_in sources) k (s.seq + 1) (omega arith) more);
      within = omega arith;
      ports = omega (arith, same_length new old all_files, f.ports);
      apart = subst (λ (fs : List ℕ). IsApart fs) (sym all_files) f.apart;
    }

-- ---- more packets than were asked for

more_left : (all : Option (List Arrival)) (given : List Arrival) (a : Arrival) (x y : Option (List Arrival)) → Follows all given x → Picks (IsBehind a) a x y → HasMore all (length given)
more_left None given a x y h k = tt
more_left (Some all) given a None y h k = absurd h
more_left (Some all) given a (Some x) None h k = absurd k
more_left (Some all) given a (Some x) (Some y) h k =
    let ordered = length_permutation all (in_order all) (is_ordered all).each_once in
    let left = length_permutation x (in_order x) (is_ordered x).each_once in
    let parts : length x ≡ length k.pre + length (a ∷ k.post) = ap (λ (t : List Arrival). length t) k.is ∙ length-append k.pre (a ∷ k.post) in
    omega (arith, ap (λ (t : List Arrival). length t) h, length-append given (in_order x))

pub has_more : (start : Told) (given : List Arrival) (now : Told) (sources : List Stream) (first : First) → AreSettled sources → IsFirst sources (length sources) (Some first) → (s : Stream) → slice_get sources first.port ≡ Some s
    → SourcesStand start given sources now → HasMore (packets_of (sixes_in sources) (files_in sources) start) (length given)
has_more start given now sources first settled is s e h =
    more_left (packets_of (sixes_in sources) (files_in sources) start) given (last_read first.port s) (all_left sources now) (all_left (set sources first.port (given_away s)) now) h.order (first_picked now sources first.port first.time s e settled is)

stream_at : (xs : List Stream) (p : ℕ) → p < length xs → (x : Stream) × (slice_get xs p ≡ Some x)
stream_at [] p lt = absurd (omega arith)
stream_at (x ∷ xs) zero lt = (x, refl)
stream_at (x ∷ xs) (suc p) lt = stream_at xs p (omega arith)

-- ---- the end

all_are : (all : Option (List Arrival)) (given : List Arrival) (x : Option (List Arrival)) → x ≡ Some [] → Follows all given x → AreAll all given
all_are None given x e h = tt
all_are (Some all) given None e h = absurd h
all_are (Some all) given (Some x) e h =
    let none : x ≡ [] = cc in
    h ∙ ap (λ (t : List Arrival). given ++ in_order t) none ∙ append-nil given

pub are_all : (start : Told) (given : List Arrival) (now : Told) (sources : List Stream) → AreSettled sources → IsFirst sources (length sources) None → SourcesStand start given sources now → AreAll (packets_of (sixes_in sources) (files_in sources) start) given
are_all start given now sources settled none h = all_are (packets_of (sixes_in sources) (files_in sources) start) given (all_left sources now) (all_given sources now settled none) h.order

torn_ahead : (ahead : Ahead) (s : Stream) (rest : Option (List ℕ)) → IsSettled ahead → time_in ahead s.latest ≡ None → option_map (λ (c : Contents). c.torn) (unread ahead s.reading rest) ≡ Some (tear_in ahead)
torn_ahead Unread s rest settled e = absurd settled
torn_ahead Held s rest settled e = absurd cc
torn_ahead Ended s rest settled e = refl
torn_ahead (Torn offset) s rest settled e = refl

pub are_torn : (start : Told) (given : List Arrival) (now : Told) (sources : List Stream) → AreSettled sources → IsFirst sources (length sources) None → SourcesStand start given sources now → AreTorn start sources
are_torn start given now sources settled none h = λ port s e.
    subst (IsTear (start.rest s.reading.file)) (torn_ahead s.ahead s (now.rest s.reading.file) (settled port s e) (none_left_at sources port s e none)) (h.each port s e).torn

pub has_more_at : (start : Told) (given : List Arrival) (now : Told) (sources : List Stream) (first : First) → AreSettled sources → IsFirst sources (length sources) (Some first)
    → SourcesStand start given sources now → HasMore (packets_of (sixes_in sources) (files_in sources) start) (length given)
has_more_at start given now sources first settled is h =
    let found = stream_at sources first.port is.0 in
    has_more start given now sources first settled is found.0 found.1 h

-- ---- what is known behind a packet

-- of each capture but that of the packet it is known what comes next
pub settled_but : (k : ℕ) (packet : Packet) (sources new : List Stream) → IsGiven k packet sources new → AreSettled sources → AreSettledBut k new
settled_but k packet sources new h settled = λ p s e other.
    let was : slice_get sources p ≡ Some s = sym (ap (λ (xs : List Stream). slice_get xs p) h.new_is ∙ got_other sources k p (given_away h.source) other) ∙ e in
    settled p s was

-- of one capture more it is known
pub settled_all : (k : ℕ) (old new : List Stream) → AreSettledBut k old → ((p : ℕ) → p ≢ k → slice_get new p ≡ slice_get old p) → ((s : Stream) → slice_get new k ≡ Some s → IsSettled s.ahead) → AreSettled new
settled_all k old new but others here = λ p s e. elim (eqb_tells p k) [
  | inl is ↦ here s (sym (ap (slice_get new) is.1) ∙ e)
  | inr is ↦ but p s (sym (others p is.1) ∙ e) is.1
]

pub still_but : (k : ℕ) (old new : List Stream) → AreSettledBut k old → ((p : ℕ) → p ≢ k → slice_get new p ≡ slice_get old p) → AreSettledBut k new
still_but k old new but others = λ p s e other. but p s (sym (others p other) ∙ e) other
