-- What stands of captures of which each port's packets are given by themselves.
use Rattle.std.proofs.Common.{◌≡◌, ◌≢◌, ℕ, zero, suc, ◌+◌, ◌≤◌, ◌<◌, Bool, true, false, cond, List, [], ◌∷◌, ◌++◌, length, set, filter, Option, Some, None, inl, inr, refl, sym, ap, ◌∙◌, subst, append_assoc, append-nil, max, arith}
use Rattle.std.specs.List.{AllByRecursion, slice_get}
use Rattle.std.specs.Option.{option_map}
use Rattle.std.proofs.lemmas.Bool.{eq-eqb, ne_eqb, cases_lt}
use Rattle.std.proofs.lemmas.List.{length-set, length-map, length-append}
use Rattle.std.proofs.lemmas.List.Elements.{filter-append}
use Rattle.std.proofs.lemmas.Option.{same_Some, slice_get_within}
use Rattle.nf_base.specs.declared.packet.Packet.{Packet}
use Rattle.nf_base.specs.Doors.{six_at}
use Rattle.nf_base.proofs.Mixes.{got_set}
use Rattle.nf_files.specs.Told.{Told}
use Rattle.nf_files.specs.Reads.{Keeps}
use Rattle.pcapng_file.specs.Heard.{Heard, Stream as Contents}
use Rattle.packet_feed.specs.Contents.{contents_of}
use Rattle.packet_feed.specs.declared.ahead.Ahead.{Ahead}
use Rattle.packet_feed.specs.declared.ahead.Ahead.TheVariants.{Unread, Held, Ended, Torn}
use Rattle.packet_feed.specs.Arrivals.{Arrival, arrivals_from, arrivals_in}
use Rattle.packet_feed.specs.Told.{Carries, both, gathered, packets_in, packets_of, IsTear, IsApart}
use Rattle.packet_feed.specs.Streams.{Stream, last_read, packets_left, tear_left, time_in, is_held, IsSettled}
use Rattle.packet_feed.specs.Sources.{files_in, sixes_in, SourceStands, IsFilled, IsGiven, given_away}
use Rattle.packet_feed.specs.Feeding.{shown}
use Rattle.packet_feed.specs.Ports.{is_of, AreFirstOfPorts, AreAllOf, FollowsAt, SourcesStandByPort, StandsByPort, IsSettledAt, IsHeldAt}
use Rattle.packet_feed.proofs.Gathering.{AllIn, IsHeadOf}
use Rattle.packet_feed.proofs.Taking.{taken_more, taken_given, taken_other}
use Rattle.packet_feed.proofs.Streaming.{head_given, tear_given, none_given, came_in, came_with}
use Rattle.packet_feed.proofs.Standing.{file_at, six_is, tear_on, rest_other, kind_on, source_stands, source_stays}
use Rattle.packet_feed.proofs.Starting.{AreOpenedSoFar, opened_all}
use Rattle.packet_feed.proofs.Nexts.{shown_is}

-- ---- the packets of one port

pub filter_same : (port : ℕ) (given : List Arrival) (a : Arrival) → a.packet.id.port ≡ port → filter (is_of port) (given ++ a ∷ []) ≡ filter (is_of port) given ++ a ∷ []
filter_same port given a same =
    filter-append (is_of port) given (a ∷ [])
    ∙ ap (λ (b : Bool). filter (is_of port) given ++ cond b (a ∷ []) []) (eq-eqb a.packet.id.port port same)

pub filter_other : (port : ℕ) (given : List Arrival) (a : Arrival) → a.packet.id.port ≢ port → filter (is_of port) (given ++ a ∷ []) ≡ filter (is_of port) given
filter_other port given a other =
    filter-append (is_of port) given (a ∷ [])
    ∙ ap (λ (b : Bool). filter (is_of port) given ++ cond b (a ∷ []) []) (ne_eqb a.packet.id.port port other)
    ∙ append-nil (filter (is_of port) given)

keeps_all : (port : ℕ) (xs : List Arrival) → AllByRecursion (λ (a : Arrival). a.packet.id.port ≡ port) xs → filter (is_of port) xs ≡ xs
keeps_all port [] h = refl
keeps_all port (x ∷ xs) h =
    ap (λ (b : Bool). cond b (x ∷ filter (is_of port) xs) (filter (is_of port) xs)) (eq-eqb x.packet.id.port port h.0)
    ∙ ap (λ (t : List Arrival). x ∷ t) (keeps_all port xs h.1)

keeps_none : (port q : ℕ) (xs : List Arrival) → port ≢ q → AllByRecursion (λ (a : Arrival). a.packet.id.port ≡ q) xs → filter (is_of port) xs ≡ []
keeps_none port q [] ne h = refl
keeps_none port q (x ∷ xs) ne h =
    ap (λ (b : Bool). cond b (x ∷ filter (is_of port) xs) (filter (is_of port) xs)) (ne_eqb x.packet.id.port port (λ same. ne (sym same ∙ h.0)))
    ∙ keeps_none port q xs ne h.1

keeps_none_past : (port n : ℕ) (xs : List Arrival) → n ≤ port → AllByRecursion (λ (a : Arrival). a.packet.id.port < n) xs → filter (is_of port) xs ≡ []
keeps_none_past port n [] past h = refl
keeps_none_past port n (x ∷ xs) past h =
    ap (λ (b : Bool). cond b (x ∷ filter (is_of port) xs) (filter (is_of port) xs)) (ne_eqb x.packet.id.port port (λ same. absurd (omega (arith, same, h.0, past))))
    ∙ keeps_none_past port n xs past h.1

all_more : (P : Arrival → Type 0) (xs : List Arrival) (a : Arrival) → AllByRecursion P xs → P a → AllByRecursion P (xs ++ a ∷ [])
all_more P [] a h p = (p, tt)
all_more P (x ∷ xs) a h p = (h.0, all_more P xs a h.1 p)

-- ---- what follows what was given

follows_at_none : (port : ℕ) (all x : Option (List Arrival)) → Carries all x → FollowsAt port all [] x
follows_at_none port None x h = tt
follows_at_none port (Some all) None h = absurd h
follows_at_none port (Some all) (Some x) h = sym h

follows_at_on : (port : ℕ) (all : Option (List Arrival)) (given : List Arrival) (x y : Option (List Arrival)) → FollowsAt port all given x → Carries x y → FollowsAt port all given y
follows_at_on port None given x y h k = tt
follows_at_on port (Some all) given None y h k = absurd h
follows_at_on port (Some all) given (Some x) None h k = absurd k
follows_at_on port (Some all) given (Some x) (Some y) h k = h ∙ ap (λ (t : List Arrival). filter (is_of port) given ++ t) (sym k)

follows_at_given : (P : Arrival → Type 0) (port : ℕ) (a : Arrival) (all : Option (List Arrival)) (given : List Arrival) (x y : Option (List Arrival)) → a.packet.id.port ≡ port → FollowsAt port all given x → IsHeadOf P a x y → FollowsAt port all (given ++ a ∷ []) y
follows_at_given P port a None given x y same h k = tt
follows_at_given P port a (Some all) given None y same h k = absurd h
follows_at_given P port a (Some all) given (Some x) None same h k = absurd k
follows_at_given P port a (Some all) given (Some x) (Some y) same h k =
    h ∙ ap (λ (t : List Arrival). filter (is_of port) given ++ t) k.0
    ∙ sym (append_assoc (filter (is_of port) given) (a ∷ []) y)
    ∙ ap (λ (t : List Arrival). t ++ y) (sym (filter_same port given a same))

follows_at_other : (port : ℕ) (a : Arrival) (all : Option (List Arrival)) (given : List Arrival) (x : Option (List Arrival)) → a.packet.id.port ≢ port → FollowsAt port all given x → FollowsAt port all (given ++ a ∷ []) x
follows_at_other port a None given x other h = tt
follows_at_other port a (Some all) given None other h = absurd h
follows_at_other port a (Some all) given (Some x) other h = h ∙ ap (λ (t : List Arrival). t ++ x) (sym (filter_other port given a other))

-- ---- the headers were read

pub opened_by_port : (captures : List ℕ) (six : List Bool) (port : ℕ) (start : Told) (sources : List Stream) (now : Told) → length captures ≤ port → AreOpenedSoFar captures six port start sources now → SourcesStandByPort start [] sources now
opened_by_port captures six port start sources now past h = record {
  among = tt;
  follows = λ p s e. follows_at_none p (packets_in s.six p (start.rest s.reading.file)) (packets_left p s (now.rest s.reading.file)) ((h.each p s e).packets p);
  each = (opened_all captures six port start sources now past h).each;
}

-- ---- the next record of one capture is read

pub filled_by_port : (start : Told) (given : List Arrival) (sources : List Stream) (k : ℕ) (s new_s : Stream) (old new : Told) → IsApart (files_in sources) → slice_get sources k ≡ Some s → new_s.reading.file ≡ s.reading.file → new_s.six ≡ s.six
    → IsFilled s new_s (old.rest s.reading.file) (new.rest s.reading.file) → Keeps old new s.reading.file → SourcesStandByPort start given sources old → SourcesStandByPort start given (set sources k new_s) new
filled_by_port start given sources k s new_s old new apart e same same_six filled kept h = record {
  among = subst (λ (n : ℕ). AllByRecursion (λ (a : Arrival). a.packet.id.port < n) given) (sym (length-set sources k new_s)) h.among;
  follows = λ (j : ℕ) (y : Stream) q. elim (got_set sources k j new_s y q) [
    | inl here ↦
        let f = s.reading.file in
        let now : FollowsAt k (packets_in s.six k (start.rest f)) given (packets_left k new_s (new.rest f)) =
        follows_at_on k (packets_in s.six k (start.rest f)) given (packets_left k s (old.rest f)) (packets_left k new_s (new.rest f)) (h.follows k s e) (filled.packets k) in
        let by_six : FollowsAt k (packets_in new_s.six k (start.rest f)) given (packets_left k new_s (new.rest f)) =
        subst (λ (b : Bool). FollowsAt k (packets_in b k (start.rest f)) given (packets_left k new_s (new.rest f))) (sym same_six) now in
        let by_file : FollowsAt k (packets_in new_s.six k (start.rest new_s.reading.file)) given (packets_left k new_s (new.rest new_s.reading.file)) =
        subst (λ (n : ℕ). FollowsAt k (packets_in new_s.six k (start.rest n)) given (packets_left k new_s (new.rest n))) (sym same) by_six in
        subst (λ (n : ℕ). FollowsAt n (packets_in y.six n (start.rest y.reading.file)) given (packets_left n y (new.rest y.reading.file))) (sym here.0)
        (subst (λ (t : Stream). FollowsAt k (packets_in t.six k (start.rest t.reading.file)) given (packets_left k t (new.rest t.reading.file))) here.1 by_file)
    | inr there ↦
        subst (λ (r : Option (List ℕ)). FollowsAt j (packets_in y.six j (start.rest y.reading.file)) given (packets_left j y r)) (sym (rest_other sources k j s y old new apart e there.1 there.0 kept)) (h.follows j y there.1)
  ];
  each = λ (j : ℕ) (y : Stream) q. elim (got_set sources k j new_s y q) [
    | inl here ↦
        let before = h.each k s e in
        let now : SourceStands start given new k new_s = source_stands start given new k new_s s.reading.file same
        (kind_on (start.rest s.reading.file) s.reading.captured new_s.reading.captured filled.same_kind before.kind)
        (tear_on (start.rest s.reading.file) (tear_left s (old.rest s.reading.file)) (tear_left new_s (new.rest s.reading.file)) before.torn filled.torn)
        (λ pcap.
        let was = sym filled.same_kind ∙ pcap in
        taken_more k given s new_s (start.rest s.reading.file) (old.rest s.reading.file) (new.rest s.reading.file) (before.taken was) (filled.taken was)) in
        subst (λ (n : ℕ). SourceStands start given new n y) (sym here.0) (subst (SourceStands start given new k) here.1 now)
    | inr there ↦ source_stays start given old new j y (rest_other sources k j s y old new apart e there.1 there.0 kept) (h.each j y there.1)
  ];
}

pub settled_there : (sources : List Stream) (k : ℕ) (new_s : Stream) → IsSettled new_s.ahead → IsSettledAt k (set sources k new_s)
settled_there sources k new_s settled s e = elim (got_set sources k k new_s s e) [
  | inl here ↦ subst (λ (t : Stream). IsSettled t.ahead) here.1 settled
  | inr there ↦ absurd (there.0 refl)
]

-- ---- the packet that was read ahead is given

pub is_held_so : (ahead : Ahead) → true ≡ is_held ahead → ahead ≡ Held
is_held_so Unread e = absurd cc
is_held_so Held e = refl
is_held_so Ended e = absurd cc
is_held_so (Torn offset) e = absurd cc

pub held_there : (sources : List Stream) (port : ℕ) (t : Stream) (held : Bool) → slice_get sources port ≡ Some t → is_held t.ahead ≡ held → IsHeldAt port sources held
held_there sources port t held e is s at = ap (λ (x : Stream). is_held x.ahead) (same_Some _ _ (sym at ∙ e)) ∙ is

none_held : (ahead : Ahead) (latest : ℕ) → is_held ahead ≡ false → time_in ahead latest ≡ None
none_held Unread latest e = refl
none_held Held latest e = absurd cc
none_held Ended latest e = refl
none_held (Torn offset) latest e = refl

pub given_by_port : (start : Told) (given : List Arrival) (now : Told) (sources : List Stream) (k : ℕ) (s : Stream) → slice_get sources k ≡ Some s → s.ahead ≡ Held → SourcesStandByPort start given sources now → SourcesStandByPort start (given ++ last_read k s ∷ []) (set sources k (given_away s)) now
given_by_port start given now sources k s e held h =
    let a = last_read k s in
    let in_port = came_in s.six k s.seq s.latest s.is_ethernet s.original s.frame in
    let inside : k < length sources = slice_get_within sources k s e in
    record {
      among = subst (λ (n : ℕ). AllByRecursion (λ (x : Arrival). x.packet.id.port < n) (given ++ a ∷ [])) (sym (length-set sources k (given_away s)))
          (all_more (λ (x : Arrival). x.packet.id.port < length sources) given a h.among (omega (arith, in_port, inside)));
      follows = λ (j : ℕ) (y : Stream) q. elim (got_set sources k j (given_away s) y q) [
        | inl here ↦
            let f = s.reading.file in
            let one : FollowsAt k (packets_in s.six k (start.rest f)) (given ++ a ∷ []) (packets_left k (given_away s) (now.rest f)) =
            follows_at_given _ k a (packets_in s.six k (start.rest f)) given (packets_left k s (now.rest f)) (packets_left k (given_away s) (now.rest f)) in_port (h.follows k s e) (head_given k s (now.rest f) held) in
            subst (λ (n : ℕ). FollowsAt n (packets_in y.six n (start.rest y.reading.file)) (given ++ a ∷ []) (packets_left n y (now.rest y.reading.file))) (sym here.0)
            (subst (λ (t : Stream). FollowsAt k (packets_in t.six k (start.rest t.reading.file)) (given ++ a ∷ []) (packets_left k t (now.rest t.reading.file))) here.1 one)
        | inr there ↦
            follows_at_other j a (packets_in y.six j (start.rest y.reading.file)) given (packets_left j y (now.rest y.reading.file)) (λ same. there.0 (sym same ∙ in_port)) (h.follows j y there.1)
      ];
      each = λ (j : ℕ) (y : Stream) q. elim (got_set sources k j (given_away s) y q) [
        | inl here ↦
            let before = h.each k s e in
            let f = s.reading.file in
            let now_stands : SourceStands start (given ++ a ∷ []) now k (given_away s) = record {
              kind = before.kind;
              torn = subst (IsTear (start.rest f)) (tear_given s (now.rest f) held) before.torn;
              taken = λ pcap. taken_given k given a s (given_away s) (start.rest f) (now.rest f) held refl in_port (came_with s.six k s.seq s.latest s.is_ethernet s.original s.frame) (before.taken pcap);
            } in
            subst (λ (n : ℕ). SourceStands start (given ++ a ∷ []) now n y) (sym here.0) (subst (SourceStands start (given ++ a ∷ []) now k) here.1 now_stands)
        | inr there ↦
            let before = h.each j y there.1 in
            record {
              kind = before.kind;
              torn = before.torn;
              taken = λ pcap. taken_other j given a y (start.rest y.reading.file) (now.rest y.reading.file) (λ same. there.0 (sym same ∙ in_port)) (before.taken pcap);
            }
      ];
    }

pub next_by_port : (start : Told) (given : List Arrival) (now : Told) (k count most : ℕ) (packet : Packet) (sources new : List Stream) → IsGiven k packet sources new → IsHeldAt k sources true → length given ≡ count
    → SourcesStandByPort start given sources now → StandsByPort start (given ++ shown packet (record { sources = new; shown = k; given = count + 1; most = most }) ∷ []) (record { sources = new; shown = k; given = count + 1; most = most }) now
next_by_port start given now k count most packet sources new h held long stands =
    let s = h.source in
    let a = shown packet (record { sources = new; shown = k; given = count + 1; most = most }) in
    record {
      count = omega (arith, length-append given (a ∷ []), long);
      sources =
          subst (λ (x : Arrival). SourcesStandByPort start (given ++ x ∷ []) new now) (sym (shown_is k (count + 1) most packet sources new h))
          (subst (λ (xs : List Stream). SourcesStandByPort start (given ++ last_read k s ∷ []) xs now) (sym h.new_is)
          (given_by_port start given now sources k s h.at (is_held_so s.ahead (sym (held s h.at))) stands));
    }

pub same_port : (k : ℕ) (packet : Packet) (sources new : List Stream) → IsGiven k packet sources new → packet.id.port ≡ k
same_port k packet sources new h =
    let s = h.source in
    ap (λ (p : Packet). p.id.port) h.packet_is ∙ came_in s.six k s.seq s.latest s.is_ethernet s.original s.frame

-- ---- among the packets of all captures

record Halves {A : Type 0} (u v : Option (List A)) (all : List A) : Type 0 where
  pub left : List A
  pub right : List A
  pub left_is : u ≡ Some left
  pub right_is : v ≡ Some right
  pub is : all ≡ left ++ right

halves : {A : Type 0} (u v : Option (List A)) (all : List A) → both u v ≡ Some all → Halves u v all
halves None v all e = absurd cc
halves (Some u) None all e = absurd cc
halves (Some u) (Some v) all e = record { left = u; right = v; left_is = refl; right_is = refl; is = sym (same_Some _ _ e) }

gathered_past : {X : Type 0} (give : ℕ → X → Option (List Arrival)) (place : ℕ) (xs : List X) (all : List Arrival) → ((q : ℕ) (x : X) → AllIn (λ (a : Arrival). a.packet.id.port ≡ q) (give q x)) → gathered give place xs ≡ Some all
    → (port : ℕ) → ((j : ℕ) → j < length xs → port ≢ place + j) → filter (is_of port) all ≡ []
gathered_past give place [] all own e port outside = ap (filter (is_of port)) (sym (same_Some _ _ e))
gathered_past give place (x ∷ xs) all own e port outside =
    let h = halves (give place x) (gathered give (place + 1) xs) all e in
    let mine = subst (AllIn (λ (a : Arrival). a.packet.id.port ≡ place)) h.left_is (own place x) in
    ap (filter (is_of port)) h.is
    ∙ filter-append (is_of port) h.left h.right
    ∙ ap (λ (t : List Arrival). t ++ filter (is_of port) h.right) (keeps_none port place h.left (λ same. outside 0 (omega arith) (omega (arith, same))) mine)
    ∙ gathered_past give (place + 1) xs h.right own h.right_is port (λ j lt same. outside (suc j) (omega (arith, lt)) (omega (arith, same)))

record Has (port : ℕ) (o : Option (List Arrival)) (all : List Arrival) : Type 0 where
  pub own : List Arrival
  pub is : o ≡ Some own
  pub filtered : filter (is_of port) all ≡ own

one_of : {X : Type 0} (x y : X) → Some x ≡ Some y → x ≡ y
one_of x y e = cc

gathered_at : {X : Type 0} (give : ℕ → X → Option (List Arrival)) (place : ℕ) (xs : List X) (all : List Arrival) → ((q : ℕ) (x : X) → AllIn (λ (a : Arrival). a.packet.id.port ≡ q) (give q x)) → gathered give place xs ≡ Some all
    → (port j : ℕ) (y : X) → port ≡ place + j → slice_get xs j ≡ Some y → Has port (give port y) all
gathered_at give place [] all own e port j y is q = absurd cc
gathered_at {X = X} give place (x ∷ xs) all own e port zero y is q =
    let h = halves (give place x) (gathered give (place + 1) xs) all e in
    let mine = subst (AllIn (λ (a : Arrival). a.packet.id.port ≡ place)) h.left_is (own place x) in
    let same : place ≡ port = omega (arith, is) in
    let here : Has place (give place x) all = record {
      own = h.left;
      is = h.left_is;
      filtered =
          ap (filter (is_of place)) h.is
          ∙ filter-append (is_of place) h.left h.right
          ∙ ap (λ (t : List Arrival). t ++ filter (is_of place) h.right) (keeps_all place h.left mine)
          ∙ ap (λ (t : List Arrival). h.left ++ t) (gathered_past give (place + 1) xs h.right own h.right_is place (λ j lt same. absurd (omega (arith, same))))
          ∙ append-nil h.left;
    } in
    subst (λ (n : ℕ). Has n (give n y) all) same (subst (λ (z : X). Has place (give place z) all) (one_of x y q) here)
gathered_at give place (x ∷ xs) all own e port (suc j) y is q =
    let h = halves (give place x) (gathered give (place + 1) xs) all e in
    let mine = subst (AllIn (λ (a : Arrival). a.packet.id.port ≡ place)) h.left_is (own place x) in
    let later = gathered_at give (place + 1) xs h.right own h.right_is port j y (omega (arith, is)) q in
    record {
      own = later.own;
      is = later.is;
      filtered =
          ap (filter (is_of port)) h.is
          ∙ filter-append (is_of port) h.left h.right
          ∙ ap (λ (t : List Arrival). t ++ filter (is_of port) h.right) (keeps_none port place h.left (λ same. absurd (omega (arith, same, is))) mine)
          ∙ later.filtered;
    }

own_from : (six : Bool) (port seq latest : ℕ) (ps : List Heard) → AllByRecursion (λ (a : Arrival). a.packet.id.port ≡ port) (arrivals_from six port seq latest ps)
own_from six port seq latest [] = tt
own_from six port seq latest (p ∷ ps) =
    let time = max latest p.time in
    (came_in six port seq time p.is_ethernet p.original p.frame, own_from six port (seq + 1) time ps)

own_of : (six : Bool) (port : ℕ) (c : Option Contents) → AllIn (λ (a : Arrival). a.packet.id.port ≡ port) (option_map (arrivals_in six port) c)
own_of six port None = tt
own_of six port (Some c) = own_from six port 0 0 c.heard

own_in : (six : Bool) (port : ℕ) (bytes : Option (List ℕ)) → AllIn (λ (a : Arrival). a.packet.id.port ≡ port) (packets_in six port bytes)
own_in six port None = tt
own_in six port (Some bytes) = own_of six port (contents_of bytes)

has_port : (start : Told) (sources : List Stream) (all : List Arrival) → packets_of (sixes_in sources) (files_in sources) start ≡ Some all → (k : ℕ) (s : Stream) → slice_get sources k ≡ Some s → Has k (packets_in s.six k (start.rest s.reading.file)) all
has_port start sources all e k s at =
    subst (λ (b : Bool). Has k (packets_in b k (start.rest s.reading.file)) all) (six_is sources k s at)
    (gathered_at (λ port (file : ℕ). packets_in (six_at (sixes_in sources) port) port (start.rest file)) 0 (files_in sources) all (λ q file. own_in (six_at (sixes_in sources) q) q (start.rest file)) e k k s.reading.file (omega arith) (file_at sources k s at))

stream_at : (xs : List Stream) (p : ℕ) → p < length xs → (x : Stream) × (slice_get xs p ≡ Some x)
stream_at [] p lt = absurd (omega (arith, lt))
stream_at (x ∷ xs) zero lt = (x, refl)
stream_at (x ∷ xs) (suc p) lt = stream_at xs p (omega (arith, lt))

follows_first : (port : ℕ) (o x : Option (List Arrival)) (given own : List Arrival) → o ≡ Some own → FollowsAt port o given x → (later : List Arrival) × (own ≡ filter (is_of port) given ++ later)
follows_first port None x given own e h = absurd cc
follows_first port (Some all) None given own e h = absurd h
follows_first port (Some all) (Some left) given own e h = (left, sym (same_Some _ _ e) ∙ h)

follows_all : (port : ℕ) (o x : Option (List Arrival)) (given own : List Arrival) → o ≡ Some own → x ≡ Some [] → FollowsAt port o given x → own ≡ filter (is_of port) given
follows_all port None x given own e none h = absurd cc
follows_all port (Some all) None given own e none h = absurd h
follows_all port (Some all) (Some left) given own e none h =
    sym (same_Some _ _ e) ∙ h ∙ ap (λ (t : List Arrival). filter (is_of port) given ++ t) (same_Some _ _ none) ∙ append-nil (filter (is_of port) given)

-- these are the first packets of each port
pub first_of_ports : (start : Told) (given : List Arrival) (sources : List Stream) (now : Told) → SourcesStandByPort start given sources now → AreFirstOfPorts (packets_of (sixes_in sources) (files_in sources) start) given
first_of_ports start given sources now h = of_all (packets_of (sixes_in sources) (files_in sources) start) refl
  where
    of_port : (all : List Arrival) → packets_of (sixes_in sources) (files_in sources) start ≡ Some all → (port : ℕ) → (later : List Arrival) × (filter (is_of port) all ≡ filter (is_of port) given ++ later)
    of_port all e port = elim (cases_lt port (length sources)) [
      | inl lt ↦
          let s = stream_at sources port lt in
          let has = has_port start sources all e port s.0 s.1 in
          let first = follows_first port (packets_in s.0.six port (start.rest s.0.reading.file)) (packets_left port s.0 (now.rest s.0.reading.file)) given has.own has.is (h.follows port s.0 s.1) in
          (first.0, has.filtered ∙ first.1)
      | inr past ↦
          let none : filter (is_of port) all ≡ [] =
          gathered_past (λ q (file : ℕ). packets_in (six_at (sixes_in sources) q) q (start.rest file)) 0 (files_in sources) all (λ q file. own_in (six_at (sixes_in sources) q) q (start.rest file)) e port
          (λ j lt same. absurd (omega (arith, lt, same, past, length-map sources (λ (s : Stream). s.reading.file)))) in
          ([], none ∙ ap (λ (t : List Arrival). t ++ []) (sym (keeps_none_past port (length sources) given past h.among)))
    ]

    of_all : (o : Option (List Arrival)) → packets_of (sixes_in sources) (files_in sources) start ≡ o → AreFirstOfPorts o given
    of_all None e = tt
    of_all (Some all) e = of_port all e

-- of a port of which nothing is left all were given
pub all_of_port : (start : Told) (given : List Arrival) (sources : List Stream) (now : Told) (k : ℕ) → k < length sources → IsSettledAt k sources → IsHeldAt k sources false → SourcesStandByPort start given sources now
    → AreAllOf k (packets_of (sixes_in sources) (files_in sources) start) given
all_of_port start given sources now k lt settled held h = of_all (packets_of (sixes_in sources) (files_in sources) start) refl
  where
    of_all : (o : Option (List Arrival)) → packets_of (sixes_in sources) (files_in sources) start ≡ o → AreAllOf k o given
    of_all None e = tt
    of_all (Some all) e =
        let found = stream_at sources k lt in
        let s = found.0 in
        let has = has_port start sources all e k s found.1 in
        has.filtered ∙ follows_all k (packets_in s.six k (start.rest s.reading.file)) (packets_left k s (now.rest s.reading.file)) given has.own has.is
        (none_given k s (now.rest s.reading.file) (settled s found.1) (none_held s.ahead s.latest (held s found.1))) (h.follows k s found.1)

-- ---- other files are read

pub by_port_among : (start : Told) (given : List Arrival) (sources : List Stream) (old new : Told) → ((port : ℕ) (s : Stream) → slice_get sources port ≡ Some s → new.rest s.reading.file ≡ old.rest s.reading.file) → SourcesStandByPort start given sources old → SourcesStandByPort start given sources new
by_port_among start given sources old new same h = record {
  among = h.among;
  follows = λ port s e. subst (λ (r : Option (List ℕ)). FollowsAt port (packets_in s.six port (start.rest s.reading.file)) given (packets_left port s r)) (sym (same port s e)) (h.follows port s e);
  each = λ port s e. source_stays start given old new port s (same port s e) (h.each port s e);
}
