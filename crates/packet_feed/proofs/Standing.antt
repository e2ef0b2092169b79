-- What stands of captures that are read side by side, through each step.
use Rattle.std.proofs.Common.{◌≡◌, ◌≢◌, ℕ, ◌+◌, ◌≤◌, ◌<◌, Bool, true, false, List, [], ◌∷◌, ◌++◌, length, set, Option, Some, None, Err, inl, inr, refl, sym, ap, ◌∙◌, subst, append_assoc, arith, max}
use Rattle.std.specs.List.{All, AllByRecursion, slice_get}
use Rattle.std.specs.Option.{option_map, option_and_then}
use Rattle.std.proofs.lemmas.List.{length-set, length-map}
use Rattle.std.proofs.lemmas.List.Elements.{All-get_or}
use Rattle.std.proofs.lemmas.Option.{slice_get-map, slice_get_within, get_or_from_slice_get}
use Rattle.nf_files.specs.Told.{Told}
use Rattle.nf_files.specs.Reads.{Keeps}
use Rattle.nf_files.specs.Causes.{Counted, Faulted}
use Rattle.pcap_file.specs.Causes as one
use Rattle.pcap_file.specs.declared.fault.CapFault.{CapFault}
use Rattle.pcap_file.specs.declared.fault.CapFault.TheVariants.{NotCapture, File, Memory}
use Rattle.packet_feed.specs.declared.fault.FeedFault.{FeedFault}
use Rattle.packet_feed.specs.Faults.{fault_at, FaultedAt, IsCause}
use Rattle.nf_base.specs.Doors.{six_at}
use Rattle.nf_base.proofs.Mixes.{got_set}
use Rattle.packet_feed.specs.declared.ahead.Ahead.TheVariants.{Held}
use Rattle.pcapng_file.specs.Heard.{Heard, Stream as Contents}
use Rattle.packet_feed.specs.Contents.{contents_of}
use Rattle.packet_feed.specs.Captures.{is_pcap, IsKind}
use Rattle.packet_feed.specs.declared.captured.Captured.{Captured}
use Rattle.packet_feed.specs.Arrivals.{Arrival, arrivals_from, arrivals_in}
use Rattle.packet_feed.specs.Order.{in_order}
use Rattle.packet_feed.specs.Told.{Carries, packets_of, IsTear, IsApart, KeepsOthers, packets_in}
use Rattle.packet_feed.specs.Streams.{Stream, last_read, packets_left, tear_left, time_in, IsSettled}
use Rattle.packet_feed.specs.Sources.{files_in, sixes_in, all_left, Follows, SourceStands, SourcesStand, IsFilled, AreSettled, IsFirst, time_at, given_away}
use Rattle.packet_feed.specs.Taken.{IsTaken}
use Rattle.packet_feed.proofs.Ordering.{IsBehind, comes_first}
use Rattle.packet_feed.proofs.Gathering.{gathered_carries, gathered_none, gathered_picks, Picks, carries_is, map_kept, AllIn, gathered_all}
use Rattle.packet_feed.proofs.Taking.{taken_more, taken_given, taken_other}
use Rattle.packet_feed.proofs.Streaming.{other_behind, head_given, tear_given, held_since, none_given, came_in, came_at, came_with}

-- the file of the capture of a port
pub file_at : (sources : List Stream) (port : ℕ) (s : Stream) → slice_get sources port ≡ Some s → slice_get (files_in sources) port ≡ Some (s.reading.file)
file_at sources port s e = slice_get-map (λ (x : Stream). x.reading.file) sources port ∙ ap (option_map (λ (x : Stream). x.reading.file)) e

-- whether the port of a capture has a handler for IPv6
pub six_is : (sources : List Stream) (port : ℕ) (s : Stream) → slice_get sources port ≡ Some s → six_at (sixes_in sources) port ≡ s.six
six_is sources port s e =
    let at : slice_get (sixes_in sources) port ≡ Some (s.six) = slice_get-map (λ (x : Stream). x.six) sources port ∙ ap (option_map (λ (x : Stream). x.six)) e in
    get_or_from_slice_get (sixes_in sources) port s.six false at

-- ---- the next record of one capture is read

follows_on : (all : Option (List Arrival)) (given : List Arrival) (x y : Option (List Arrival)) → Follows all given x → Carries x y → Follows all given y
follows_on None given x y h k = tt
follows_on (Some all) given None y h k = absurd h
follows_on (Some all) given (Some x) None h k = absurd k
follows_on (Some all) given (Some x) (Some y) h k = h ∙ ap (λ (t : List Arrival). given ++ in_order t) (sym k)

pub tear_on : (start : Option (List ℕ)) (x y : Option (Option ℕ)) → IsTear start x → Carries x y → IsTear start y
tear_on None x y h k = tt
tear_on (Some bytes) None y h k = absurd h
tear_on (Some bytes) (Some x) None h k = absurd k
tear_on (Some bytes) (Some x) (Some y) h k = subst (λ (t : Option ℕ). IsTear (Some bytes) (Some t)) (sym k) h

-- the rest of another capture's file stays
pub rest_other : (sources : List Stream) (k j : ℕ) (s x : Stream) (old new : Told) → IsApart (files_in sources) → slice_get sources k ≡ Some s → slice_get sources j ≡ Some x → j ≢ k → Keeps old new s.reading.file → new.rest x.reading.file ≡ old.rest x.reading.file
rest_other sources k j s x old new apart e p ne kept = kept.rests x.reading.file (apart j k x.reading.file s.reading.file (file_at sources j x p) (file_at sources k s e) ne)

pub one_is : {A : Type 0} (x y : A) → Some x ≡ Some y → x ≡ y
one_is x y e = cc

filled_left : (sources : List Stream) (k : ℕ) (s new_s : Stream) (old new : Told) → IsApart (files_in sources) → slice_get sources k ≡ Some s → new_s.reading.file ≡ s.reading.file
    → IsFilled s new_s (old.rest s.reading.file) (new.rest s.reading.file) → Keeps old new s.reading.file → Carries (all_left sources old) (all_left (set sources k new_s) new)
filled_left sources k s new_s old new apart e same filled kept =
    gathered_carries (λ port (x : Stream). packets_left port x (old.rest x.reading.file)) (λ port (x : Stream). packets_left port x (new.rest x.reading.file)) sources (set sources k new_s) (sym (length-set sources k new_s))
    (λ (j : ℕ) (x y : Stream) p q. elim (got_set sources k j new_s y q) [
      | inl here ↦
          let is : s ≡ x = one_is s x (sym e ∙ ap (slice_get sources) (sym here.0) ∙ p) in
          subst (λ (t : Stream). Carries (packets_left j t (old.rest t.reading.file)) (packets_left j y (new.rest y.reading.file))) is
          (subst (λ (t : Stream). Carries (packets_left j s (old.rest s.reading.file)) (packets_left j t (new.rest t.reading.file))) here.1
          (subst (λ (f : ℕ). Carries (packets_left j s (old.rest s.reading.file)) (packets_left j new_s (new.rest f))) (sym same) (filled.packets j)))
      | inr there ↦
          let is : x ≡ y = one_is x y (sym p ∙ there.1) in
          subst (λ (t : Stream). Carries (packets_left j x (old.rest x.reading.file)) (packets_left j t (new.rest t.reading.file))) is
          (carries_is (packets_left j x (old.rest x.reading.file)) (packets_left j x (new.rest x.reading.file)) (ap (packets_left j x) (rest_other sources k j s x old new apart e p there.0 kept)))
    ])

-- the format of a capture that is read on stays
pub kind_on : (bytes : Option (List ℕ)) (old new : Captured) → is_pcap new ≡ is_pcap old → IsKind bytes old → IsKind bytes new
kind_on None old new same h = tt
kind_on (Some bytes) old new same h = same ∙ h

-- what stands of a capture, by the number of its file
pub source_stands : (start : Told) (given : List Arrival) (now : Told) (port : ℕ) (s : Stream) (f : ℕ) → s.reading.file ≡ f → IsKind (start.rest f) s.reading.captured → IsTear (start.rest f) (tear_left s (now.rest f)) → (is_pcap s.reading.captured ≡ true → IsTaken port given s (start.rest f) (now.rest f)) → SourceStands start given now port s
source_stands start given now port s f same kind torn taken = record {
  kind = subst (λ (n : ℕ). IsKind (start.rest n) s.reading.captured) (sym same) kind;
  torn = subst (λ (n : ℕ). IsTear (start.rest n) (tear_left s (now.rest n))) (sym same) torn;
  taken = λ pcap. subst (λ (n : ℕ). IsTaken port given s (start.rest n) (now.rest n)) (sym same) (taken pcap);
}

-- a capture of which nothing was read
pub source_stays : (start : Told) (given : List Arrival) (old new : Told) (port : ℕ) (s : Stream) → new.rest s.reading.file ≡ old.rest s.reading.file → SourceStands start given old port s → SourceStands start given new port s
source_stays start given old new port s same h = record {
  kind = h.kind;
  torn = subst (λ (r : Option (List ℕ)). IsTear (start.rest s.reading.file) (tear_left s r)) (sym same) h.torn;
  taken = λ pcap. subst (λ (r : Option (List ℕ)). IsTaken port given s (start.rest s.reading.file) r) (sym same) (h.taken pcap);
}

pub filled_stands : (start : Told) (given : List Arrival) (sources : List Stream) (k : ℕ) (s new_s : Stream) (old new : Told) → IsApart (files_in sources) → slice_get sources k ≡ Some s → new_s.reading.file ≡ s.reading.file → new_s.six ≡ s.six
    → IsFilled s new_s (old.rest s.reading.file) (new.rest s.reading.file) → Keeps old new s.reading.file → SourcesStand start given sources old → SourcesStand start given (set sources k new_s) new
filled_stands start given sources k s new_s old new apart e same same_six filled kept h = record {
  order =
      let files : files_in (set sources k new_s) ≡ files_in sources = map_kept (λ (x : Stream). x.reading.file) sources k s new_s e same in
      let sixes : sixes_in (set sources k new_s) ≡ sixes_in sources = map_kept (λ (x : Stream). x.six) sources k s new_s e same_six in
      subst (λ (bs : List Bool). Follows (packets_of bs (files_in (set sources k new_s)) start) given (all_left (set sources k new_s) new)) (sym sixes)
      (subst (λ (fs : List ℕ). Follows (packets_of (sixes_in sources) fs start) given (all_left (set sources k new_s) new)) (sym files)
      (follows_on (packets_of (sixes_in sources) (files_in sources) start) given (all_left sources old) (all_left (set sources k new_s) new) h.order (filled_left sources k s new_s old new apart e same filled kept)));
  each = λ (j : ℕ) (y : Stream) q. elim (got_set sources k j new_s y q) [
    | inl here ↦
        let before = h.each k s e in
        let now : SourceStands start given new k new_s = source_stands start given new k new_s s.reading.file same
        (kind_on (start.rest s.reading.file) s.reading.captured new_s.reading.captured filled.same_kind before.kind)
        (tear_on (start.rest s.reading.file) (tear_left s (old.rest s.reading.file)) (tear_left new_s (new.rest s.reading.file)) before.torn filled.torn)
        (λ pcap.
        let was = sym filled.same_kind ∙ pcap in
        taken_more k given s new_s (start.rest s.reading.file) (old.rest s.reading.file) (new.rest s.reading.file) (before.taken was) (filled.taken was)) in
        subst (λ (n : ℕ). SourceStands start given new n y) (sym here.0) (subst (SourceStands start given new k) here.1 now)
    | inr there ↦ source_stays start given old new j y (rest_other sources k j s y old new apart e there.1 there.0 kept) (h.each j y there.1)
  ];
}

-- ---- the packet that comes first is given

-- of the captures whose next packet is known, all packets of another come behind the first
others_behind : (sources : List Stream) (k time : ℕ) (s : Stream) (told : Told) → slice_get sources k ≡ Some s → s.latest ≡ time → AreSettled sources → IsFirst sources (length sources) (Some (record { port = k; time = time }))
    → (j : ℕ) (x : Stream) → slice_get sources j ≡ Some x → j ≢ k → AllIn (IsBehind (last_read k s)) (packets_left j x (told.rest x.reading.file))
others_behind sources k time s told e same settled first j x p ne =
    let inside : j < length sources = slice_get_within sources j x p in
    let t = came_at s.six k s.seq s.latest s.is_ethernet s.original s.frame in
    let q = came_in s.six k s.seq s.latest s.is_ethernet s.original s.frame in
    other_behind (last_read k s) j x (told.rest x.reading.file) (settled j x p) (λ held.
    let here : time_at sources j ≡ Some x.latest = ap (λ (o : Option Stream). option_and_then (λ (y : Stream). time_in y.ahead y.latest) o) p ∙ held in
    let least = first.2 j x.latest inside here in
    record {
      time_le = omega (arith, least.0);
      port_le = λ le. let down : x.latest ≤ time = omega arith in let low = least.1 down in omega arith;
      seq_lt = λ le lo. let down : x.latest ≤ time = omega arith in let low : k ≤ j = least.1 down in absurd (ne (omega arith));
    })

pub held_first : (sources : List Stream) (k time : ℕ) (s : Stream) → slice_get sources k ≡ Some s → IsFirst sources (length sources) (Some (record { port = k; time = time })) → (s.ahead ≡ Held) × (s.latest ≡ time)
held_first sources k time s e first = held_since s.ahead s.latest time (sym (ap (λ (o : Option Stream). option_and_then (λ (y : Stream). time_in y.ahead y.latest) o) e) ∙ first.1)

follows_pick : (all : Option (List Arrival)) (given : List Arrival) (a : Arrival) (x y : Option (List Arrival)) → Follows all given x → Picks (IsBehind a) a x y → Follows all (given ++ a ∷ []) y
follows_pick None given a x y h k = tt
follows_pick (Some all) given a None y h k = absurd h
follows_pick (Some all) given a (Some x) None h k = absurd k
follows_pick (Some all) given a (Some x) (Some y) h k =
    let first : in_order x ≡ a ∷ in_order y = ap in_order k.is ∙ comes_first a k.pre k.post k.before k.after ∙ ap (λ (t : List Arrival). a ∷ in_order t) (sym k.left) in
    h ∙ ap (λ (t : List Arrival). given ++ t) first ∙ sym (append_assoc given (a ∷ []) (in_order y))

-- what is left without the packet that comes first
pub first_picked : (now : Told) (sources : List Stream) (k time : ℕ) (s : Stream) → slice_get sources k ≡ Some s → AreSettled sources → IsFirst sources (length sources) (Some (record { port = k; time = time }))
    → Picks (IsBehind (last_read k s)) (last_read k s) (all_left sources now) (all_left (set sources k (given_away s)) now)
first_picked now sources k time s e settled first =
    let a = last_read k s in
    let held = held_first sources k time s e first in
    gathered_picks (IsBehind a) a (λ port (x : Stream). packets_left port x (now.rest x.reading.file)) k sources s (given_away s) e
    (head_given k s (now.rest s.reading.file) held.0) (others_behind sources k time s now e held.1 settled first)

pub given_stands : (start : Told) (given : List Arrival) (now : Told) (sources : List Stream) (k time : ℕ) (s : Stream) → slice_get sources k ≡ Some s → AreSettled sources
    → IsFirst sources (length sources) (Some (record { port = k; time = time })) → SourcesStand start given sources now → SourcesStand start (given ++ last_read k s ∷ []) (set sources k (given_away s)) now
given_stands start given now sources k time s e settled first h =
    let a = last_read k s in
    let held = held_first sources k time s e first in
    let in_port = came_in s.six k s.seq s.latest s.is_ethernet s.original s.frame in
    record {
      order =
          let files : files_in (set sources k (given_away s)) ≡ files_in sources = map_kept (λ (x : Stream). x.reading.file) sources k s (given_away s) e refl in
          let sixes : sixes_in (set sources k (given_away s)) ≡ sixes_in sources = map_kept (λ (x : Stream). x.six) sources k s (given_away s) e refl in
          subst (λ (bs : List Bool). Follows (packets_of bs (files_in (set sources k (given_away s))) start) (given ++ a ∷ []) (all_left (set sources k (given_away s)) now)) (sym sixes)
          (subst (λ (fs : List ℕ). Follows (packets_of (sixes_in sources) fs start) (given ++ a ∷ []) (all_left (set sources k (given_away s)) now)) (sym files)
          (follows_pick (packets_of (sixes_in sources) (files_in sources) start) given a (all_left sources now) (all_left (set sources k (given_away s)) now) h.order (first_picked now sources k time s e settled first)));
      each = λ (j : ℕ) (y : Stream) q. elim (got_set sources k j (given_away s) y q) [
        | inl here ↦
            let before = h.each k s e in
            let f = s.reading.file in
            let now_stands : SourceStands start (given ++ a ∷ []) now k (given_away s) = record {
              kind = before.kind;
              torn = subst (IsTear (start.rest f)) (tear_given s (now.rest f) held.0) before.torn;
              taken = λ pcap. taken_given k given a s (given_away s) (start.rest f) (now.rest f) held.0 refl in_port (came_with s.six k s.seq s.latest s.is_ethernet s.original s.frame) (before.taken pcap);
            } in
            subst (λ (n : ℕ). SourceStands start (given ++ a ∷ []) now n y) (sym here.0) (subst (SourceStands start (given ++ a ∷ []) now k) here.1 now_stands)
        | inr there ↦
            let before = h.each j y there.1 in
            record {
              kind = before.kind;
              torn = before.torn;
              taken = λ pcap. taken_other j given a y (start.rest y.reading.file) (now.rest y.reading.file) (λ same. there.0 (sym same ∙ in_port)) (before.taken pcap);
            }
      ];
    }

-- ---- the end

pub none_left_at : (sources : List Stream) (port : ℕ) (s : Stream) → slice_get sources port ≡ Some s → IsFirst sources (length sources) None → time_in s.ahead s.latest ≡ None
none_left_at sources port s e none = sym (ap (λ (o : Option Stream). option_and_then (λ (y : Stream). time_in y.ahead y.latest) o) e) ∙ none port (slice_get_within sources port s e)

pub all_given : (sources : List Stream) (now : Told) → AreSettled sources → IsFirst sources (length sources) None → all_left sources now ≡ Some []
all_given sources now settled none =
    gathered_none (λ port (x : Stream). packets_left port x (now.rest x.reading.file)) sources (λ (j : ℕ) (x : Stream) p. none_given j x (now.rest x.reading.file) (settled j x p) (none_left_at sources j x p none))

-- ---- a loop over all captures

pub same_length : (xs ys : List Stream) → files_in xs ≡ files_in ys → length xs ≡ length ys
same_length xs ys e = omega (arith, ap (λ (t : List ℕ). length t) e, length-map xs (λ (x : Stream). x.reading.file), length-map ys (λ (x : Stream). x.reading.file))

pub at_file : (P : ℕ → Type 0) (files : List ℕ) (k f : ℕ) → slice_get files k ≡ Some f → All P files → P f
at_file P files k f e h = subst P (get_or_from_slice_get files k f f e) (All-get_or P files k f (slice_get_within files k f e) h)

pub kept_more : (files : List ℕ) (k f : ℕ) (start old new : Told) → slice_get files k ≡ Some f → KeepsOthers files start old → Keeps old new f → KeepsOthers files start new
kept_more files k f start old new e h kept = record {
  rests = λ g others. kept.rests g (λ same. at_file (λ (x : ℕ). x ≢ g) files k f e others (sym same)) ∙ h.rests g others;
  givens = λ g. kept.givens g ∙ h.givens g;
  names = λ g. kept.names g ∙ h.names g;
  kinds = λ g. kept.kinds g ∙ h.kinds g;
  contents = λ n. kept.contents n ∙ h.contents n;
  latest_same = λ n. kept.latest_same n ∙ h.latest_same n;
  next_same = kept.next_same ∙ h.next_same;
}

pub kept_none : (files : List ℕ) (told : Told) → KeepsOthers files told told
kept_none files told = record { rests = λ g others. refl; givens = λ g. refl; names = λ g. refl; kinds = λ g. refl; contents = λ n. refl; latest_same = λ n. refl; next_same = refl }

pub settled_more : (sources : List Stream) (k : ℕ) (new_s : Stream) → IsSettled new_s.ahead → ((port : ℕ) (s : Stream) → port < k → slice_get sources port ≡ Some s → IsSettled s.ahead)
    → (port : ℕ) (s : Stream) → port < k + 1 → slice_get (set sources k new_s) port ≡ Some s → IsSettled s.ahead
settled_more sources k new_s settled h port s lt e = elim (got_set sources k port new_s s e) [
  | inl here ↦ subst (λ (t : Stream). IsSettled t.ahead) here.1 settled
  | inr there ↦ h port s (omega (arith, there.0)) there.1
]

-- the count of faults of a call on one capture is that of all
pub faulted_at : (T U : Type 0) (before old new : Counted) (files : List ℕ) (port f : ℕ) (fault : CapFault) (is : FeedFault) → slice_get files port ≡ Some f → is ≡ fault_at port fault → old ≡ before
    → one.IsCause {T = U} old new f (Err fault) → IsCause {T = T} before new files (Err is)
faulted_at T U before old new files port f NotCapture is e at same h = subst (λ (x : FeedFault). IsCause {T = T} before new files (Err x)) (sym at) (h ∙ same)
faulted_at T U before old new files port f Memory is e at same h = subst (λ (x : FeedFault). IsCause {T = T} before new files (Err x)) (sym at) (h ∙ same)
faulted_at T U before old new files port f File is e at same h =
    subst (λ (x : FeedFault). IsCause {T = T} before new files (Err x)) (sym at) (subst (λ (o : Option ℕ). FaultedAt before new o) (sym e) (subst (λ (c : Counted). Faulted c new f) same h))

-- ---- other files are written

pub stands_among : (start : Told) (given : List Arrival) (sources : List Stream) (old new : Told) → ((port : ℕ) (s : Stream) → slice_get sources port ≡ Some s → new.rest s.reading.file ≡ old.rest s.reading.file) → SourcesStand start given sources old → SourcesStand start given sources new
stands_among start given sources old new same h = record {
  order = follows_on (packets_of (sixes_in sources) (files_in sources) start) given (all_left sources old) (all_left sources new) h.order
      (gathered_carries (λ port (x : Stream). packets_left port x (old.rest x.reading.file)) (λ port (x : Stream). packets_left port x (new.rest x.reading.file)) sources sources refl
      (λ (j : ℕ) (x y : Stream) p q.
      let is : x ≡ y = one_is x y (sym p ∙ q) in
      subst (λ (t : Stream). Carries (packets_left j x (old.rest x.reading.file)) (packets_left j t (new.rest t.reading.file))) is
      (carries_is (packets_left j x (old.rest x.reading.file)) (packets_left j x (new.rest x.reading.file)) (ap (packets_left j x) (same j x p)))));
  each = λ port s e. source_stays start given old new port s (same port s e) (h.each port s e);
}

pub stands_kept : (start : Told) (given : List Arrival) (sources : List Stream) (old new : Told) → ((g : ℕ) → new.rest g ≡ old.rest g) → SourcesStand start given sources old → SourcesStand start given sources new
stands_kept start given sources old new same h = stands_among start given sources old new (λ port s e. same s.reading.file) h

-- ---- each packet came in at the port of its capture

at_port : (six : Bool) (port n seq latest : ℕ) (ps : List Heard) → port < n → AllByRecursion (λ (a : Arrival). a.packet.id.port < n) (arrivals_from six port seq latest ps)
at_port six port n seq latest [] lt = tt
at_port six port n seq latest (p ∷ ps) lt =
    let time = max latest p.time in
    (omega (arith, came_in six port seq time p.is_ethernet p.original p.frame), at_port six port n (seq + 1) time ps lt)

at_ports : (six : Bool) (port n : ℕ) (c : Option Contents) → port < n → AllIn (λ (a : Arrival). a.packet.id.port < n) (option_map (arrivals_in six port) c)
at_ports six port n None lt = tt
at_ports six port n (Some c) lt = at_port six port n 0 0 c.heard lt

in_port : (six : Bool) (port n : ℕ) (bytes : Option (List ℕ)) → port < n → AllIn (λ (a : Arrival). a.packet.id.port < n) (packets_in six port bytes)
in_port six port n None lt = tt
in_port six port n (Some bytes) lt = at_ports six port n (contents_of bytes) lt

pub all_ports : (six : List Bool) (files : List ℕ) (told : Told) → AllIn (λ (a : Arrival). a.packet.id.port < length files) (packets_of six files told)
all_ports six files told =
    gathered_all (λ (a : Arrival). a.packet.id.port < length files) (λ port file. packets_in (six_at six port) port (told.rest file)) files
    (λ (j f : ℕ) e. in_port (six_at six j) j (length files) (told.rest f) (slice_get_within files j f e))
