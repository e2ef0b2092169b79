-- A call that reads a text and captures.
use Rattle.std.proofs.Common.{◌≡◌, ◌≢◌, inl, inr, ℕ, zero, suc, ◌+◌, ◌-◌, ◌<◌, ◌≤◌, Bool, List, [], ◌∷◌, length, map, Option, Some, None, slice_get, option_map, Ok, Err, refl, ap, ap₂, sym, subst, ◌∙◌, arith}
use Rattle.std.proofs.lemmas.List.{length-map}
use Rattle.std.proofs.lemmas.Option.{slice_get_within}
use Rattle.nf_base.specs.Doors.{six_at, six_ports}
use Rattle.nf_base.specs.Text.{Function}
use Rattle.nf_files.specs.Told.{Told}
use Rattle.nf_files.specs.Causes.{Counted, Faulted, FaultedAsking, Asked, asking, losing}
use Rattle.pcapng_file.specs.Heard.{Stream as Contents}
use Rattle.packet_feed.specs.Contents.{contents_of}
use Rattle.packet_feed.specs.Arrivals.{Arrival}
use Rattle.packet_feed.specs.Told.{both, gathered, packets_in, packets_of, IsTear, IsCapture, IsNoCapture, KeepsOthers}
use Rattle.packet_feed.specs.Faults.{FaultedAt}
use Rattle.packet_feed.specs.Faults as feeding
use Rattle.packet_feed.specs.Streams.{Stream}
use Rattle.packet_feed.specs.Sources.{files_in, sixes_in, AreLesserCaptures, IsLeastBad}
use Rattle.packet_feed.specs.Feeding.{Feeding, StandsFor, Starts}
use Rattle.packet_feed.specs.Ports.{StandsByPort}
use Rattle.packet_feed.specs.declared.fault.FeedFault.{FeedFault}
use Rattle.packet_feed.specs.declared.fault.FeedFault.TheVariants as feed
use Rattle.stream_run.specs.declared.fault.RunFault.{RunFault}
use Rattle.stream_run.specs.declared.fault.RunFault.TheVariants as numbered
use Rattle.call_base.specs.declared.layout.FileOrder.{FileOrder}
use Rattle.call_base.specs.declared.layout.Layout.{Layout}
use Rattle.call_base.specs.declared.loading.Found.{Found}
use Rattle.call_base.specs.declared.status.RunFile.{RunFile}
use Rattle.call_base.specs.declared.status.RunFile.TheVariants.{Nf, Capture, Journal, Output, OutJournal, State, Proof, Stdout, Stderr}
use Rattle.call_base.specs.declared.status.CallFault.{CallFault}
use Rattle.call_base.specs.declared.status.CallFault.TheVariants.{File, Memory}
use Rattle.call_base.specs.Captures.{packets_under, Below}
use Rattle.call_base.specs.Loading.{IsTextCause, FindsFunction, HasFoundCause}
use Rattle.call_base.specs.Names.{reading}
use Rattle.call_base.specs.Numbers.{Faults, FailedBy, IsCauseBy, StopsBy, IsFrontOf}
use Rattle.call_base.specs.Layout.{numbering, numbering_of, stop_named}
use Rattle.call_base.specs.Opened.{AreOpened, AsksSome, IsAskCause, StopsFrom, StopsNext}
use Rattle.call_base.specs.Outside.{Outside, IsUntouched, HasOnlyAsked}
use Rattle.call_base.specs.Reading.{Reads, AreFrom, HasFound, HasOpened, IsFresh, HasFed, IsFirstBad, HasFailed, IsReadCause, IsUnread, ReadsTo, names_of, unfed}
use Rattle.call_base.proofs.Asking.{asking_both, asking_none, front_all, front_before, front_behind}
use Rattle.call_base.proofs.Creating.{untouched_both}
use Rattle.call_base.proofs.Layouts.{file_first, file_capture}
use Rattle.call_base.proofs.Stops.{front_both}

-- ---- captures by number and by name

pub got_at : {A : Type 0} (xs : List A) (k : ℕ) → k < length xs → (x : A) × (slice_get xs k ≡ Some x)
got_at [] k lt = absurd (omega (arith, lt))
got_at (x ∷ xs) zero lt = (x, refl)
got_at (x ∷ xs) (suc k) lt = got_at xs k (omega (arith, lt))

same_packets : (six : List Bool) (start before : Told) (place : ℕ) (fs : List ℕ) (ns : List (List ℕ)) → length fs ≡ length ns → ((i f : ℕ) (n : List ℕ) → slice_get fs i ≡ Some f → slice_get ns i ≡ Some n → start.rest f ≡ before.content n)
    → gathered (λ port file. packets_in (six_at six port) port (start.rest file)) place fs ≡ gathered (λ port n. packets_in (six_at six port) port (before.content n)) place ns
same_packets six start before place [] [] e h = refl
same_packets six start before place [] (n ∷ ns) e h = absurd (omega (arith, e))
same_packets six start before place (f ∷ fs) [] e h = absurd (omega (arith, e))
same_packets six start before place (f ∷ fs) (n ∷ ns) e h =
    ap (λ (o : Option (List Arrival)). both o (gathered (λ port file. packets_in (six_at six port) port (start.rest file)) (place + 1) fs)) (ap (packets_in (six_at six place) place) (h 0 f n refl refl))
    ∙ ap (λ (o : Option (List Arrival)). both (packets_in (six_at six place) place (before.content n)) o) (same_packets six start before (place + 1) fs ns (omega (arith, e)) (λ i g m p q. h (suc i) g m p q))

-- what holds of the bytes of each capture's file holds of what stood under its name
pub below_names : (P : Option (List ℕ) → Type 0) (c : Reads) (before a : Outside) (captures : List ℕ) (below : ℕ) → HasOpened c before a captures → ((p f : ℕ) → p < below → slice_get captures p ≡ Some f → P (a.told.rest f)) → Below P before.told c.captures below
below_names P c before a captures below opened h = λ p n lt at.
    let f = got_at captures p (omega (arith, slice_get_within c.captures p n at, opened.all)) in
    subst P (opened.rests p f.0 n f.1 at) (h p f.0 lt f.1)

some_torn : (o : Option Contents) (torn : Option ℕ) → option_map (λ (c : Contents). c.torn) o ≡ Some torn → (c : Contents) × (o ≡ Some c)
some_torn None torn e = absurd (cc e)
some_torn (Some c) torn e = (c, refl)

-- a capture that is torn, or isn't, is one
tear_capture : (bytes : Option (List ℕ)) (torn : Option (Option ℕ)) → IsTear bytes torn → IsCapture bytes
tear_capture None torn h = tt
tear_capture (Some bytes) None h = absurd h
tear_capture (Some bytes) (Some torn) h = some_torn (contents_of bytes) torn h

-- the stream of a capture's file
pub stream_at : (sources : List Stream) (p f : ℕ) → slice_get (files_in sources) p ≡ Some f → (s : Stream) × (slice_get sources p ≡ Some s) × (s.reading.file ≡ f)
stream_at [] p f e = absurd (cc e)
stream_at (s ∷ sources) zero f e = (s, refl, cc e)
stream_at (s ∷ sources) (suc p) f e = stream_at sources p f e

pub file_in : (sources : List Stream) (p : ℕ) (s : Stream) → slice_get sources p ≡ Some s → slice_get (files_in sources) p ≡ Some s.reading.file
file_in [] p s e = absurd (cc e)
file_in (x ∷ sources) zero s e = ap (λ (y : Stream). Some y.reading.file) (same x s e)
  where
    same : (x s : Stream) → Some x ≡ Some s → x ≡ s
    same x s e = cc e
file_in (x ∷ sources) (suc p) s e = file_in sources p s e

-- ---- the text

-- the function was read
pub has_found : (text : List ℕ) (before now : Outside) (found : Found) → FindsFunction before.told text (Ok found) → now.told.next ≡ before.told.next + 1 → IsUntouched before.told now.told → HasFoundCause text before.told.next before.counted now.counted (Ok found) → HasFound text before now found
has_found text before now found finds next untouched cause = record {
  is_function = finds.is_function;
  number = finds.number;
  from_two = finds.from_two;
  next = next;
  only = record { untouched = untouched; asked = cause };
}

-- The text was not read, and no name but its own was asked for.
pub record IsUnfound (c : Reads) (before now : Outside) (stop : CallFault) : Type 0 where
  pub unread : IsUnread c before now stop
  pub few : length unread.front ≤ 1
  pub no_capture : (port : ℕ) → stop ≢ File (Capture port)

unfound_behind : (c : Reads) (before now : Outside) (stop : CallFault) → IsUntouched before.told now.told → IsReadCause c before.told now.told (asking (reading c.text ∷ []) before.counted) now.counted stop → ((port : ℕ) → stop ≢ File (Capture port)) → IsUnfound c before now stop
unfound_behind c before now stop untouched cause other = record {
  unread = record { untouched = untouched; front = reading c.text ∷ []; is_front = record { later = map reading c.captures; whole = refl }; cause = cause };
  few = omega arith;
  no_capture = other;
}

unfound_first : (c : Reads) (before now : Outside) (stop : CallFault) → IsUntouched before.told now.told → IsReadCause c before.told now.told (asking [] before.counted) now.counted stop → ((port : ℕ) → stop ≢ File (Capture port)) → IsUnfound c before now stop
unfound_first c before now stop untouched cause other = record {
  unread = record { untouched = untouched; front = []; is_front = record { later = names_of c; whole = refl }; cause = cause };
  few = omega arith;
  no_capture = other;
}

text_failed : (c : Reads) (before now : Outside) → IsUntouched before.told now.told → FaultedAsking before.counted now.counted (reading c.text ∷ []) before.told.next → IsUnfound c before now (File Nf)
text_failed c before now untouched (inl taken) = unfound_behind c before now (File Nf) untouched (inl taken) (λ port e. cc e)
text_failed c before now untouched (inr lost) =
    unfound_first c before now (File Nf) untouched (inr (subst (λ (old : Counted). Faulted (losing old) now.counted before.told.next) (asking_none before.counted) lost)) (λ port e. cc e)

pub is_unfound : (c : Reads) (before now : Outside) (stop : CallFault) → IsUntouched before.told now.told → IsTextCause c.text before.told.next before.counted now.counted stop → IsUnfound c before now stop
is_unfound c before now (File file) untouched cause = subst (λ (f : RunFile). IsUnfound c before now (File f)) (sym cause.0) (text_failed c before now untouched cause.1)
is_unfound c before now Memory untouched (inl same) = unfound_first c before now Memory untouched (same ∙ asking_none before.counted) (λ port e. cc e)
is_unfound c before now Memory untouched (inr more) = unfound_behind c before now Memory untouched more (λ port e. cc e)

-- memory ran out once the function was read
pub is_starved : (c : Reads) (before now : Outside) → HasOnlyAsked (reading c.text ∷ []) before now → IsUnfound c before now Memory
is_starved c before now only = unfound_behind c before now Memory only.untouched only.asked (λ port e. cc e)

-- ---- the captures' names

pub has_opened : (c : Reads) (before a b : Outside) (captures : List ℕ) → a.told.next ≡ before.told.next + 1 → HasOnlyAsked (reading c.text ∷ []) before a → AreOpened a.told b.told c.captures captures → length captures ≡ length c.captures → IsUntouched a.told b.told → b.counted ≡ asking (map reading c.captures) a.counted → HasOpened c before b captures
has_opened c before a b captures next only opened all untouched counted = record {
  next = opened.next ∙ ap (λ (n : ℕ). n + length captures) next;
  all = all;
  numbers = λ i f e. opened.numbers i f e ∙ ap (λ (n : ℕ). n + i) next;
  rests = λ i f n e q. opened.rests i f n e q ∙ only.untouched.contents n;
  only = record {
    untouched = untouched_both before.told a.told b.told only.untouched untouched;
    asked = counted ∙ ap (asking (map reading c.captures)) only.asked ∙ asking_both (reading c.text ∷ []) (map reading c.captures) before.counted;
  };
}

opening_cause : (c : Reads) (before now : Told) (layout : Layout) (old new : Counted) (stop : RunFault) → 2 ≤ layout.first → before.next ≡ layout.first → length c.captures ≡ layout.captures → StopsFrom (layout.first + 1) layout.captures stop → StopsNext now.next stop → IsAskCause old new stop
    → IsReadCause c before now old new (stop_named (numbering_of layout) stop)
opening_cause c before now layout old new numbered.Memory two first count from here h = h
opening_cause c before now layout old new (numbered.File number) two first count from here h =
    let port = number - (layout.first + 1) in
    let at : number ≡ layout.first + 1 + port = omega (arith, from.0) in
    let same : number ≡ before.next + 1 + port = omega (arith, at, first) in
    let lt : port < layout.captures = omega (arith, from.0, from.1) in
    subst (λ (f : RunFile). IsReadCause c before now old new (File f)) (sym (file_capture layout.behind layout.first layout.captures layout.ports number port two at lt))
    (record { from_two = omega (arith, two, first); within = omega (arith, lt, count); faulted = subst (Faults old new) same h; lesser = λ all. absurd (omega (arith, from.1, here, all, first, count)) })

-- a capture could not be opened
pub is_unopened : (c : Reads) (before a b : Outside) (layout : Layout) (stop : RunFault) → 2 ≤ layout.first → before.told.next ≡ layout.first → length c.captures ≡ layout.captures → HasOnlyAsked (reading c.text ∷ []) before a → IsUntouched a.told b.told → StopsFrom (layout.first + 1) layout.captures stop → StopsNext b.told.next stop → AsksSome (map reading c.captures) a.counted b.counted stop
    → IsUnread c before b (stop_named (numbering_of layout) stop)
is_unopened c before a b layout stop two first count only untouched from here asks = record {
  untouched = untouched_both before.told a.told b.told only.untouched untouched;
  front = reading c.text ∷ asks.front;
  is_front = front_behind (reading c.text ∷ []) (map reading c.captures) asks.front asks.is_front;
  cause = opening_cause c before.told b.told layout (asking (reading c.text ∷ asks.front) before.counted) b.counted stop two first count from here
      (subst (λ (n : Counted). IsAskCause n b.counted stop) (ap (asking asks.front) only.asked ∙ asking_both (reading c.text ∷ []) asks.front before.counted) asks.cause);
}

-- ---- the captures' headers

untouched_fed : (c : Reads) (before a b : Outside) (captures : List ℕ) → HasOpened c before a captures → KeepsOthers captures a.told b.told → IsUntouched before.told b.told
untouched_fed c before a b captures h kept = record {
  contents = λ n. kept.contents n ∙ h.only.untouched.contents n;
  standard = λ g lt. kept.givens g ∙ h.only.untouched.standard g lt;
}

-- all of its names were asked for, and nothing has changed
pub fed_only : {c : Reads} {f : Function} {before now : Outside} {captures : List ℕ} {feed : Feeding} → HasFed c f before now captures feed → HasOnlyAsked (names_of c) before now
fed_only {c = c} {before = before} {now = now} {captures = captures} h = record { untouched = untouched_fed c before h.old now captures h.opened h.kept; asked = h.counted ∙ h.opened.only.asked }

pub fed_next : {c : Reads} {f : Function} {before now : Outside} {captures : List ℕ} {feed : Feeding} → HasFed c f before now captures feed → now.told.next ≡ before.told.next + 1 + length captures
fed_next h = h.kept.next_same ∙ h.opened.next

first_bad : (c : Reads) (before a : Outside) (captures : List ℕ) (port : ℕ) → HasOpened c before a captures → IsLeastBad captures a.told port → IsFirstBad c before.told port
first_bad c before a captures port h bad =
    let name = got_at c.captures port (omega (arith, slice_get_within captures port bad.file bad.at, h.all)) in
    record {
      name = name.0;
      at = name.1;
      none = subst IsNoCapture (h.rests port bad.file name.0 bad.at name.1) bad.none;
      lesser = below_names IsCapture c before a captures port h (λ p f lt e. bad.lesser p f lt e);
    }

-- a capture's file failed
has_failed : (c : Reads) (before a b : Outside) (captures : List ℕ) (port : ℕ) (o : Option ℕ) → 2 ≤ before.told.next → HasOpened c before a captures → AreLesserCaptures captures a.told port → slice_get captures port ≡ o → FaultedAt a.counted b.counted o → HasFailed c before.told b.told (asking (names_of c) before.counted) b.counted port
has_failed c before a b captures port None two h lesser e faulted = absurd faulted
has_failed c before a b captures port (Some file) two h lesser e faulted = record {
  from_two = two;
  within = omega (arith, slice_get_within captures port file e, h.all);
  faulted = inl (subst (Faulted (asking (names_of c) before.counted) b.counted) (h.numbers port file e) (subst (λ (n : Counted). Faulted n b.counted file) h.only.asked faulted));
  lesser = λ next. below_names IsCapture c before a captures port h (λ p f lt q. lesser p f lt q);
}

pub has_fed : (c : Reads) (f : Function) (before a b : Outside) (slice captures : List ℕ) (limit : ℕ) (v : Feeding) → slice ≡ captures → c.most ≡ limit → HasOpened c before a captures → StandsFor a.told [] v b.told → StandsByPort a.told [] v b.told → KeepsOthers slice a.told b.told → b.counted ≡ a.counted → IsFresh f limit captures v → HasFed c f before b captures v
has_fed c f before a b slice captures limit v same most h stands by_port kept counted fresh = record {
  old = a;
  opened = h;
  kept = subst (λ (fs : List ℕ). KeepsOthers fs a.told b.told) same kept;
  counted = counted;
  stands = stands;
  by_port = by_port;
  fresh = subst (λ (n : ℕ). IsFresh f n captures v) (sym most) fresh;
}

-- the headers could not be read
pub is_unfed : (c : Reads) (f : Function) (before a b : Outside) (captures : List ℕ) (six : List Bool) (limit : ℕ) (fault : FeedFault) → 2 ≤ before.told.next → HasOpened c before a captures → Starts captures six limit a.told b.told (Err fault) → KeepsOthers captures a.told b.told → feeding.IsCause {T = Feeding} a.counted b.counted captures (Err fault) → ReadsTo c f before b (Err (unfed fault))
is_unfed c f before a b captures six limit (feed.NotCapture port) two h starts kept cause =
    (first_bad c before a captures port h starts, record { untouched = untouched_fed c before a b captures h kept; asked = cause ∙ h.only.asked })
is_unfed c f before a b captures six limit (feed.File port) two h starts kept cause =
    record { untouched = untouched_fed c before a b captures h kept; front = names_of c; is_front = front_all (names_of c); cause = has_failed c before a b captures port (slice_get captures port) two h starts refl cause }
is_unfed c f before a b captures six limit feed.Memory two h starts kept cause =
    record { untouched = untouched_fed c before a b captures h kept; front = names_of c; is_front = front_all (names_of c); cause = cause ∙ h.only.asked }

-- ---- a feed of what stood under the names

pub captures_from : {c : Reads} {f : Function} {before now : Outside} {captures : List ℕ} {feed : Feeding} → HasFed c f before now captures feed → AreFrom (before.told.next + 1) captures (length c.captures)
captures_from {captures = captures} h = λ i g e. (h.opened.numbers i g e, omega (arith, slice_get_within captures i g e, h.opened.all))

-- each capture is one
pub all_captures : {c : Reads} {f : Function} {before now : Outside} {captures : List ℕ} {feed : Feeding} → HasFed c f before now captures feed → Below IsCapture before.told c.captures (length c.captures)
all_captures {c = c} {before = before} {captures = captures} {feed = v} h =
    below_names IsCapture c before h.old captures (length c.captures) h.opened (λ p g lt e.
    let s = stream_at v.sources p g (ap (λ (fs : List ℕ). slice_get fs p) h.fresh.files ∙ e) in
    subst (λ (n : ℕ). IsCapture (h.old.told.rest n)) s.2 (tear_capture (h.old.told.rest s.0.reading.file) _ (h.stands.sources.each p s.0 s.1).torn))

-- the packets of a feed of the same files
pub packets_fed : {c : Reads} {f : Function} {before now : Outside} {captures : List ℕ} {feed : Feeding} (g : Function) (next : Feeding) → (h : HasFed c f before now captures feed) → g ≡ f → files_in next.sources ≡ files_in feed.sources → sixes_in next.sources ≡ sixes_in feed.sources
    → packets_of (sixes_in next.sources) (files_in next.sources) h.old.told ≡ packets_under g c.captures before.told
packets_fed {c = c} {before = before} {captures = captures} g next h is files six =
    ap₂ (λ (ports : List Bool) (fs : List ℕ). packets_of ports fs h.old.told) (six ∙ h.fresh.six ∙ ap six_ports (sym is)) (files ∙ h.fresh.files)
    ∙ same_packets (six_ports g) h.old.told before.told 0 captures c.captures h.opened.all h.opened.rests

-- ---- why a call was stopped

-- a cause by the numbers of a call
pub read_cause : (c : Reads) (before now : Told) (behind : FileOrder) (ports : ℕ) (old new : Counted) (stop : CallFault) → IsReadCause c before now old new stop → IsCauseBy (numbering behind before.next (length c.captures) ports) old new stop
read_cause c before now behind ports old new (File Nf) h =
    record { number = before.next; faulted = h; file_is = sym (file_first behind before.next (length c.captures) ports); number_is = refl }
read_cause c before now behind ports old new (File (Capture port)) h =
    record { number = before.next + 1 + port; faulted = h.faulted; file_is = sym (file_capture behind before.next (length c.captures) ports (before.next + 1 + port) port h.from_two refl h.within); number_is = refl }
read_cause c before now behind ports old new (File Journal) h = absurd h
read_cause c before now behind ports old new (File (Output port)) h = absurd h
read_cause c before now behind ports old new (File OutJournal) h = absurd h
read_cause c before now behind ports old new (File State) h = absurd h
read_cause c before now behind ports old new (File Proof) h = absurd h
read_cause c before now behind ports old new (File Stdout) h = absurd h
read_cause c before now behind ports old new (File Stderr) h = absurd h
read_cause c before now behind ports old new Memory h = h

-- such a stop of a call that asks for more names
unfoldable pub read_stops : (c : Reads) (before now : Outside) (behind : FileOrder) (ports : ℕ) (names : List Asked) (stop : CallFault) → IsFrontOf names (names_of c) → IsUnread c before now stop → StopsBy (numbering behind before.told.next (length c.captures) ports) names before.counted now.counted stop
read_stops c before now behind ports names stop f h = record {
  front = h.front;
  is_front = front_both names (names_of c) h.front h.is_front f;
  cause = read_cause c before.told now.told behind ports (asking h.front before.counted) now.counted stop h.cause;
}
