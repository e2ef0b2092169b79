-- How the lines of a journal go on and end.
use Rattle.std.proofs.Common.{◌≡◌, ℕ, ◌+◌, ◌<◌, ◌≤◌, List, [], ◌∷◌, ◌++◌, length, map, filter, Option, Some, None, Result, Ok, Err, refl, sym, ap, ◌∙◌, subst, append_assoc, arith}
use Rattle.std.specs.List.{AllByRecursion, slice_get}
use Rattle.std.proofs.lemmas.List.{map-append, length-append}
use Rattle.std.proofs.lemmas.Option.{same_Some}
use Rattle.capture_format.specs.declared.format.CaptureFormat.{CaptureFormat}
use Rattle.nf_base.specs.declared.packet.Packet.{Packet}
use Rattle.nf_base.specs.declared.state.State.{State}
use Rattle.nf_files.specs.Told.{Told}
use Rattle.packet_feed.specs.Arrivals.{Arrival}
use Rattle.packet_feed.specs.Order.{in_order}
use Rattle.packet_feed.specs.Sources.{files_in, sixes_in}
use Rattle.packet_feed.specs.Feeding.{Feeding, shown, frame_of, original_of}
use Rattle.packet_feed.specs.Ports.{is_of, AreFirstOfPorts}
use Rattle.packet_feed.proofs.ByPort.{filter_same, first_of_ports}
use Rattle.run_history.specs.Headings.{Heading}
use Rattle.run_history.specs.Line.{line_bytes}
use Rattle.run_history.specs.declared.line.Mode.{Mode}
use Rattle.run_history.specs.declared.line.Mode.TheVariants.{One, Shard, Lock}
use Rattle.journal_check.specs.Judging.{port_in}
use Rattle.run_history.specs.Lines.{IsLine}
use Rattle.run_history.specs.declared.line.JournalLine.{JournalLine}
use Rattle.file_match.specs.Comparing.{Comparing}
use Rattle.journal_read.specs.Journals as journals
use Rattle.journal_read.specs.Journals.{Reading, Stands, lines_bytes, AreAllLines, AreMoreLines, HasNoLine}
use Rattle.journal_read.proofs.Firsts.{same_line, line_some}
use Rattle.journal_read.proofs.Standing.{bytes_more}
use Rattle.stream_run.specs.Runs.{Handled}
use Rattle.stream_run.specs.Texts.{bytes_of}
use Rattle.stream_run.specs.Writing.{came_to}
use Rattle.stream_run.specs.Streaming.{arrival_of}
use Rattle.stream_run.proofs.Reached.{first_given}
use Rattle.replay_run.specs.Outputs.{AreFound}
use Rattle.replay_run.specs.Replaying.{line_in, journal_lines, sent, RunKind, Beside, AreFirstIn, NoneGoesOn, BeginsWith, IsWrong, IsRight, IsTooMany, IsFirstWrong}
use Rattle.replay_run.specs.Turns.{IsStarted, StandsIn, packets_at, IsNoneFor, IsPortOf, Compares, IsTurn, Begins, beside_of, Reaches, IsOver, Reads, IsEnd, IsNotWrong}
use Rattle.replay_run.specs.declared.lines.End.{End}
use Rattle.replay_run.specs.declared.lines.End.TheVariants as end
use Rattle.replay_run.proofs.Compared.{found_still}
use Rattle.replay_run.proofs.Fetching.{same_packets}
use Rattle.replay_run.proofs.Kept.{stands_while, by_port_while}
use Rattle.replay_run.proofs.Runs.{same_next, none_next, lines_more}

-- ---- one packet

arrivals_more : (hs : List Handled) (h : Handled) → map arrival_of (hs ++ h ∷ []) ≡ map arrival_of hs ++ h.arrival ∷ []
arrivals_more hs h = map-append arrival_of hs (h ∷ [])

-- one more of its port
own_more : (hs : List Handled) (h : Handled) (port : ℕ) → h.arrival.packet.id.port ≡ port → filter (is_of port) (map arrival_of (hs ++ h ∷ [])) ≡ filter (is_of port) (map arrival_of hs) ++ h.arrival ∷ []
own_more hs h port same = ap (filter (is_of port)) (arrivals_more hs h) ∙ filter_same port (map arrival_of hs) h.arrival same

-- one line more
lines_all : (hs : List Handled) (h : Handled) → AllByRecursion IsLine (map line_in hs) → IsLine (line_in h) → AllByRecursion IsLine (map line_in (hs ++ h ∷ []))
lines_all [] h all is = (is, tt)
lines_all (x ∷ hs) h all is = (all.0, lines_all hs h all.1 is)

-- no packet is left
pub none_left : (Run : RunKind) (mode : Mode) (o : Option (List Arrival)) (hs : List Handled) (l : JournalLine) → IsNoneFor mode l o (map arrival_of hs) → NoneGoesOn Run mode o hs (λ x. x ≡ l)
none_left Run One None hs l all = tt
none_left Run Shard None hs l all = tt
none_left Run Lock None hs l all = tt
none_left Run One (Some all) hs l are = λ h s told first run.
    none_next (in_order all) (map arrival_of hs) first.0 h.arrival are (first.1 ∙ ap (λ (xs : List Arrival). xs ++ first.0) (arrivals_more hs h))
none_left Run Shard (Some all) hs l are = λ h s told first run.
    none_next (in_order all) (map arrival_of hs) first.0 h.arrival are (first.1 ∙ ap (λ (xs : List Arrival). xs ++ first.0) (arrivals_more hs h))
none_left Run Lock (Some all) hs l are = λ h s told first run.
    let port = h.arrival.packet.id.port in
    let none : filter (is_of port) all ≡ filter (is_of port) (map arrival_of hs) = are port (sym (ap port_in told)) in
    let next = first port in
    none_next (filter (is_of port) all) (filter (is_of port) (map arrival_of hs)) next.0 h.arrival none (next.1 ∙ ap (λ (xs : List Arrival). xs ++ next.0) (own_more hs h port refl))

-- the packet that comes next has another line
pub other_line : (Run : RunKind) (mode : Mode) (o : Option (List Arrival)) (hs : List Handled) (a : Arrival) (l : JournalLine) → ((h : Handled) (s : State) → h.arrival.packet ≡ a.packet → line_in h ≡ l → Run (hs ++ h ∷ []) s → ⊥)
    → IsPortOf mode l a.packet → AreFirstIn mode o (map arrival_of hs ++ a ∷ []) → NoneGoesOn Run mode o hs (λ x. x ≡ l)
other_line Run One None hs a l never port_is first = tt
other_line Run Shard None hs a l never port_is first = tt
other_line Run Lock None hs a l never port_is first = tt
other_line Run One (Some all) hs a l never port_is first = λ h s told more run.
    let here : in_order all ≡ map arrival_of hs ++ a ∷ first.0 = first.1 ∙ append_assoc (map arrival_of hs) (a ∷ []) first.0 in
    let is : h.arrival ≡ a = same_next (in_order all) (map arrival_of hs) first.0 more.0 a h.arrival here (more.1 ∙ ap (λ (xs : List Arrival). xs ++ more.0) (arrivals_more hs h)) in
    never h s (ap (λ (x : Arrival). x.packet) is) told run
other_line Run Shard (Some all) hs a l never port_is first = λ h s told more run.
    let here : in_order all ≡ map arrival_of hs ++ a ∷ first.0 = first.1 ∙ append_assoc (map arrival_of hs) (a ∷ []) first.0 in
    let is : h.arrival ≡ a = same_next (in_order all) (map arrival_of hs) first.0 more.0 a h.arrival here (more.1 ∙ ap (λ (xs : List Arrival). xs ++ more.0) (arrivals_more hs h)) in
    never h s (ap (λ (x : Arrival). x.packet) is) told run
other_line Run Lock (Some all) hs a l never port_is first = λ h s told more run.
    let port = a.packet.id.port in
    let same : h.arrival.packet.id.port ≡ port = same_Some _ _ (ap port_in told ∙ port_is) in
    let given = map arrival_of hs in
    let mine = first port in
    let here : filter (is_of port) all ≡ filter (is_of port) given ++ a ∷ mine.0 =
    mine.1 ∙ ap (λ (xs : List Arrival). xs ++ mine.0) (filter_same port given a refl) ∙ append_assoc (filter (is_of port) given) (a ∷ []) mine.0 in
    let next = more port in
    let is : h.arrival ≡ a = same_next (filter (is_of port) all) (filter (is_of port) given) mine.0 next.0 a h.arrival here (next.1 ∙ ap (λ (xs : List Arrival). xs ++ next.0) (own_more hs h port same)) in
    never h s (ap (λ (x : Arrival). x.packet) is) told run

-- what is shown beside a packet
pub shown_is : (packet : Packet) (original : ℕ) (frame : List ℕ) (feed : Feeding) → original ≡ original_of feed → frame ≡ frame_of feed → (let a : Arrival = record { packet = packet; original = original; frame = frame } in a) ≡ shown packet feed
shown_is packet original frame feed o f = rw (o, f) refl

-- the outputs were not read on meanwhile
pub compares_after : (format : CaptureFormat) (h : Handled) (held found : List Comparing) (old read now : Told) → ((k : ℕ) (c : Comparing) → slice_get held k ≡ Some c → read.rest c.file ≡ old.rest c.file) → Compares format h held found read now → Compares format h held found old now
compares_after format h held found old read now same step = λ start mode workers card ports hs few was. step start mode workers card ports hs few (found_still (λ k. bytes_of mode workers card format ports k hs) start held old read same was)

-- ---- captures, while other files are read

pub stands_in_while : (mode : Mode) (start : Told) (given : List Arrival) (feed : Feeding) (old new : Told) → ((port f : ℕ) → slice_get (files_in feed.sources) port ≡ Some f → new.rest f ≡ old.rest f) → StandsIn mode start given feed old → StandsIn mode start given feed new
stands_in_while One start given feed old new same h = stands_while start given feed old new same h
stands_in_while Shard start given feed old new same h = stands_while start given feed old new same h
stands_in_while Lock start given feed old new same h = by_port_while start given feed old new same h

pub started_while : (start : Told) (feed : Feeding) (old new : Told) → ((port f : ℕ) → slice_get (files_in feed.sources) port ≡ Some f → new.rest f ≡ old.rest f) → IsStarted start feed old → IsStarted start feed new
started_while start feed old new same h = record { in_order = stands_while start [] feed old new same h.in_order; by_port = by_port_while start [] feed old new same h.by_port }

started_in : (mode : Mode) (start : Told) (feed : Feeding) (now : Told) → IsStarted start feed now → StandsIn mode start [] feed now
started_in One start feed now h = h.in_order
started_in Shard start feed now h = h.in_order
started_in Lock start feed now h = h.by_port

-- what was given are the first packets
pub first_in : (mode : Mode) (start : Told) (given : List Arrival) (feed begun : Feeding) (now : Told) → files_in feed.sources ≡ files_in begun.sources → sixes_in feed.sources ≡ sixes_in begun.sources → StandsIn mode start given feed now → AreFirstIn mode (packets_at begun start) given
first_in One start given feed begun now same sixes h = first_given start given feed begun now same sixes h
first_in Shard start given feed begun now same sixes h = first_given start given feed begun now same sixes h
first_in Lock start given feed begun now same sixes h = subst (λ (all : Option (List Arrival)). AreFirstOfPorts all given) (same_packets feed begun start same sixes) (first_of_ports start given feed.sources now h.sources)

-- ---- what was reached

pub reached_none : (Run : RunKind) (heading : Heading) (format : CaptureFormat) (ports : ℕ) (start : Told) (bytes : Option (List ℕ)) (begun : Feeding) (opened : Reading) (old now : Told) (found : List Comparing) (state : State) → Run [] state → begun.given ≡ 0
    → ((port file : ℕ) → slice_get (files_in begun.sources) port ≡ Some file → now.rest file ≡ old.rest file) → now.rest opened.file ≡ old.rest opened.file
    → AreFound (sent format heading ports []) old.rest found now → Begins heading begun opened start bytes old → Reaches Run heading format ports start bytes old.rest begun opened opened.file now found state
reached_none Run heading format ports start bytes begun opened old now found state opens new captures journal compared b = record {
  hs = [];
  run = opens;
  captures = started_in heading.mode start begun now (started_while start begun old now captures b.captures);
  lines = subst (λ (o : Option (List ℕ)). Stands bytes (journal_lines heading []) opened o) (sym journal) b.lines;
  are_lines = tt;
  compared = compared;
  count = sym new;
}

-- what a line that was read stands behind
pub reached_more : (Run : RunKind) (heading : Heading) (format : CaptureFormat) (ports : ℕ) (start : Told) (bytes : Option (List ℕ)) (rest : ℕ → Option (List ℕ)) (file : ℕ) (old mid new : Told) (feed next : Feeding) (journal read : Reading) (held found : List Comparing) (state after : State) (line : JournalLine)
    → Reaches Run heading format ports start bytes rest feed journal file old held state
    → ((at : Option (List ℕ)) (lines : List JournalLine) → Stands at lines journal (old.rest file) → IsLine line × Stands at (lines ++ line ∷ []) read (mid.rest file))
    → IsTurn Run heading.mode format line state after feed next mid new held found
    → ((port f : ℕ) → slice_get (files_in feed.sources) port ≡ Some f → mid.rest f ≡ old.rest f)
    → ((k : ℕ) (c : Comparing) → slice_get held k ≡ Some c → mid.rest c.file ≡ old.rest c.file)
    → new.rest file ≡ mid.rest file → length held ≤ ports → next.given ≡ feed.given + 1
    → Reaches Run heading format ports start bytes rest next read file new found after
reached_more Run heading format ports start bytes rest file old mid new feed next journal read held found state after line r gives turn captures outputs same few given =
    let h = came_to turn.worker turn.packet turn.original turn.frame turn.done in
    let on = gives bytes (journal_lines heading r.hs) r.lines in
    record {
      hs = r.hs ++ h ∷ [];
      run = turn.runs r.hs r.run;
      captures =
          subst (λ (as_list : List Arrival). StandsIn heading.mode start as_list next new) (sym (arrivals_more r.hs h))
          (turn.feeds start (map arrival_of r.hs) (stands_in_while heading.mode start (map arrival_of r.hs) feed old mid captures r.captures));
      lines =
          let is : journal_lines heading r.hs ++ line ∷ [] ≡ journal_lines heading (r.hs ++ h ∷ []) = ap (λ (l : JournalLine). journal_lines heading r.hs ++ l ∷ []) (sym turn.is_line) ∙ sym (lines_more heading r.hs h) in
          subst (λ (o : Option (List ℕ)). Stands bytes (journal_lines heading (r.hs ++ h ∷ [])) read o) (sym same)
          (subst (λ (ls : List JournalLine). Stands bytes ls read (mid.rest file)) is on.1);
      are_lines = lines_all r.hs h r.are_lines (subst IsLine (sym turn.is_line) on.0);
      compared = turn.compares rest heading.mode heading.workers heading.card ports r.hs few (found_still (sent format heading ports r.hs) rest held old mid outputs r.compared);
      count = omega (arith, length-append r.hs (h ∷ []), r.count);
    }

-- ---- the end

module _ (Run : RunKind) (heading : Heading) (format : CaptureFormat) (ports : ℕ) (start : Told) (bytes : Option (List ℕ)) (begun : Feeding) (files : List ℕ) (first : Told) (most : ℕ) where
  abbrev beside : Beside
  beside = beside_of format begun start bytes files first most

  pub right_of : (now : Told) (feed : Feeding) (journal : Reading) (file : ℕ) (found : List Comparing) (state : State)
      → (r : Reaches Run heading format ports start bytes first.rest feed journal file now found state) → files_in feed.sources ≡ files_in begun.sources → sixes_in feed.sources ≡ sixes_in begun.sources → feed.given ≤ most → IsRight Run heading beside r.hs state
  right_of now feed journal file found state r same sixes within = record {
    run = r.run;
    within = omega (arith, r.count, within);
    lines = r.are_lines;
    first = first_in heading.mode start (map arrival_of r.hs) feed begun now same sixes r.captures;
  }

  pub over_at : (old new : Told) (feed : Feeding) (journal : Reading) (file : ℕ) (held : List Comparing) (state : State)
      → Reaches Run heading format ports start bytes first.rest feed journal file old held state → files_in feed.sources ≡ files_in begun.sources → sixes_in feed.sources ≡ sixes_in begun.sources → feed.given ≤ most
      → ((at : Option (List ℕ)) (lines : List JournalLine) → Stands at lines journal (old.rest file) → AreAllLines at lines)
      → ((k : ℕ) (c : Comparing) → slice_get held k ≡ Some c → new.rest c.file ≡ old.rest c.file)
      → IsOver Run heading ports beside first.rest new held state
  over_at old new feed journal file held state r same sixes within all outputs = record {
    hs = r.hs;
    journal_is = record {
      right = right_of old feed journal file held state r same sixes within;
      whole = all bytes (journal_lines heading r.hs) r.lines;
    };
    compared = found_still (sent format heading ports r.hs) first.rest held old new outputs r.compared;
  }

  pub too_many_at : (old : Told) (feed : Feeding) (journal : Reading) (file : ℕ) (held : List Comparing) (state : State)
      → Reaches Run heading format ports start bytes first.rest feed journal file old held state → files_in feed.sources ≡ files_in begun.sources → sixes_in feed.sources ≡ sixes_in begun.sources → feed.given ≡ most
      → ((at : Option (List ℕ)) (lines : List JournalLine) → Stands at lines journal (old.rest file) → AreMoreLines at lines)
      → IsTooMany Run heading beside
  too_many_at old feed journal file held state r same sixes as_many more = record {
    hs = r.hs;
    state = state;
    right = right_of old feed journal file held state r same sixes (omega (arith, as_many));
    count = r.count ∙ as_many;
    more = more bytes (journal_lines heading r.hs) r.lines;
  }

-- fewer lines go on
none_weaker : (Run : RunKind) (mode : Mode) (o : Option (List Arrival)) (hs : List Handled) (P Q : JournalLine → Type 0) → ((l : JournalLine) → Q l → P l) → NoneGoesOn Run mode o hs P → NoneGoesOn Run mode o hs Q
none_weaker Run mode None hs P Q w h = tt
none_weaker Run mode (Some all) hs P Q w h = λ x s q first run. h x s (w (line_in x) q) first run

no_line_goes_on : (Run : RunKind) (mode : Mode) (o : Option (List Arrival)) (hs : List Handled) (rest : List ℕ) → HasNoLine rest → NoneGoesOn Run mode o hs (BeginsWith rest)
no_line_goes_on Run mode None hs rest none = tt
no_line_goes_on Run mode (Some all) hs rest none = λ h s begins first run. none (line_in h) begins.1.0 begins.0 begins.1.1

no_line_wrong : (Run : RunKind) (heading : Heading) (o : Option (List Arrival)) (hs : List Handled) (at : Option (List ℕ)) → journals.IsWrong at (journal_lines heading hs) → IsWrong Run heading o hs at
no_line_wrong Run heading o hs None w = tt
no_line_wrong Run heading o hs (Some all) w = record { rest = w.rest; behind = w.behind; some = w.some; none = no_line_goes_on Run heading.mode o hs w.rest w.none }

line_wrong : (Run : RunKind) (heading : Heading) (o : Option (List Arrival)) (hs : List Handled) (at now : Option (List ℕ)) (line : JournalLine) (read : Reading) → IsLine line → Stands at (journal_lines heading hs ++ line ∷ []) read now
    → NoneGoesOn Run heading.mode o hs (λ l. l ≡ line) → IsWrong Run heading o hs at
line_wrong Run heading o hs None now line read is t none = tt
line_wrong Run heading o hs (Some all) None line read is t none = absurd t
line_wrong Run heading o hs (Some all) (Some left) line read is t none =
    let lines = journal_lines heading hs in
    let later = read.held ++ left in
    let rest = line_bytes line ++ later in
    record {
      rest = rest;
      behind =
          t ∙ append_assoc (lines_bytes (lines ++ line ∷ [])) read.held left
          ∙ ap (λ (l : List ℕ). l ++ later) (bytes_more lines line)
          ∙ append_assoc (lines_bytes lines) (line_bytes line) later;
      some = line_some line later is;
      none = none_weaker Run heading.mode o hs (λ l. l ≡ line) (BeginsWith rest) (λ l begins. same_line l line begins.1.0 later begins.0 is begins.1.1) none;
    }

module _ (Run : RunKind) (heading : Heading) (format : CaptureFormat) (ports : ℕ) (start : Told) (bytes : Option (List ℕ)) (begun : Feeding) (files : List ℕ) (first : Told) (most : ℕ) where
  abbrev read_beside : Beside
  read_beside = beside_of format begun start bytes files first most

  pub wrong_at : (old : Told) (feed : Feeding) (journal : Reading) (file : ℕ) (held : List Comparing) (state : State) (number : ℕ)
      → Reaches Run heading format ports start bytes first.rest feed journal file old held state → files_in feed.sources ≡ files_in begun.sources → sixes_in feed.sources ≡ sixes_in begun.sources → feed.given < most → number ≡ feed.given + 2
      → ((at : Option (List ℕ)) (lines : List JournalLine) → Stands at lines journal (old.rest file) → journals.IsWrong at lines)
      → IsFirstWrong Run heading read_beside number
  wrong_at old feed journal file held state number r same sixes fewer is wrong = record {
    hs = r.hs;
    state = state;
    right = right_of Run heading format ports start bytes begun files first most old feed journal file held state r same sixes (omega (arith, fewer));
    fewer = omega (arith, fewer, r.count);
    number = omega (arith, is, r.count);
    wrong = no_line_wrong Run heading (packets_at begun start) r.hs bytes (wrong bytes (journal_lines heading r.hs) r.lines);
  }

  pub wrong_turn : (old mid : Told) (feed : Feeding) (journal read : Reading) (file : ℕ) (held : List Comparing) (state : State) (line : JournalLine) (number : ℕ)
      → Reaches Run heading format ports start bytes first.rest feed journal file old held state → files_in feed.sources ≡ files_in begun.sources → sixes_in feed.sources ≡ sixes_in begun.sources → feed.given < most → number ≡ feed.given + 2
      → ((at : Option (List ℕ)) (lines : List JournalLine) → Stands at lines journal (old.rest file) → IsLine line × Stands at (lines ++ line ∷ []) read (mid.rest file))
      → ((port f : ℕ) → slice_get (files_in feed.sources) port ≡ Some f → mid.rest f ≡ old.rest f)
      → ((before : Told) (hs : List Handled) → Run hs state → StandsIn heading.mode before (map arrival_of hs) feed mid → NoneGoesOn Run heading.mode (packets_at feed before) hs (λ l. l ≡ line))
      → IsFirstWrong Run heading read_beside number
  wrong_turn old mid feed journal read file held state line number r same sixes fewer is gives captures none = record {
    hs = r.hs;
    state = state;
    right = right_of Run heading format ports start bytes begun files first most old feed journal file held state r same sixes (omega (arith, fewer));
    fewer = omega (arith, fewer, r.count);
    number = omega (arith, is, r.count);
    wrong =
        let on = gives bytes (journal_lines heading r.hs) r.lines in
        let no = none start r.hs r.run (stands_in_while heading.mode start (map arrival_of r.hs) feed old mid captures r.captures) in
        line_wrong Run heading (packets_at begun start) r.hs bytes (mid.rest file) line read on.0 on.1
        (subst (λ (all : Option (List Arrival)). NoneGoesOn Run heading.mode all r.hs (λ l. l ≡ line)) (same_packets feed begun start same sixes) no);
  }

  -- as many lines as were asked for were read
  pub ends_at : (E : Type 0) (old new : Told) (feed : Feeding) (journal : Reading) (file : ℕ) (held : List Comparing) (state : State) (result : Result End E)
      → Reaches Run heading format ports start bytes first.rest feed journal file old held state → files_in feed.sources ≡ files_in begun.sources → sixes_in feed.sources ≡ sixes_in begun.sources → feed.given ≡ most
      → ((at : Option (List ℕ)) (lines : List JournalLine) → Stands at lines journal (old.rest file) → IsEnd at lines result) → IsNotWrong result
      → ((k : ℕ) (c : Comparing) → slice_get held k ≡ Some c → new.rest c.file ≡ old.rest c.file)
      → Reads Run heading ports read_beside first.rest new held state result
  ends_at E old new feed journal file held state (Ok end.Over) r same sixes as_many ends right outputs = over_at Run heading format ports start bytes begun files first most old new feed journal file held state r same sixes (omega (arith, as_many)) ends outputs
  ends_at E old new feed journal file held state (Ok end.TooMany) r same sixes as_many ends right outputs = too_many_at Run heading format ports start bytes begun files first most old feed journal file held state r same sixes as_many ends
  ends_at E old new feed journal file held state (Ok (end.Wrong line)) r same sixes as_many ends right outputs = absurd right
  ends_at E old new feed journal file held state (Err e) r same sixes as_many ends right outputs = tt
