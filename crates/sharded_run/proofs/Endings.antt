-- Packets that workers worked, by how their run ends.
use Rattle.std.proofs.Common.{◌≡◌, ◌<◌, ◌≤◌, ◌+◌, ℕ, Bool, List, [], ◌∷◌, ◌++◌, length, map, Option, Some, None, refl, ap, sym, ◌∙◌, subst, append_assoc, arith}
use Rattle.std.specs.List.{AllByRecursion}
use Rattle.std.proofs.lemmas.List.{length-map, length-append}
use Rattle.nf_base.specs.declared.card.Card.{Card}
use Rattle.capture_format.specs.declared.format.CaptureFormat.{CaptureFormat}
use Rattle.nf_base.specs.declared.func.Func.{Func}
use Rattle.nf_base.specs.declared.keys.Keys.{Keys}
use Rattle.nf_base.specs.declared.packet.Packet.{Packet}
use Rattle.nf_base.specs.declared.share.Share.{Share}
use Rattle.nf_base.specs.Functions.{function_of}
use Rattle.nf_base.specs.Text.{Function}
use Rattle.nf_files.specs.Told.{Told}
use Rattle.nf_base.specs.Hashed.{HasInput}
use Rattle.toeplitz_hash.specs.Meeting.{HashAlikeWhereTheyMeet}
use Rattle.packet_feed.specs.Arrivals.{Arrival, packet_of}
use Rattle.packet_feed.specs.Told as told_of
use Rattle.packet_feed.specs.Sources.{files_in, sixes_in}
use Rattle.packet_feed.specs.Feeding.{Feeding, StandsFor, AreAll, HasMore}
use Rattle.packet_feed.proofs.Times.{from_zero}
use Rattle.run_history.specs.declared.line.Mode.TheVariants.{Shard}
use Rattle.vig_tables.specs.TablesState.{TablesState}
use Rattle.shard_machine.specs.Machine.{Machine, packets_of}
use Rattle.shard_machine.specs.Moments.{IsSetup, IsAtStop}
use Rattle.shard_machine.proofs.Sent.{append_nil}
use Rattle.shard_core.specs.declared.collected.Collected.{Collected}
use Rattle.shard_core.specs.declared.collected.Stop.{Stop}
use Rattle.shard_core.specs.Sharded.{Sharded, answer_of}
use Rattle.ring_line.specs.declared.line.Line.{Line}
use Rattle.ring_line.specs.Lines.{LineStands, LineFinishes, StandsAtStop}
use Rattle.stream_run.specs.declared.ending.Ending.{Ending}
use Rattle.stream_run.specs.declared.ending.Ending.TheVariants.{All, TooMany}
use Rattle.stream_run.specs.Runs.{Handled}
use Rattle.stream_run.specs.Writing.{AreFronts}
use Rattle.stream_run.specs.Streaming.{arrival_of, AreFirst, IsEnding}
use Rattle.stream_run.specs.Rules.{queue_by}
use Rattle.stream_run.proofs.Reached.{first_given}
use Rattle.sharded_run.specs.Setups.{setup_of}
use Rattle.sharded_run.specs.Sharded.{AreBefore}
use Rattle.sharded_run.specs.Reading.{Rises, Fits, Gathers, IsOver}
use Rattle.sharded_run.specs.Answered.{answered}
use Rattle.sharded_run.specs.Going.{HaveWorked, Halts, EndsWith, StopsWith, IsMadeOf}
use Rattle.sharded_run.proofs.Answered.{packets_got, answers_are, workers_are, answered_long, arrivals_all, arrivals_before, arrivals_front}
use Rattle.sharded_run.proofs.Lined.{Stand, ran_of, stopped_of}
use Rattle.sharded_run.proofs.Lines.{play, shards_of, shards_stand, shards_queues, shards_func, shards_tables, shards_order, shards_time, line_stop}

inputs_of : (ports : ℕ) (six : List Bool) (ps : List Packet) → AllByRecursion (Fits ports six) ps → AllByRecursion HasInput ps
inputs_of ports six [] h = tt
inputs_of ports six (p ∷ ps) h = (h.0.input, inputs_of ports six ps h.1)

got_packets : (got : List Collected) → packets_of (map answer_of got) ≡ packets_got got
got_packets [] = refl
got_packets (c ∷ got) = ap (λ (ps : List Packet). c.packet ∷ ps) (got_packets got)

-- Packets that were read from captures and sent to workers, of which some first ones are answered.
pub record Worked (f : Function) (keys : Keys) (workers ports : ℕ) (begun : Feeding) (start : Told) (feed : Feeding) (now : Told) (all : List Arrival) (got : List Collected) (order : List ℕ) (v : Sharded) : Type 0 where
  pub share : ℕ → Share
  pub at : Machine
  pub stand : Stand f keys workers share (answered all got) v at
  pub left : List Packet
  pub sent : at.dispatched ≡ packets_of at.collected ++ left
  pub order_is : order ≡ map (queue_by keys workers) left
  pub parts : packets_got got ++ left ≡ map packet_of all
  pub gathers : Gathers ports begun feed start now all
  pub new : begun.given ≡ 0

module _ {G : Type 0} (func : Func) (keys : Keys) (workers : ℕ) (share : ℕ → Share) (line : Line G) (all : List Arrival) (got : List Collected) (tables : List TablesState) (is : IsSetup (setup_of (function_of func) keys workers share))
    (st : LineStands line (setup_of (function_of func) keys workers share) (map packet_of all) got) (fin : LineFinishes line (setup_of (function_of func) keys workers share) (map packet_of all) got tables) where
  abbrev packets : List Packet
  packets = map packet_of all

  abbrev at : Machine
  at = (play func keys workers share line packets got tables is st fin).machine

  pub line_worked : (ports : ℕ) (begun : Feeding) (start : Told) (feed : Feeding) (now : Told) → Gathers ports begun feed start now all → begun.given ≡ 0 → Worked (function_of func) keys workers ports begun start feed now all got line.order.items (shards_of func keys workers share line packets got tables is st fin)
  line_worked ports begun start feed now g new =
      let p = play func keys workers share line packets got tables is st fin in
      let s = shards_stand func keys workers share line packets got tables is st fin in
      let t = g.times 0 (from_zero begun.sources) in
      let parts : packets_got got ++ s.left ≡ packets = ap (λ (ps : List Packet). ps ++ s.left) (sym (got_packets got) ∙ ap packets_of (sym p.collected)) ∙ sym s.sent ∙ p.dispatched in
      record {
        share = share;
        at = at;
        stand = record {
          stands = s;
          collected = p.collected ∙ sym (answers_are all got s.left parts);
          queues = workers_are (queue_by keys workers) all got s.left parts (shards_queues func keys workers share line packets got tables is st fin);
          last = t.0;
          rises = subst (λ (ps : List Packet). Rises 0 ps t.0) (sym p.dispatched) t.1;
          inputs = subst (AllByRecursion HasInput) (sym p.dispatched) (inputs_of ports (sixes_in feed.sources) packets g.fit);
        };
        left = s.left;
        sent = s.sent;
        order_is = sym (shards_order func keys workers share line packets got tables is st fin) ∙ s.order;
        parts = parts;
        gathers = g;
        new = new;
      }

module _ (f : Function) (keys : Keys) (workers ports : ℕ) (begun : Feeding) (start : Told) (feed : Feeding) (now : Told) (all : List Arrival) (got : List Collected) (order : List ℕ) (v : Sharded) (w : Worked f keys workers ports begun start feed now all got order v) where
  abbrev hs : List Handled
  hs = answered all got

  -- how many packets were given
  given_long : feed.given ≡ length all
  given_long = omega (arith, w.gathers.count, w.new)

  given_within : length all ≤ begun.most
  given_within = let none : begun.given ≤ begun.most = omega (arith, w.new) in omega (arith, w.gathers.within none, w.gathers.same_most, given_long)

  stands_now : (before : Told) → StandsFor before [] begun start → StandsFor before all feed now
  stands_now before b = w.gathers.given before [] b

  whole : w.left ≡ [] → packets_got got ≡ map packet_of all
  whole none = sym (append_nil (packets_got got)) ∙ ap (λ (ps : List Packet). packets_got got ++ ps) (sym none) ∙ w.parts

  same_all : w.left ≡ [] → all ≡ map arrival_of hs
  same_all none = sym (arrivals_all all got (whole none))

  have_worked : w.left ≡ [] → HaveWorked f keys workers hs v
  have_worked none = record {
    share = w.share;
    at = w.at;
    stands = w.stand.stands;
    collected = w.stand.collected;
    sent = w.sent ∙ ap (λ (ps : List Packet). packets_of w.at.collected ++ ps) none ∙ append_nil (packets_of w.at.collected);
    queues = w.stand.queues;
    last = w.stand.last;
    rises = w.stand.rises;
    inputs = w.stand.inputs;
  }

  ending_of : (e : Ending) (before : Told) → w.left ≡ [] → length hs ≡ feed.given → IsOver e begun start feed all → StandsFor before [] begun start → IsEnding e feed before hs
  ending_of All before none count over b =
      let h = over before [] b in
      (subst (AreAll (told_of.packets_of (sixes_in feed.sources) (files_in feed.sources) before)) (same_all none) h.0, h.1)
  ending_of TooMany before none count over b =
      let long : length all ≡ length hs = ap (λ (t : List Arrival). length t) (same_all none) ∙ length-map hs arrival_of in
      (count ∙ over.0, subst (λ (n : ℕ). HasMore (told_of.packets_of (sixes_in feed.sources) (files_in feed.sources) before) n) long (over.1 before [] b))

  -- all of them are answered
  pub ends_with : (ending : Ending) (P : List Handled → Type 0) → w.left ≡ [] → IsOver ending begun start feed all → P hs → EndsWith f keys workers begun start feed v ending P
  ends_with ending P none over left =
      let count : length hs ≡ feed.given = sym (length-map hs arrival_of) ∙ ap (λ (t : List Arrival). length t) (sym (same_all none)) ∙ sym given_long in
      record {
        hs = hs;
        worked = have_worked none;
        first = λ before b. first_given before (map arrival_of hs) feed begun now w.gathers.same_files w.gathers.same_six (subst (λ (as_list : List Arrival). StandsFor before as_list feed now) (same_all none) (stands_now before b));
        ending_is = λ before b. ending_of ending before none count over b;
        same_files = w.gathers.same_files;
        same_six = w.gathers.same_six;
        same_most = w.gathers.same_most;
        within = let le = given_within in omega (arith, count, le, given_long);
        count = count;
        left = left;
      }

  are_before : (all_told : Option (List Arrival)) (batch done : List Arrival) (next : Arrival) (later : List Arrival) (packet : Packet) → AreFirst all_told batch → next.packet ≡ packet → batch ≡ done ++ next ∷ later → AreBefore all_told done packet
  are_before None batch done next later packet h is whole_is = tt
  are_before (Some told) batch done next later packet h is whole_is = (
    next,
    later ++ h.0,
    is,
    h.1 ∙ ap (λ (t : List Arrival). t ++ h.0) whole_is ∙ append_assoc done (next ∷ later) h.0,
  )

  -- those before a share stop are
  pub stops_with : (stop : Stop) (packets : ℕ) (P : List Handled → Type 0) → 1 < workers → HashAlikeWhereTheyMeet f keys → (later : List Packet) → packets_got got ++ stop.packet ∷ later ≡ map packet_of all → IsAtStop (setup_of f keys workers w.share) w.at stop.packet stop.chain → stop.queue ≡ queue_by keys workers stop.packet → packets ≡ length got → P hs
      → StopsWith f keys workers begun start stop packets P
  stops_with stop packets P several alike later parts stops home count left =
      let ran = ran_of f keys workers w.share hs v w.at several alike w.stand in
      let stopped = stopped_of f keys workers w.share hs v w.at stop.packet stop.queue stop.chain several alike w.stand ran stops home in
      let b = arrivals_before all got stop.packet later parts in
      let long : length all ≡ length (map arrival_of hs) + length (b.next ∷ b.later) = ap (λ (t : List Arrival). length t) b.whole ∙ length-append (map arrival_of hs) (b.next ∷ b.later) in
      let many = answered_long all got (stop.packet ∷ later) parts in
      let most = given_within in
      record {
        hs = hs;
        state = ran.ran.state;
        sharded = ran.sharded;
        queue_is = home;
        fields = stopped.fields;
        choices = stopped.choices;
        share = stopped.share;
        share_is = stopped.share_is;
        stops = stopped.stops;
        before_it = λ before s.
            let first = first_given before all feed begun now w.gathers.same_files w.gathers.same_six (stands_now before s) in
            are_before (told_of.packets_of (sixes_in begun.sources) (files_in begun.sources) before) all (map arrival_of hs) b.next b.later stop.packet first b.is b.whole;
        within = omega (arith, long, length-map hs arrival_of, most);
        count = many ∙ sym count;
        left = left;
      }

  are_first : (all_told : Option (List Arrival)) (batch done later : List Arrival) → AreFirst all_told batch → batch ≡ done ++ later → AreFirst all_told done
  are_first None batch done later h whole_is = tt
  are_first (Some told) batch done later h whole_is = (later ++ h.0, h.1 ∙ ap (λ (t : List Arrival). t ++ h.0) whole_is ∙ append_assoc done later h.0)

  -- the run was stopped
  pub halts_with : (card : Card) (format : CaptureFormat) (told : Told) (files : List ℕ) → 1 < workers → HashAlikeWhereTheyMeet f keys → AreFronts Shard workers card format ports hs told files → Halts f keys workers card format ports begun start told files
  halts_with card format told files several alike fronts =
      let ran = ran_of f keys workers w.share hs v w.at several alike w.stand in
      let b = arrivals_front all got w.left w.parts in
      let long : length all ≡ length (map arrival_of hs) + length b.later = ap (λ (t : List Arrival). length t) b.whole ∙ length-append (map arrival_of hs) b.later in
      let most = given_within in
      record {
        hs = hs;
        state = ran.ran.state;
        sharded = ran.sharded;
        first = λ before s.
            let first = first_given before all feed begun now w.gathers.same_files w.gathers.same_six (stands_now before s) in
            are_first (told_of.packets_of (sixes_in begun.sources) (files_in begun.sources) before) all (map arrival_of hs) b.later first b.whole;
        within = omega (arith, long, length-map hs arrival_of, most);
        fronts = fronts;
      }

none_left : (queue : Packet → ℕ) (left : List Packet) → [] ≡ map queue left → left ≡ []
none_left queue [] e = refl
none_left queue (p ∷ left) e = cc

module _ {G : Type 0} (func : Func) (keys : Keys) (workers : ℕ) (share : ℕ → Share) (line : Line G) (all : List Arrival) (got : List Collected) (tables : List TablesState) (is : IsSetup (setup_of (function_of func) keys workers share))
    (st : LineStands line (setup_of (function_of func) keys workers share) (map packet_of all) got) (fin : LineFinishes line (setup_of (function_of func) keys workers share) (map packet_of all) got tables)
    (ports : ℕ) (begun : Feeding) (start : Told) (feed : Feeding) (now : Told) (g : Gathers ports begun feed start now all) (new : begun.given ≡ 0) where
  worked : Worked (function_of func) keys workers ports begun start feed now all got line.order.items (shards_of func keys workers share line (map packet_of all) got tables is st fin)
  worked = line_worked func keys workers share line all got tables is st fin ports begun start feed now g new

  -- all packets were answered
  pub line_ends : (ending : Ending) (P : List Handled → Type 0) → line.order.items ≡ [] → IsOver ending begun start feed all → P (answered all got) → EndsWith (function_of func) keys workers begun start feed (shards_of func keys workers share line (map packet_of all) got tables is st fin) ending P
  line_ends ending P none over left =
      ends_with (function_of func) keys workers ports begun start feed now all got line.order.items (shards_of func keys workers share line (map packet_of all) got tables is st fin) worked ending P
      (none_left (queue_by keys workers) worked.left (sym none ∙ worked.order_is)) over left

  pub line_made : line.order.items ≡ [] → IsMadeOf (shards_of func keys workers share line (map packet_of all) got tables is st fin) func tables line.time
  line_made none = record {
    func_is = shards_func func keys workers share line (map packet_of all) got tables is st fin;
    tables_are = shards_tables func keys workers share line (map packet_of all) got tables is st fin;
    time_is = shards_time func keys workers share line (map packet_of all) got tables is st fin;
    none = shards_order func keys workers share line (map packet_of all) got tables is st fin ∙ none;
  }

  -- those before a share stop were
  pub line_stops : (stop : Stop) (packets : ℕ) (P : List Handled → Type 0) → 1 < workers → HashAlikeWhereTheyMeet (function_of func) keys → StandsAtStop line stop → packets ≡ length got → P (answered all got) → StopsWith (function_of func) keys workers begun start stop packets P
  unfolding worked line_worked
  line_stops stop packets P several alike at count left =
      let p = play func keys workers share line (map packet_of all) got tables is st fin in
      let s = line_stop func keys workers share line (map packet_of all) got tables is st fin stop at in
      let behind : packets_got got ++ stop.packet ∷ s.1.later ≡ map packet_of all = ap (λ (ps : List Packet). ps ++ stop.packet ∷ s.1.later) (sym (got_packets got) ∙ ap packets_of (sym p.collected)) ∙ sym s.1.next ∙ p.dispatched in
      stops_with (function_of func) keys workers ports begun start feed now all got line.order.items (shards_of func keys workers share line (map packet_of all) got tables is st fin) worked stop packets P several alike s.1.later behind s.1 s.0 count left

  -- the run was stopped
  pub line_halts : (card : Card) (format : CaptureFormat) (told : Told) (files : List ℕ) → 1 < workers → HashAlikeWhereTheyMeet (function_of func) keys → AreFronts Shard workers card format ports (answered all got) told files → Halts (function_of func) keys workers card format ports begun start told files
  line_halts card format told files several alike fronts =
      halts_with (function_of func) keys workers ports begun start feed now all got line.order.items (shards_of func keys workers share line (map packet_of all) got tables is st fin) worked card format told files several alike fronts
