-- All packets of captures: read, handed to workers, answered and written.
use Rattle.std.proofs.Common.{◌≡◌, ◌+◌, ℕ, List, [], ◌∷◌, ◌++◌, length, Result, Ok, Err, refl, ap, sym, ◌∙◌, subst, arith}
use Rattle.std.proofs.lemmas.List.{length-append}
use Rattle.nf_base.specs.declared.card.Card.{Card}
use Rattle.capture_format.specs.declared.format.CaptureFormat.{CaptureFormat}
use Rattle.nf_files.specs.Told.{Told}
use Rattle.packet_feed.specs.Arrivals.{Arrival}
use Rattle.packet_feed.specs.Sources.{sixes_in}
use Rattle.packet_feed.specs.Feeding.{Feeding}
use Rattle.run_history.specs.declared.line.Mode.TheVariants.{Shard}
use Rattle.shard_machine.specs.Machine.{Setup}
use Rattle.ring_line.specs.Lines.{StandsAtStop}
use Rattle.stream_run.specs.declared.ending.Ending.{Ending}
use Rattle.stream_run.specs.declared.fault.RunFault.{RunFault}
use Rattle.stream_run.specs.Runs.{Handled}
use Rattle.stream_run.specs.Rules.{queue_by}
use Rattle.stream_run.specs.Writing.{Holding, AreHeld, AreFronts}
use Rattle.sharded_run.specs.declared.result.RunEnd as ended
use Rattle.sharded_run.specs.declared.result.RunEnd.TheVariants as over
use Rattle.sharded_run.specs.declared.result.ReadResult as passed
use Rattle.sharded_run.specs.declared.result.ReadResult.TheVariants as pass
use Rattle.sharded_run.specs.declared.result.ShareFull.{ShareFull}
use Rattle.sharded_run.specs.declared.crew.Crew.{Crew}
use Rattle.sharded_run.specs.declared.router.Router.{Router}
use Rattle.sharded_run.specs.Answered.{answered}
use Rattle.sharded_run.specs.Reading.{Gathers, IsOver}
use Rattle.sharded_run.specs.Passing.{Passing, CutsShort, HandedOut, Suits, WereRead, MeetsStop, PassedSo, AllPassed, SomePassed, FlowsSo}
use Rattle.sharded_run.proofs.Passed.{gathers_rest}

-- ---- a packet is read and handed out

-- how many packets are written where a share stop is met
met_count : {G : Type 0} (x : Setup) (card : Card) (format : CaptureFormat) (ports : ℕ) (begun feed next : Feeding) (start old now : Told) (crew : Crew G) (sinks : List Holding) (all : List Arrival) (packets : ℕ) (st : Passing x card format now crew sinks all) → Gathers ports begun feed start old all → next.given ≡ feed.given + 1 → packets + (length crew.frames + 1) ≡ next.given
    → packets ≡ begun.given + length st.got
met_count x card format ports begun feed next start old now crew sinks all packets st g more e =
    let long : length all ≡ length st.done + length crew.frames = ap (λ (t : List Arrival). length t) st.parts ∙ length-append st.done crew.frames in
    omega (arith, long, st.long, g.count, more, e)

pub passed_by : {G : Type 0} (x : Setup) (card : Card) (format : CaptureFormat) (ports : ℕ) (begun feed next : Feeding) (start old mid now : Told) (crew : Crew G) (sinks : List Holding) (all : List Arrival) (one : Arrival) (r : Result passed.ReadResult RunFault) → HandedOut x card format now crew sinks all one next.given r → Gathers ports begun feed start old all → Gathers ports begun next start mid (all ++ one ∷ []) → next.given ≡ feed.given + 1
    → ((g : ℕ) → now.rest g ≡ mid.rest g) → PassedSo x card format ports begun start next now crew sinks all r
passed_by x card format ports begun feed next start old mid now crew sinks all one (Ok pass.On) h g k more rests = (one, h, gathers_rest ports begun next start mid now (all ++ one ∷ []) rests k)
passed_by x card format ports begun feed next start old mid now crew sinks all one (Ok (pass.End ending)) h g k more rests = absurd h
passed_by x card format ports begun feed next start old mid now crew sinks all one (Ok (pass.Met packets)) h g k more rests = (
  h.1.stop,
  h.1.is,
  record {
    passing = h.0;
    stop = h.1.stands;
    count = met_count x card format ports begun feed next start old now crew sinks all packets h.0 g more h.2;
    read = record { feed = feed; now = old; gathers = g };
  },
)
passed_by x card format ports begun feed next start old mid now crew sinks all one (Err e) h g k more rests = (h, record { feed = feed; now = old; gathers = g })

-- ---- all packets are passed

-- where none is in flight, all are answered
pub none_in_flight : {G : Type 0} (x : Setup) (card : Card) (format : CaptureFormat) (now : Told) (crew : Crew G) (sinks : List Holding) (all : List Arrival) → (st : Passing x card format now crew sinks all) → length crew.frames ≡ length crew.line.order.items → length crew.frames ≡ 0 → crew.line.order.items ≡ []
none_in_flight x card format now crew sinks all st same none = of_none crew.line.order.items (omega (arith, same, none))
  where
    of_none : (qs : List ℕ) → length qs ≡ 0 → qs ≡ []
    of_none [] e = refl
    of_none (q ∷ qs) e = absurd (omega (arith, e))

-- what is held is given to the files
pub flows_ok : {G : Type 0} (E : Type 0) (x : Setup) (ports : ℕ) (begun feed : Feeding) (start old now : Told) (crew : Crew G) (Left More Front Rest : List Handled → Type 0) (e : ended.RunEnd) → ((g : ℕ) → now.rest g ≡ old.rest g) → ((hs : List Handled) → Left hs → More hs) → FlowsSo {E = E} x ports begun start feed old crew Left Front (Ok e)
    → FlowsSo {E = E} x ports begun start feed now crew More Rest (Ok e)
flows_ok E x ports begun feed start old now crew Left More Front Rest (over.Over ending) rests more h = record {
  all = h.all;
  got = h.got;
  stands = h.stands;
  none = h.none;
  gathers = gathers_rest ports begun feed start old now h.all rests h.gathers;
  over = h.over;
  left = more (answered h.all h.got) h.left;
}
flows_ok E x ports begun feed start old now crew Left More Front Rest (over.Full full) rests more h = record {
  all = h.all;
  got = h.got;
  stands = h.stands;
  stop = h.stop;
  count = h.count;
  read = h.read;
  left = more (answered h.all h.got) h.left;
}

-- or a file fails
pub flows_err : {G E : Type 0} (x : Setup) (ports : ℕ) (begun feed : Feeding) (start old now : Told) (crew : Crew G) (Left More Front Rest : List Handled → Type 0) (e : ended.RunEnd) (fault_is : E) → ((hs : List Handled) → Left hs → Rest hs) → FlowsSo {E = E} x ports begun start feed old crew Left Front (Ok e)
    → FlowsSo {E = E} x ports begun start feed now crew More Rest (Err fault_is)
flows_err x ports begun feed start old now crew Left More Front Rest (over.Over ending) fault_is more h = (h.all, h.got, h.stands, record { feed = feed; now = old; gathers = h.gathers }, more (answered h.all h.got) h.left)
flows_err x ports begun feed start old now crew Left More Front Rest (over.Full full) fault_is more h = (h.all, h.got, h.stands, h.read, more (answered h.all h.got) h.left)

-- ---- what is known of files, in other words

flows_in : {G : Type 0} (x : Setup) (ports : ℕ) (begun feed : Feeding) (start now : Told) (crew : Crew G) (ending : Ending) (Left More : List Handled → Type 0) → ((hs : List Handled) → Left hs → More hs) → AllPassed x ports begun start feed now crew ending Left → AllPassed x ports begun start feed now crew ending More
flows_in x ports begun feed start now crew ending Left More more h = record { all = h.all; got = h.got; stands = h.stands; none = h.none; gathers = h.gathers; over = h.over; left = more (answered h.all h.got) h.left }

pub stops_in : {G : Type 0} (x : Setup) (ports : ℕ) (begun : Feeding) (start : Told) (crew : Crew G) (full : ShareFull) (Left More : List Handled → Type 0) → ((hs : List Handled) → Left hs → More hs) → SomePassed x ports begun start crew full Left → SomePassed x ports begun start crew full More
stops_in x ports begun start crew full Left More more h = record { all = h.all; got = h.got; stands = h.stands; stop = h.stop; count = h.count; read = h.read; left = more (answered h.all h.got) h.left }

pub flows_as : {G E : Type 0} (x : Setup) (ports : ℕ) (begun feed : Feeding) (start now : Told) (crew : Crew G) (Left More Front Rest : List Handled → Type 0) (r : Result ended.RunEnd E) → ((hs : List Handled) → Left hs → More hs) → ((hs : List Handled) → Front hs → Rest hs) → FlowsSo {E = E} x ports begun start feed now crew Left Front r
    → FlowsSo {E = E} x ports begun start feed now crew More Rest r
flows_as x ports begun feed start now crew Left More Front Rest (Ok (over.Over ending)) more rest h = flows_in x ports begun feed start now crew ending Left More more h
flows_as x ports begun feed start now crew Left More Front Rest (Ok (over.Full full)) more rest h = stops_in x ports begun start crew full Left More more h
flows_as x ports begun feed start now crew Left More Front Rest (Err e) more rest h = (h.0, h.1, h.2, h.3, rest (answered h.0 h.1) h.4)

-- as many ports
pub held_at : (x : Setup) (card : Card) (format : CaptureFormat) (n m : ℕ) (now : Told) (sinks : List Holding) → n ≡ m → (hs : List Handled) → AreHeld Shard x.workers card format n hs now sinks → AreHeld Shard x.workers card format m hs now sinks
held_at x card format n m now sinks same hs h = subst (λ (k : ℕ). AreHeld Shard x.workers card format k hs now sinks) same h

-- and the same files
pub fronts_at : (x : Setup) (card : Card) (format : CaptureFormat) (n m : ℕ) (now : Told) (files all : List ℕ) → n ≡ m → files ≡ all → (hs : List Handled) → AreFronts Shard x.workers card format n hs now files → AreFronts Shard x.workers card format m hs now all
fronts_at x card format n m now files all same alike hs h = subst (λ (k : ℕ). AreFronts Shard x.workers card format k hs now all) same (subst (λ (fs : List ℕ). AreFronts Shard x.workers card format n hs now fs) alike h)

-- ---- how all of them end

pub all_over : {G : Type 0} (x : Setup) (card : Card) (format : CaptureFormat) (ports : ℕ) (begun feed : Feeding) (start now : Told) (crew : Crew G) (sinks : List Holding) (all : List Arrival) (ending : Ending) → Passing x card format now crew sinks all → crew.line.order.items ≡ [] → Gathers ports begun feed start now all → IsOver ending begun start feed all
    → AllPassed x ports begun start feed now crew ending (λ hs. AreHeld Shard x.workers card format crew.ports hs now sinks)
all_over x card format ports begun feed start now crew sinks all ending st none g over = record { all = all; got = st.got; stands = st.stands; none = none; gathers = g; over = over; left = st.held }

pub met_behind : {G : Type 0} (x : Setup) (card : Card) (format : CaptureFormat) (ports : ℕ) (begun feed : Feeding) (start old now : Told) (crew : Crew G) (sinks : List Holding) (all : List Arrival) (full : ShareFull) → Passing x card format now crew sinks all → Gathers ports begun feed start old all → StandsAtStop crew.line full.stop → full.packets + length crew.frames ≡ feed.given
    → MeetsStop x card format ports begun start now crew sinks all full
met_behind x card format ports begun feed start old now crew sinks all full st g stop e =
    let long : length all ≡ length st.done + length crew.frames = ap (λ (t : List Arrival). length t) st.parts ∙ length-append st.done crew.frames in
    record { passing = st; stop = stop; count = omega (arith, long, st.long, g.count, e); read = record { feed = feed; now = old; gathers = g } }

pub some_met : {G : Type 0} (x : Setup) (card : Card) (format : CaptureFormat) (ports : ℕ) (begun : Feeding) (start now : Told) (crew : Crew G) (sinks : List Holding) (all : List Arrival) (full : ShareFull) → MeetsStop x card format ports begun start now crew sinks all full
    → SomePassed x ports begun start crew full (λ hs. AreHeld Shard x.workers card format crew.ports hs now sinks)
some_met x card format ports begun start now crew sinks all full h = record { all = all; got = h.passing.got; stands = h.passing.stands; stop = h.stop; count = h.count; read = h.read; left = h.passing.held }

pub cut_short : {G E : Type 0} (x : Setup) (card : Card) (format : CaptureFormat) (ports : ℕ) (begun feed : Feeding) (start now : Told) (crew : Crew G) (files : List ℕ) (all : List Arrival) (e : E) → CutsShort x card format now crew files all → WereRead ports begun start all
    → FlowsSo {E = E} x ports begun start feed now crew (λ hs. Unit {0}) (λ hs. AreFronts Shard x.workers card format crew.ports hs now files) (Err e)
cut_short x card format ports begun feed start now crew files all e h read = (all, h.got, h.stands, read, h.fronts)

-- the workers of a setup are the same, and more of the captures is read
pub suits_on : {G : Type 0} (x : Setup) (ports : ℕ) (old new : Crew G) (feed next : Feeding) → new.router ≡ old.router → sixes_in next.sources ≡ sixes_in feed.sources → Suits x ports old feed → Suits x ports new next
suits_on x ports old new feed next router six h = record {
  queue = λ p. h.queue p ∙ ap (λ (r : Router). queue_by r.keys r.workers p) (sym router);
  six = six ∙ h.six;
  ports_are = h.ports_are;
}
