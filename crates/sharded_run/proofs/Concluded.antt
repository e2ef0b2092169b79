-- A whole run by a line of workers, by how it ends.
use Rattle.std.proofs.Common.{◌≡◌, ◌<◌, ◌≤◌, ◌∙◌, ℕ, zero, suc, List, [], ◌∷◌, length, map, Some, Result, slice_get, refl, sym, subst, arith}
use Rattle.nf_base.specs.declared.card.Card.{Card}
use Rattle.nf_base.specs.declared.func.Func.{Func}
use Rattle.nf_base.specs.declared.keys.Keys.{Keys}
use Rattle.nf_base.specs.declared.share.Share.{Share}
use Rattle.nf_base.specs.Doors.{six_ports}
use Rattle.nf_base.specs.Functions.{function_of}
use Rattle.capture_format.specs.declared.format.CaptureFormat.{CaptureFormat}
use Rattle.nf_files.specs.Told.{Told}
use Rattle.toeplitz_hash.specs.Meeting.{HashAlikeWhereTheyMeet}
use Rattle.packet_feed.specs.Arrivals.{Arrival, packet_of}
use Rattle.packet_feed.specs.Feeding.{Feeding}
use Rattle.packet_feed.specs.Sources.{files_in, sixes_in}
use Rattle.run_history.specs.declared.line.Mode.TheVariants.{Shard}
use Rattle.vig_tables.specs.TablesState.{TablesState}
use Rattle.vig_tables.specs.Union.{AreOf}
use Rattle.shard_machine.specs.Machine.{Setup}
use Rattle.shard_machine.specs.Moments.{IsSetup}
use Rattle.shard_core.specs.declared.collected.Collected.{Collected}
use Rattle.ring_line.specs.Lines.{LineStands, LineFinishes}
use Rattle.stream_run.specs.declared.ending.Ending.{Ending}
use Rattle.stream_run.specs.declared.ran.Ran as ran_type
use Rattle.stream_run.specs.Writing.{Holding, AreHeld, AreFronts}
use Rattle.sharded_run.specs.declared.result.RunEnd as ended
use Rattle.sharded_run.specs.declared.result.ShareFull.{ShareFull}
use Rattle.sharded_run.specs.declared.crew.Crew.{Crew}
use Rattle.sharded_run.specs.Setups.{setup_of}
use Rattle.sharded_run.specs.Answered.{answered}
use Rattle.sharded_run.specs.Going.{IsLast, AreWhole, IsMadeOf, HaveWorked}
use Rattle.sharded_run.specs.Passing.{IsNewCrew, Passing, Suits, AllPassed, SomePassed, WereRead, FlowsSo}
use Rattle.sharded_run.specs.Reading.{Gathers}
use Rattle.sharded_run.specs.Lawful.{IsFinished, IsFull, IsCutShort}
use Rattle.sharded_run.proofs.Begun.{share_by, new_suits, new_passing, halts_whole}
use Rattle.sharded_run.proofs.Complete.{counted, cut_short_at, is_full_at, finished}
use Rattle.sharded_run.proofs.Endings.{line_ends, line_made, line_stops, line_halts}
use Rattle.sharded_run.proofs.Flowed.{flows_as}
use Rattle.sharded_run.proofs.Gathered.{gathers_none}

-- what new workers come to with all packets of captures
abbrev Flows : {G E : Type 0} → ℕ → Feeding → Told → List Holding → Crew G → Feeding → Told → Crew G → List ℕ → Result ended.RunEnd E → Type 0
Flows n from begun sinks crew feed now after files r =
    (x : Setup) (card : Card) (format : CaptureFormat) (first : Feeding) (start : Told) (all : List Arrival) → Suits x n crew from → length (files_in first.sources) ≡ n → Passing x card format begun crew sinks all → Gathers n first from start begun all
    → FlowsSo x n first start feed now after (AreWhole x.workers card format crew.ports now files) (λ hs. AreFronts Shard x.workers card format crew.ports hs now files) r

-- from the first packet on
pub new_flows : {G E : Type 0} (func : Func) (keys : Keys) (workers n : ℕ) (card : Card) (format : CaptureFormat) (some : 0 < workers) (most : workers ≤ 16) (begun feed : Feeding) (start now : Told) (sinks : List Holding) (crew after : Crew G) (files : List ℕ) (r : Result ended.RunEnd E) → IsNewCrew crew func keys workers → n ≡ length func.handlers
    → sixes_in begun.sources ≡ six_ports (function_of func) → length (files_in begun.sources) ≡ n → AreHeld Shard workers card format (length func.handlers) [] start sinks → Flows n begun start sinks crew feed now after files r
    → FlowsSo (setup_of (function_of func) keys workers (share_by workers some most)) n begun start feed now after (AreWhole workers card format n now files) (λ hs. AreFronts Shard workers card format n hs now files) r
new_flows func keys workers n card format some most begun feed start now sinks crew after files r new ports six long held flows =
    let share = share_by workers some most in
    let x = setup_of (function_of func) keys workers share in
    let heads = subst (λ (m : ℕ). AreHeld Shard workers card format m [] start sinks) (sym ports) held in
    let st = new_passing func keys workers n card format some most crew start sinks new (sym ports) heads in
    let suits = new_suits func keys workers n share crew begun new six (ports ∙ counted func) in
    let same : crew.ports ≡ n = new.ports_are ∙ sym ports in
    flows_as x n begun feed start now after (AreWhole workers card format crew.ports now files) (AreWhole workers card format n now files) (λ hs. AreFronts Shard workers card format crew.ports hs now files) (λ hs. AreFronts Shard workers card format n hs now files) r
    (λ hs h. subst (λ (m : ℕ). AreWhole workers card format m now files hs) same h)
    (λ hs h. subst (λ (m : ℕ). AreFronts Shard workers card format m hs now files) same h)
    (flows x card format begun start [] suits long st (gathers_none n begun start))

-- each worker's tables are of the function
pub parts_of_one : {G : Type 0} (func : Func) (keys : Keys) (workers : ℕ) (share : ℕ → Share) (crew : Crew G) (all : List Arrival) (got : List Collected) (parts : List TablesState) → LineFinishes crew.line (setup_of (function_of func) keys workers share) (map packet_of all) got parts → AreOf func.chains parts
parts_of_one func keys workers share crew all got parts fin = each_of parts (λ w t at. (fin.tables w t at).decls)
  where
    each_of : (ts : List TablesState) → ((w : ℕ) (t : TablesState) → slice_get ts w ≡ Some t → t.decls ≡ func.chains) → AreOf func.chains ts
    each_of [] each k d lt = absurd (omega (arith, lt))
    each_of (t ∷ ts) each zero d lt = each 0 t refl
    each_of (t ∷ ts) each (suc k) d lt = each_of ts (λ w u at. each (suc w) u at) k d (omega (arith, lt))

module _ {G : Type 0} (func : Func) (keys : Keys) (workers : ℕ) (share : ℕ → Share) (card : Card) (format : CaptureFormat) (begun : Feeding) (start now : Told) (files : List ℕ) (crew : Crew G) (parts : List TablesState)
    (is : IsSetup (setup_of (function_of func) keys workers share)) (several : 1 < workers) (alike : HashAlikeWhereTheyMeet (function_of func) keys) (n : ℕ) (ports : n ≡ length (function_of func).handlers) (new : begun.given ≡ 0) where
  abbrev x : Setup
  x = setup_of (function_of func) keys workers share

  -- it is stopped
  pub runs_cut : (all : List Arrival) (got : List Collected) → LineStands crew.line x (map packet_of all) got → LineFinishes crew.line x (map packet_of all) got parts → WereRead n begun start all → AreFronts Shard workers card format n (answered all got) now files
      → IsCutShort (function_of func) keys workers card format begun start now files
  runs_cut all got st fin read fronts =
      cut_short_at (function_of func) n keys workers card format begun start now files ports
      (line_halts func keys workers share crew.line all got parts is st fin n begun start read.feed read.now read.gathers new card format now files several alike fronts)

  -- a share stop is met
  pub runs_full : (full : ShareFull) (h : SomePassed x n begun start crew full (AreWhole workers card format n now files)) → LineFinishes crew.line x (map packet_of h.all) h.got parts → IsFull (function_of func) keys workers card format begun start now files full
  runs_full full h fin =
      is_full_at (function_of func) n keys workers card format begun start now files full ports
      (line_stops func keys workers share crew.line h.all h.got parts is h.stands fin n begun start h.read.feed h.read.now h.read.gathers new full.stop full.packets (AreWhole workers card format n now files) several alike h.stop (omega (arith, h.count, new)) h.left)

  -- all packets are handled, and the state is told, or can't be
  pub runs_over : (feed : Feeding) (ending : Ending) (ran : ran_type.Ran) (packets : ℕ) (h : AllPassed x n begun start feed now crew ending (AreWhole workers card format n now files)) → LineFinishes crew.line x (map packet_of h.all) h.got parts → packets ≡ feed.given
      → ((hs : _) (v : _) → HaveWorked (function_of func) keys workers hs v → IsMadeOf v func parts crew.line.time → IsLast (function_of func) keys workers hs ending packets ran) → IsFinished (function_of func) keys workers card format begun start feed now files ran
  runs_over feed ending ran packets h fin given last =
      let e = line_ends func keys workers share crew.line h.all h.got parts is h.stands fin n begun start feed now h.gathers new ending (AreWhole workers card format n now files) h.none h.over h.left in
      let l = last e.hs _ e.worked (line_made func keys workers share crew.line h.all h.got parts is h.stands fin n begun start feed now h.gathers new h.none) in
      finished (function_of func) keys workers card format begun start feed _ ending now files ran n ports e l.ending_is (sym given ∙ sym l.packets_is) l.sharded

  pub runs_whole : (feed : Feeding) (ending : Ending) (h : AllPassed x n begun start feed now crew ending (AreWhole workers card format n now files)) → LineFinishes crew.line x (map packet_of h.all) h.got parts → IsCutShort (function_of func) keys workers card format begun start now files
  runs_whole feed ending h fin =
      let e = line_ends func keys workers share crew.line h.all h.got parts is h.stands fin n begun start feed now h.gathers new ending (AreWhole workers card format n now files) h.none h.over h.left in
      cut_short_at (function_of func) n keys workers card format begun start now files ports (halts_whole (function_of func) keys workers card format n begun start feed _ ending now files several alike e)
