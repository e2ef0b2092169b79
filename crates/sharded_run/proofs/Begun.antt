-- Runs at their beginning, and how they end.
use Rattle.std.proofs.Common.{◌≡◌, ◌<◌, ◌≤◌, ◌%◌, ◌∙◌, ℕ, List, [], length, Option, Some, None, refl, ap, ap₂, sym, subst, arith}
use Rattle.std.specs.List.{slice_get}
use Rattle.std.proofs.lemmas.Nat.{mod_below}
use Rattle.std.proofs.Math.Nat.{mod-eq_of_lt}
use Rattle.nf_base.specs.declared.card.TableSize.{TableSize}
use Rattle.nf_base.specs.declared.card.Card.{Card}
use Rattle.capture_format.specs.declared.format.CaptureFormat.{CaptureFormat}
use Rattle.nf_base.specs.declared.func.Func.{Func}
use Rattle.nf_base.specs.declared.keys.Keys.{Keys}
use Rattle.nf_base.specs.Doors.{six_ports}
use Rattle.nf_base.specs.declared.packet.Packet.{Packet}
use Rattle.nf_base.specs.declared.share.Share.{Share}
use Rattle.nf_base.specs.Text.{Function}
use Rattle.nf_base.specs.Functions.{function_of}
use Rattle.nf_base.specs.Step.{opening}
use Rattle.nf_files.specs.Told.{Told, IsEmptyIfTold}
use Rattle.toeplitz_hash.specs.Meeting.{HashAlikeWhereTheyMeet}
use Rattle.packet_feed.specs.Told.{packets_of}
use Rattle.packet_feed.specs.Sources.{files_in, sixes_in}
use Rattle.packet_feed.specs.Feeding.{Feeding}
use Rattle.run_history.specs.declared.line.Mode.TheVariants.{Shard}
use Rattle.rss_table.specs.Tables.{even_table, table_index, queue_at}
use Rattle.rss_table.proofs.Entries.{entries_go_round}
use Rattle.toeplitz_hash.specs.Packets.{hash_of}
use Rattle.shard_machine.specs.Moments.{IsSetup}
use Rattle.vig_tables.specs.TablesState.{TablesState}
use Rattle.vig_tables.specs.Union.{owner_among, state_in, HasNamesApart, IsUnion}
use Rattle.shard_core.specs.Finished.{tables_in, IsMergeOf}
use Rattle.shard_core.specs.Sharded.{Sharded}
use Rattle.stream_run.specs.Texts.{bytes_of}
use Rattle.stream_run.specs.Writing.{Holding, IsFrontIfTold, files_of, AreHeld}
use Rattle.stream_run.proofs.Held.{front_all, stays_in}
use Rattle.stream_run.proofs.Complete.{first_none, empty_front, whole_front}
use Rattle.stream_run.specs.declared.ending.Ending.{Ending}
use Rattle.stream_run.specs.Rules.{queue_by, shard_rule, AreBy}
use Rattle.sharded_run.specs.Setups.{setup_of}
use Rattle.sharded_run.specs.declared.crew.Crew.{Crew}
use Rattle.sharded_run.specs.Passing.{Passing, Suits, IsNewCrew}
use Rattle.sharded_run.specs.Going.{Halts, EndsWith, AreWhole, IsMadeOf}
use Rattle.sharded_run.proofs.Lined.{ran_of, worked_stand}

-- ---- queues and shares

pub by_hash : (size : TableSize) (workers : ℕ) (hash : Option ℕ) → 0 < workers → queue_at (even_table size workers) hash < workers
by_hash size workers None lt = omega (arith, lt)
by_hash size workers (Some hash) lt = subst (λ (n : ℕ). n < workers) (sym ((entries_go_round size workers).of_hash hash)) (mod_below (table_index size hash) workers lt)

pub queue_below : (keys : Keys) (workers : ℕ) (p : Packet) → 0 < workers → queue_by keys workers p < workers
queue_below keys workers p lt = by_hash keys.table workers (hash_of keys p) lt

-- the share of each queue
pub share_by : (workers : ℕ) → 0 < workers → workers ≤ 16 → ℕ → Share
share_by workers some most w = record { queue = w % workers; of = workers; within = (mod_below w workers some, most) }

pub is_setup : (f : Function) (keys : Keys) (workers : ℕ) (some : 0 < workers) (most : workers ≤ 16) → IsSetup (setup_of f keys workers (share_by workers some most))
unfolding share_by
is_setup f keys workers some most = record {
  some = some;
  shares = record { queue = λ w lt. mod-eq_of_lt lt; of = λ w lt. refl };
  below = λ p. by_hash keys.table workers (hash_of keys p) some;
}

-- nothing was handled
sharded_none : (f : Function) (keys : Keys) (workers : ℕ) → AreBy (shard_rule keys workers) f [] (opening f)
sharded_none f keys workers = record { undivided = refl; own = tt; kept = tt }

pub halts_begun : (f : Function) (keys : Keys) (workers : ℕ) (card : Card) (format : CaptureFormat) (ports : ℕ) (begun : Feeding) (start : Told) (sinks : List Holding) → AreHeld Shard workers card format ports [] start sinks → Halts f keys workers card format ports begun start start (files_of sinks)
halts_begun f keys workers card format ports begun start sinks held = record {
  hs = [];
  state = opening f;
  sharded = sharded_none f keys workers;
  first = λ before b. first_none (packets_of (sixes_in begun.sources) (files_in begun.sources) before);
  within = omega arith;
  fronts = λ k file e.
      let s = stays_in sinks k file e in
      subst (λ (n : ℕ). IsFrontIfTold (bytes_of Shard workers card format ports k []) (start.given n)) s.2 (front_all (bytes_of Shard workers card format ports k []) (start.given s.0.file) s.0.held (held k s.0 s.1).1);
}

pub halts_none : (f : Function) (keys : Keys) (workers : ℕ) (card : Card) (format : CaptureFormat) (ports : ℕ) (begun : Feeding) (start : Told) (files : List ℕ) → ((k file : ℕ) → slice_get files k ≡ Some file → IsEmptyIfTold (start.given file)) → Halts f keys workers card format ports begun start start files
halts_none f keys workers card format ports begun start files empty = record {
  hs = [];
  state = opening f;
  sharded = sharded_none f keys workers;
  first = λ before b. first_none (packets_of (sixes_in begun.sources) (files_in begun.sources) before);
  within = omega arith;
  fronts = λ k file e. empty_front (bytes_of Shard workers card format ports k []) (start.given file) (empty k file e);
}

-- ---- the workers

pub new_suits : {G : Type 0} (func : Func) (keys : Keys) (workers n : ℕ) (share : ℕ → Share) (crew : Crew G) (feed : Feeding) → IsNewCrew crew func keys workers → sixes_in feed.sources ≡ six_ports (function_of func) → n ≡ length (function_of func).handlers → Suits (setup_of (function_of func) keys workers share) n crew feed
new_suits func keys workers n share crew feed new six ports = record {
  queue = λ p. ap₂ (λ (k : Keys) (w : ℕ). queue_by k w p) (sym new.keys_are) (sym new.workers_are);
  six = six;
  ports_are = ports;
}

pub new_passing : {G : Type 0} (func : Func) (keys : Keys) (workers n : ℕ) (card : Card) (format : CaptureFormat) (some : 0 < workers) (most : workers ≤ 16) (crew : Crew G) (start : Told) (sinks : List Holding) → IsNewCrew crew func keys workers → length func.handlers ≡ n → AreHeld Shard workers card format n [] start sinks
    → Passing (setup_of (function_of func) keys workers (share_by workers some most)) card format start crew sinks []
new_passing func keys workers n card format some most crew start sinks new ports held = record {
  got = [];
  done = [];
  parts = sym new.frames;
  long = refl;
  stands = new.stands (setup_of (function_of func) keys workers (share_by workers some most)) (is_setup (function_of func) keys workers some most) refl refl;
  held = subst (λ (m : ℕ). AreHeld Shard workers card format m [] start sinks) (sym ports ∙ sym new.ports_are) held;
}

-- ---- the tables

abbrev pub MergesTo : Func → List TablesState → ℕ → TablesState → Type 0
MergesTo func parts time tables = HasNamesApart (owner_among (length parts)) (function_of func) time (state_in parts) → IsUnion (owner_among (length parts)) (function_of func) time (length parts) (state_in parts) tables.state

pub is_merge : (v : Sharded) (func : Func) (parts : List TablesState) (time : ℕ) (tables : TablesState) → IsMadeOf v func parts time → tables.decls ≡ func.chains → tables.share.of ≡ 1 → MergesTo func parts time tables → IsMergeOf v tables
is_merge v func parts time tables made decls share union = record {
  decls = decls ∙ ap (λ (f : Func). f.chains) (sym made.func_is);
  share = share;
  union = subst (λ (f : Func). MergesTo f (tables_in v.workers) v.time tables) (sym made.func_is)
      (subst (λ (ps : List TablesState). MergesTo func ps v.time tables) (sym made.tables_are) (subst (λ (t : ℕ). MergesTo func parts t tables) (sym made.time_is) union));
}

-- ---- the state

-- the state could not be told
pub halts_whole : (f : Function) (keys : Keys) (workers : ℕ) (card : Card) (format : CaptureFormat) (ports : ℕ) (begun : Feeding) (start : Told) (feed : Feeding) (v : Sharded) (ending : Ending) (now : Told) (files : List ℕ) → 1 < workers → HashAlikeWhereTheyMeet f keys
    → EndsWith f keys workers begun start feed v ending (AreWhole workers card format ports now files) → Halts f keys workers card format ports begun start now files
halts_whole f keys workers card format ports begun start feed v ending now files several alike h =
    let ran = ran_of f keys workers h.worked.share h.hs v h.worked.at several alike (worked_stand f keys workers h.hs v h.worked) in
    record {
      hs = h.hs;
      state = ran.ran.state;
      sharded = ran.sharded;
      first = h.first;
      within = h.within;
      fronts = λ k file e. whole_front (bytes_of Shard workers card format ports k h.hs) (now.given file) (h.left k file e);
    }
