-- Whole runs: what was handled is one run in mode `shard`, or the front of one.
use Rattle.std.proofs.Common.{◌≡◌, ◌⊎◌, ℕ, Bool, List, length, map, Some, refl, sym, ◌∙◌, subst, arith}
use Rattle.std.specs.List.{slice_get}
use Rattle.std.proofs.lemmas.List.{length-map}
use Rattle.nf_base.specs.declared.card.Card.{Card}
use Rattle.capture_format.specs.declared.format.CaptureFormat.{CaptureFormat}
use Rattle.nf_base.specs.declared.func.Func.{Func}
use Rattle.nf_base.specs.declared.keys.Keys.{Keys}
use Rattle.nf_base.specs.declared.state.State.{State}
use Rattle.nf_base.specs.Text.{Function}
use Rattle.nf_base.specs.Handlers.{blocks_of}
use Rattle.nf_base.specs.Functions.{function_of}
use Rattle.nf_files.specs.Told.{Told, IsToldAs}
use Rattle.packet_feed.specs.Arrivals.{Arrival}
use Rattle.packet_feed.specs.Told.{packets_of}
use Rattle.packet_feed.specs.Sources.{files_in, sixes_in}
use Rattle.packet_feed.specs.Feeding.{Feeding, AreAll}
use Rattle.run_history.specs.declared.line.Mode.TheVariants.{Shard}
use Rattle.shard_core.specs.Sharded.{Sharded}
use Rattle.stream_run.specs.declared.ending.Ending.{Ending}
use Rattle.stream_run.specs.declared.ending.Ending.TheVariants as ending
use Rattle.stream_run.specs.declared.ran.Ran as ran_type
use Rattle.stream_run.specs.Runs.{Handled, turn_of, run_of, arrival_in}
use Rattle.stream_run.specs.Rules.{shard_rule, IsRunBy, AreBy}
use Rattle.stream_run.specs.Texts.{file_bytes}
use Rattle.stream_run.specs.Writing.{IsFrontIfTold}
use Rattle.stream_run.specs.Streaming.{IsUndivided, arrival_of, AreFirst}
use Rattle.stream_run.specs.Lawful.{AreTheFirst, EndsSo}
use Rattle.stream_run.proofs.Complete.{ran_of, run_by, bytes_are, same_arrivals, how_ended, ends_so, first_most}
use Rattle.sharded_run.specs.declared.result.ShareFull.{ShareFull}
use Rattle.sharded_run.specs.Sharded.{AreBefore}
use Rattle.sharded_run.specs.Going.{Halts, EndsWith, StopsWith, AreWhole}
use Rattle.sharded_run.specs.Lawful.{IsFinished, IsFull, IsCutShort}

-- ---- the run of packets that were handled

is_shard_run : (f : Function) (keys : Keys) (workers : ℕ) (card : Card) (hs : List Handled) (state : State) → AreBy (shard_rule keys workers) f hs state → IsRunBy (shard_rule keys workers) f card (map arrival_in (map turn_of hs)) (run_of f Shard workers card hs)
is_shard_run f keys workers card hs state s = run_by (shard_rule keys workers) f Shard workers card (map arrival_in (map turn_of hs)) hs state refl refl s (sym (same_arrivals hs))

wholes_of : (f : Function) (workers : ℕ) (card : Card) (format : CaptureFormat) (hs : List Handled) (state : State) (now : Told) (files : List ℕ) → IsUndivided f hs state → AreWhole workers card format (length f.handlers) now files hs → (k file : ℕ) → slice_get files k ≡ Some file → IsToldAs (file_bytes format (run_of f Shard workers card hs) k) (now.given file)
wholes_of f workers card format hs state now files u wholes k file e = subst (λ (t : List ℕ). IsToldAs t (now.given file)) (sym (bytes_are f Shard workers card format hs state k u)) (wholes k file e)

-- ---- how a run ends

pub cut_short : (f : Function) (keys : Keys) (workers : ℕ) (card : Card) (format : CaptureFormat) (begun : Feeding) (start now : Told) (files : List ℕ) → Halts f keys workers card format (length f.handlers) begun start now files → IsCutShort f keys workers card format begun start now files
cut_short f keys workers card format begun start now files h = record {
  run = run_of f Shard workers card h.hs;
  is_run = is_shard_run f keys workers card h.hs h.state h.sharded;
  within = omega (arith, length-map h.hs turn_of, h.within);
  packets = λ before b. subst (AreFirst (packets_of (sixes_in begun.sources) (files_in begun.sources) before)) (sym (same_arrivals h.hs)) (h.first before b);
  fronts = λ k file e. subst (λ (t : List ℕ). IsFrontIfTold t (now.given file)) (sym (bytes_are f Shard workers card format h.hs h.state k h.sharded.undivided)) (h.fronts k file e);
}

pub is_full : (f : Function) (keys : Keys) (workers : ℕ) (card : Card) (format : CaptureFormat) (begun : Feeding) (start now : Told) (files : List ℕ) (full : ShareFull) → StopsWith f keys workers begun start full.stop full.packets (AreWhole workers card format (length f.handlers) now files)
    → IsFull f keys workers card format begun start now files full
is_full f keys workers card format begun start now files full h = record {
  run = run_of f Shard workers card h.hs;
  is_run = is_shard_run f keys workers card h.hs h.state h.sharded;
  stops = record {
    queue_is = h.queue_is;
    state = h.state;
    answers = map (λ (x : Handled). x.done) h.hs;
    ran = ran_of f Shard workers card h.hs h.state h.sharded.undivided;
    fields = h.fields;
    choices = h.choices;
    share = h.share;
    share_is = h.share_is;
    stops = h.stops;
  };
  within = omega (arith, length-map h.hs turn_of, h.within);
  packets = λ before b. subst (λ (as_list : List Arrival). AreBefore (packets_of (sixes_in begun.sources) (files_in begun.sources) before) as_list full.stop.packet) (sym (same_arrivals h.hs)) (h.before_it before b);
  count = length-map h.hs turn_of ∙ h.count;
  wholes = wholes_of f workers card format h.hs h.state now files h.sharded.undivided h.left;
}

pub finished : (f : Function) (keys : Keys) (workers : ℕ) (card : Card) (format : CaptureFormat) (begun : Feeding) (start : Told) (feed : Feeding) (v : Sharded) (e : Ending) (now : Told) (files : List ℕ) (ran : ran_type.Ran) → (n : ℕ) → n ≡ length f.handlers → (h : EndsWith f keys workers begun start feed v e (AreWhole workers card format n now files))
    → ran.ending ≡ e → feed.given ≡ ran.packets → AreBy (shard_rule keys workers) f h.hs ran.state → IsFinished f keys workers card format begun start feed now files ran
finished f keys workers card format begun start feed v e now files ran n ports h same packets s = record {
  run = run_of f Shard workers card h.hs;
  is_run = is_shard_run f keys workers card h.hs ran.state s;
  within = omega (arith, length-map h.hs turn_of, h.within);
  packets = λ before b.
      let how = how_ended e feed before h.hs begun.most h.same_most (h.ending_is before b) in
      let by_file = subst (λ (fs : List ℕ). ((e ≡ ending.All) × AreAll (packets_of (sixes_in feed.sources) fs before) (map arrival_of h.hs)) ⊎ ((e ≡ ending.TooMany) × (length h.hs ≡ begun.most))) h.same_files how in
      let moved = subst (λ (bs : List Bool). ((e ≡ ending.All) × AreAll (packets_of bs (files_in begun.sources) before) (map arrival_of h.hs)) ⊎ ((e ≡ ending.TooMany) × (length h.hs ≡ begun.most))) h.same_six by_file in
      subst (AreTheFirst begun.most (packets_of (sixes_in begun.sources) (files_in begun.sources) before)) (sym (same_arrivals h.hs))
      (first_most e (packets_of (sixes_in begun.sources) (files_in begun.sources) before) (map arrival_of h.hs) (length h.hs) begun.most (h.first before b) h.within (length-map h.hs arrival_of) moved);
  ending = λ before b. subst (λ (x : Ending). EndsSo x feed before (map arrival_in (map turn_of h.hs))) (sym same) (ends_so e feed before h.hs (h.ending_is before b));
  same_files = h.same_files;
  same_six = h.same_six;
  same_most = h.same_most;
  count = length-map h.hs turn_of ∙ h.count ∙ packets;
  left = (map (λ (x : Handled). x.done) h.hs, ran_of f Shard workers card h.hs ran.state s.undivided);
  wholes = wholes_of f workers card format h.hs ran.state now files s.undivided (subst (λ (m : ℕ). AreWhole workers card format m now files h.hs) ports h.left);
}

-- ---- the same, of a function's ports as they are counted

pub counted : (func : Func) → length func.handlers ≡ length (function_of func).handlers
counted func = sym (length-map func.handlers blocks_of)

pub cut_short_at : (f : Function) (n : ℕ) (keys : Keys) (workers : ℕ) (card : Card) (format : CaptureFormat) (begun : Feeding) (start now : Told) (files : List ℕ) → n ≡ length f.handlers → Halts f keys workers card format n begun start now files → IsCutShort f keys workers card format begun start now files
cut_short_at f n keys workers card format begun start now files same h = cut_short f keys workers card format begun start now files (subst (λ (m : ℕ). Halts f keys workers card format m begun start now files) same h)

pub is_full_at : (f : Function) (n : ℕ) (keys : Keys) (workers : ℕ) (card : Card) (format : CaptureFormat) (begun : Feeding) (start now : Told) (files : List ℕ) (full : ShareFull) → n ≡ length f.handlers → StopsWith f keys workers begun start full.stop full.packets (AreWhole workers card format n now files)
    → IsFull f keys workers card format begun start now files full
is_full_at f n keys workers card format begun start now files full same h = is_full f keys workers card format begun start now files full (subst (λ (m : ℕ). StopsWith f keys workers begun start full.stop full.packets (AreWhole workers card format m now files)) same h)
