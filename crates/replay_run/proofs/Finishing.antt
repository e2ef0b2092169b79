-- How a replay ends, once all lines were read.
use Rattle.std.proofs.Common.{◌≡◌, ℕ, zero, suc, ◌<◌, ◌≤◌, List, [], ◌∷◌, length, Option, Some, Result, Ok, Err, refl, sym, ap, subst, arith}
use Rattle.std.specs.List.{slice_get}
use Rattle.std.specs.Option.{option_and_then}
use Rattle.std.proofs.lemmas.Option.{slice_get_within}
use Rattle.capture_format.specs.declared.format.CaptureFormat.{CaptureFormat}
use Rattle.nf_base.specs.declared.keys.Keys.{Keys}
use Rattle.nf_base.specs.declared.state.State.{State}
use Rattle.nf_base.specs.Text.{Function}
use Rattle.nf_files.specs.Told.{Told, IsToldAs}
use Rattle.packet_feed.specs.Feeding.{Feeding}
use Rattle.run_history.specs.Headings.{Heading}
use Rattle.file_match.specs.Comparing.{Comparing, IsOtherIfTold}
use Rattle.replay_run.specs.Outputs.{AreToldBelow, IsLeastOther}
use Rattle.journal_read.specs.Journals.{Reading}
use Rattle.stream_run.specs.declared.fault.RunFault.{RunFault}
use Rattle.replay_run.specs.Replaying.{RunKind, IsRun, IsJournal, Replays, Finishes, AreSent, IsLeastUnsent, sent}
use Rattle.replay_run.specs.Turns.{Begins, Reads, IsOver, rest_at, beside_of}
use Rattle.replay_run.specs.declared.lines.End.{End}
use Rattle.replay_run.specs.declared.result.ReplayResult.{ReplayResult}
use Rattle.replay_run.specs.declared.result.ReplayResult.TheVariants.{Same, TooMany, Line, Output}

-- what reading lines comes to, by another name of the first line and of the outputs
pub read_as : (format : CaptureFormat) (f : Function) (keys : Keys) (one header : Heading) (ports : ℕ) (feed : Feeding) (journal : Reading) (outs outputs : List ℕ) (old mid : Told) (most : ℕ) (found : List Comparing) (state : State) (r : Result End RunFault) → one ≡ header → outs ≡ outputs
    → ((start : Told) (bytes : Option (List ℕ)) → Begins one feed journal start bytes old → Reads (IsRun f keys one) one ports (beside_of format feed start bytes outs old most) old.rest mid found state r)
    → (start : Told) (bytes : Option (List ℕ)) → Begins header feed journal start bytes old → Reads (IsRun f keys header) header ports (beside_of format feed start bytes outputs old most) old.rest mid found state r
read_as format f keys one header ports feed journal outs outputs old mid most found state r heading files h =
    subst (λ (x : Heading). (start : Told) (bytes : Option (List ℕ)) → Begins x feed journal start bytes old → Reads (IsRun f keys x) x ports (beside_of format feed start bytes outputs old most) old.rest mid found state r) heading
    (subst (λ (fs : List ℕ). (start : Told) (bytes : Option (List ℕ)) → Begins one feed journal start bytes old → Reads (IsRun f keys one) one ports (beside_of format feed start bytes fs old most) old.rest mid found state r) files h)

file_there : (files : List ℕ) (k : ℕ) → k < length files → (file : ℕ) × (slice_get files k ≡ Some file)
file_there [] k lt = absurd (omega (arith, lt))
file_there (file ∷ files) zero lt = (file, refl)
file_there (file ∷ files) (suc k) lt = file_there files k (omega (arith, lt))

-- what is left of a file, by its place
pub rest_is : (now : Told) (files : List ℕ) (k file : ℕ) → slice_get files k ≡ Some file → rest_at now files k ≡ now.rest file
rest_is now files k file at = ap (option_and_then (λ (f : ℕ). now.rest f)) at

-- it is the same, where each file's rest is
pub rests_same : (old mid : Told) (files : List ℕ) (port : ℕ) → ((k file : ℕ) → slice_get files k ≡ Some file → mid.rest file ≡ old.rest file) → rest_at old files port ≡ rest_at mid files port
rests_same old mid [] port same = refl
rests_same old mid (file ∷ files) zero same = sym (same 0 file refl)
rests_same old mid (file ∷ files) (suc k) same = rests_same old mid files k (λ j f at. same (suc j) f at)

are_sent : (bytes : ℕ → List ℕ) (now : Told) (files : List ℕ) (ports : ℕ) → ports ≤ length files → AreToldBelow ports bytes now.rest files → AreSent bytes (rest_at now files) ports
are_sent bytes now files ports few told port lt =
    let there = file_there files port (omega (arith, lt, few)) in
    subst (IsToldAs (bytes port)) (sym (rest_is now files port there.0 there.1)) (told port there.0 lt there.1)

least_unsent : (bytes : ℕ → List ℕ) (now : Told) (files : List ℕ) (ports port : ℕ) → ports ≡ length files → IsLeastOther bytes now.rest files port → IsLeastUnsent bytes (rest_at now files) ports port
least_unsent bytes now files ports port same h =
    let inside : port < length files = slice_get_within files port h.file h.at in
    record {
      inside = omega (arith, inside, same);
      other = subst (IsOtherIfTold (bytes port)) (sym (rest_is now files port h.file h.at)) h.other;
      lesser = are_sent bytes now files port (omega (arith, inside)) h.lesser;
    }

pub finished : (Run : RunKind) (heading : Heading) (format : CaptureFormat) (ports : ℕ) (feed : Feeding) (start : Told) (bytes : Option (List ℕ)) (files : List ℕ) (old : Told) (most : ℕ) (now : Told) (found : List Comparing) (state : State) (r : Result ReplayResult RunFault) → ports ≡ length files
    → (o : IsOver Run heading ports (beside_of format feed start bytes files old most) old.rest now found state) → Finishes (sent format heading ports o.hs) old.rest files state r → Replays Run heading ports (beside_of format feed start bytes files old most) r
finished Run heading format ports feed start bytes files old most now found state (Ok (Same left)) same o fin = record {
  hs = o.hs;
  journal_is = subst (IsJournal Run heading (beside_of format feed start bytes files old most) o.hs) (sym fin.0) o.journal_is;
  outputs_are = are_sent (sent format heading ports o.hs) old files ports (omega (arith, same)) (λ k file lt at. fin.1 k file at);
}
finished Run heading format ports feed start bytes files old most now found state (Ok TooMany) same o fin = absurd fin
finished Run heading format ports feed start bytes files old most now found state (Ok (Line line)) same o fin = absurd fin
finished Run heading format ports feed start bytes files old most now found state (Ok (Output port)) same o fin = record {
  hs = o.hs;
  state = state;
  journal_is = o.journal_is;
  other = least_unsent (sent format heading ports o.hs) old files ports port same fin;
}
finished Run heading format ports feed start bytes files old most now found state (Err e) same o fin = tt
