-- How a run of the packets of captures ends.
use Rattle.std.proofs.Common.{◌≡◌, ℕ, zero, suc, ◌+◌, ◌<◌, List, [], ◌∷◌, length, Option, Some, None, slice_get, refl, ap, sym, subst, ◌∙◌, arith}
use Rattle.std.proofs.lemmas.Option.{slice_get_within}
use Rattle.nf_base.specs.Functions.{function_of}
use Rattle.packet_feed.specs.Arrivals.{Arrival}
use Rattle.packet_feed.specs.Told.{IsTear}
use Rattle.packet_feed.specs.Streams.{Stream, tear_in}
use Rattle.packet_feed.specs.Sources.{files_in, sixes_in}
use Rattle.packet_feed.specs.Feeding.{Feeding, AreAll, AreTorn, HasMore, first_tear, tears_in}
use Rattle.stream_run.specs.Runs.{Run}
use Rattle.stream_run.specs.Lawful.{EndsSo}
use Rattle.stream_run.specs.declared.ending.Ending.{Ending}
use Rattle.stream_run.specs.declared.ending.Ending.TheVariants as ending
use Rattle.call_base.specs.Captures.{packets_under}
use Rattle.call_base.specs.Outside.{Outside}
use Rattle.call_base.proofs.Reading.{got_at, below_names, stream_at, file_in, packets_fed}
use Rattle.run_call.specs.declared.job.Job.{Job}
use Rattle.run_call.specs.Runs.{IsEndOf}
use Rattle.run_call.specs.Progress.{HasFed, asked, reads_of, end_of, torn_end}

-- no capture is torn, or this is the first that is, from a place on
abbrev pub TearAt : ℕ → List Stream → Option (ℕ × ℕ) → Type 0
TearAt port sources None = (p : ℕ) (s : Stream) → slice_get sources p ≡ Some s → tear_in s.ahead ≡ None
TearAt port sources (Some t) =
    (k : ℕ) × (t.0 ≡ port + k) × ((x : Stream) × (slice_get sources k ≡ Some x) × (tear_in x.ahead ≡ Some t.1))
    × ((p : ℕ) (s : Stream) → p < k → slice_get sources p ≡ Some s → tear_in s.ahead ≡ None)

here_none : (s : Stream) (sources : List Stream) (p : ℕ) (x : Stream) → tear_in s.ahead ≡ None → ((q : ℕ) (y : Stream) → slice_get sources q ≡ Some y → tear_in y.ahead ≡ None) → slice_get (s ∷ sources) p ≡ Some x → tear_in x.ahead ≡ None
here_none s sources zero x none h e = let same : s ≡ x = cc e in subst (λ (y : Stream). tear_in y.ahead ≡ None) same none
here_none s sources (suc p) x none h e = h p x e

here_lesser : (s : Stream) (sources : List Stream) (k p : ℕ) (x : Stream) → tear_in s.ahead ≡ None → ((q : ℕ) (y : Stream) → q < k → slice_get sources q ≡ Some y → tear_in y.ahead ≡ None) → p < k + 1 → slice_get (s ∷ sources) p ≡ Some x → tear_in x.ahead ≡ None
here_lesser s sources k zero x none h lt e = let same : s ≡ x = cc e in subst (λ (y : Stream). tear_in y.ahead ≡ None) same none
here_lesser s sources k (suc p) x none h lt e = h p x (omega (arith, lt)) e

-- a capture that isn't torn, in front of others
tear_behind : (port : ℕ) (s : Stream) (sources : List Stream) (found : Option (ℕ × ℕ)) → tear_in s.ahead ≡ None → TearAt (port + 1) sources found → TearAt port (s ∷ sources) found
tear_behind port s sources None none h = λ p x e. here_none s sources p x none h e
tear_behind port s sources (Some t) none h =
    (h.0 + 1, omega (arith, h.1), (h.2.0, later s sources h.0 h.2.0 h.2.1, h.2.2), λ p x lt e. here_lesser s sources h.0 p x none h.3 lt e)
  where
    later : (s : Stream) (sources : List Stream) (k : ℕ) (x : Stream) → slice_get sources k ≡ Some x → slice_get (s ∷ sources) (k + 1) ≡ Some x
    later s sources k x e = let more : k + 1 ≡ suc k = omega arith in rw more e

pub tear_first : (port : ℕ) (sources : List Stream) → TearAt port sources (first_tear port (tears_in sources))
tear_first port [] = λ p s q. absurd (cc q)
tear_first port (s ∷ sources) = by_head port s sources (tear_in s.ahead) refl (tear_first (port + 1) sources)
  where
    by_head : (port : ℕ) (s : Stream) (sources : List Stream) (o : Option ℕ) → tear_in s.ahead ≡ o → TearAt (port + 1) sources (first_tear (port + 1) (tears_in sources)) → TearAt port (s ∷ sources) (first_tear port (o ∷ tears_in sources))
    by_head port s sources None is h = tear_behind port s sources (first_tear (port + 1) (tears_in sources)) is h
    by_head port s sources (Some offset) is h = (0, omega arith, (s, refl, is), λ p x lt e. absurd (omega (arith, lt)))

-- the same of what stood under the captures' names
tears_told : (before now : Outside) (job : Job) (captures : List ℕ) (feed next : Feeding) (packets : List Arrival) (tear : Option (ℕ × ℕ)) (run : Run) → (h : HasFed before now job captures feed) → files_in next.sources ≡ captures → AreTorn h.old.told next.sources → TearAt 0 next.sources tear
    → AreAll (packets_under run.function (asked job).captures before.told) packets → IsEndOf (asked job) before.told packets run (torn_end tear)
tears_told before now job captures feed next packets None run h files torn at all =
    let c = reads_of (asked job) in (
      all,
      below_names (λ bytes. IsTear bytes (Some None)) c before h.old captures (length c.captures) h.opened (λ p f lt e.
          let s = stream_at next.sources p f (ap (λ (fs : List ℕ). slice_get fs p) files ∙ e) in
          subst (λ (g : ℕ). IsTear (h.old.told.rest g) (Some None)) s.2 (subst (λ (o : Option ℕ). IsTear (h.old.told.rest s.0.reading.file) (Some o)) (at p s.0 s.1) (torn p s.0 s.1))),
    )
tears_told before now job captures feed next packets (Some t) run h files torn at all =
    let c = reads_of (asked job) in
    let k = at.0 in
    let port : t.0 ≡ k = omega (arith, at.1) in
    let file = ap (λ (fs : List ℕ). slice_get fs k) (sym files) ∙ file_in next.sources k at.2.0 at.2.1 in
    let name = got_at c.captures k (omega (arith, slice_get_within captures k at.2.0.reading.file file, h.opened.all)) in (
      all,
      record {
        name = name.0;
        at = ap (slice_get c.captures) port ∙ name.1;
        torn = subst (λ o. IsTear o (Some (Some t.1))) (h.opened.rests k at.2.0.reading.file name.0 file name.1)
            (subst (λ (o : Option ℕ). IsTear (h.old.told.rest at.2.0.reading.file) (Some o)) at.2.2 (torn k at.2.0 at.2.1));
        lesser = below_names (λ bytes. IsTear bytes (Some None)) c before h.old captures t.0 h.opened (λ p f lt e.
            let s = stream_at next.sources p f (ap (λ (fs : List ℕ). slice_get fs p) files ∙ e) in
            subst (λ (g : ℕ). IsTear (h.old.told.rest g) (Some None)) s.2 (subst (λ (o : Option ℕ). IsTear (h.old.told.rest s.0.reading.file) (Some o)) (at.3 p s.0 (omega (arith, lt, port)) s.1) (torn p s.0 s.1)));
      },
    )

pub ends_as : (before now : Outside) (job : Job) (captures : List ℕ) (feed next : Feeding) (e : Ending) (arrivals : List Arrival) (run : Run) → run.function ≡ function_of job.func.now → (h : HasFed before now job captures feed) → files_in next.sources ≡ files_in feed.sources → sixes_in next.sources ≡ sixes_in feed.sources → next.most ≡ feed.most → EndsSo e next h.old.told arrivals → IsEndOf (asked job) before.told arrivals run (end_of (asked job).most e (first_tear 0 (tears_in next.sources)))
ends_as before now job captures feed next ending.All arrivals run is h files six most ends =
    tears_told before now job captures feed next arrivals (first_tear 0 (tears_in next.sources)) run h (files ∙ h.fresh.files) ends.1 (tear_first 0 next.sources)
    (subst (λ (all : Option (List Arrival)). AreAll all arrivals) (packets_fed run.function next h is files six) ends.0)
ends_as before now job captures feed next ending.TooMany arrivals run is h files six most ends =
    let long : length arrivals ≡ (asked job).most = ends.0 ∙ most ∙ h.fresh.most in (
      refl,
      long,
      subst (λ (n : ℕ). HasMore (packets_under run.function (asked job).captures before.told) n) long
          (subst (λ (all : Option (List Arrival)). HasMore all (length arrivals)) (packets_fed run.function next h is files six) ends.1),
    )
