-- How calls go that a file may stop, one after another.
use Rattle.std.proofs.Common.{◌≡◌, ℕ, List, [], Option, Some, None, Result, Ok, Err, refl, sym, ap, subst, ◌∙◌}
use Rattle.std.specs.List.{slice_get}
use Rattle.nf_files.specs.Told.{Told, IsRead, IsWritten}
use Rattle.nf_files.specs.Causes.{Counted}
use Rattle.packet_feed.specs.Told.{EachFile, IsApart, KeepsOthers}
use Rattle.packet_feed.specs.Feeding.{Feeding}
use Rattle.packet_feed.specs.Sources.{files_in}
use Rattle.packet_feed.specs.Faults.{FaultedAt, IsCause}
use Rattle.packet_feed.specs.declared.fault.FeedFault.{FeedFault}
use Rattle.packet_feed.specs.declared.fault.FeedFault.TheVariants as feed
use Rattle.stream_run.specs.declared.fault.RunFault.{RunFault}
use Rattle.stream_run.specs.declared.fault.RunFault.TheVariants as fault
use Rattle.stream_run.specs.Streaming.{stop_on, stop_in}
use Rattle.stream_run.specs.Given.{ReadsFrom, AreWritable}
use Rattle.stream_run.specs.Writing.{KeepsAllBut, KeepsBut, IsStopCause, StopsAmong, WentOn}
use Rattle.stream_run.proofs.Held.{but_both, but_none, but_read, but_written, stops_wider, stops_reading}

-- files that were created are still written, by whichever name of theirs
pub still_created : (files now : List ℕ) (old new : Told) → KeepsBut files old new → now ≡ files → EachFile (IsWritten old) files → EachFile (IsWritten new) now
still_created files now old new kept same created = λ port file e. kept.kinds file ∙ created port file (ap (λ (fs : List ℕ). slice_get fs port) (sym same) ∙ e)

-- and files that were opened still read
pub still_opened : (files captures now : List ℕ) (old new : Told) → KeepsBut files old new → now ≡ captures → EachFile (IsRead old) captures → EachFile (IsRead new) now
still_opened files captures now old new kept same opened = λ port file e. kept.kinds file ∙ opened port file (ap (λ (fs : List ℕ). slice_get fs port) (sym same) ∙ e)

-- the same of all that is asked of files
pub still_writable : (files now : List ℕ) (old new : Told) → KeepsBut files old new → now ≡ files → AreWritable old files → AreWritable new now
still_writable files now old new kept same w = record { created = still_created files now old new kept same w.created; apart = subst IsApart (sym same) w.apart }

pub still_reads : (files captures : List ℕ) (begun feed : Feeding) (old new : Told) → KeepsBut files old new → files_in feed.sources ≡ captures → ReadsFrom captures begun old → ReadsFrom captures feed new
still_reads files captures begun feed old new kept same r = record { files = same; opened = still_opened files captures captures old new kept refl r.opened }

pub went_none : {T : Type 0} (captures files : List ℕ) (told : Told) (count : Counted) (t : T) → WentOn captures files told told count count (Ok t)
went_none captures files told count t = record { kept = but_none files told; cause = refl; among = tt }

-- a call that goes on, and another
pub went_both : {T U : Type 0} (captures files : List ℕ) (old now new : Told) (a b c : Counted) (t : T) (r : Result U RunFault) → WentOn {T = T} captures files old now a b (Ok t) → WentOn captures files now new b c r → WentOn captures files old new a c r
went_both captures files old now new a b c t r h k = record {
  kept = but_both files old now new h.kept k.kept;
  cause = subst (λ (n : Counted). IsStopCause n c r) h.cause k.cause;
  among = k.among;
}

-- the same of a result of another type
pub went_ok : {T U : Type 0} (captures files : List ℕ) (old new : Told) (a b : Counted) (t : T) (u : U) → WentOn {T = T} captures files old new a b (Ok t) → WentOn {T = U} captures files old new a b (Ok u)
went_ok captures files old new a b t u h = record { kept = h.kept; cause = h.cause; among = tt }

pub went_err : {T U : Type 0} (captures files : List ℕ) (old new : Told) (a b : Counted) (stop : RunFault) → WentOn {T = T} captures files old new a b (Err stop) → WentOn {T = U} captures files old new a b (Err stop)
went_err captures files old new a b (fault.File file) h = record { kept = h.kept; cause = h.cause; among = h.among }
went_err captures files old new a b fault.Memory h = record { kept = h.kept; cause = h.cause; among = tt }

-- want of memory behind a call that went on
pub went_memory : {T U : Type 0} (captures files : List ℕ) (old new : Told) (a b : Counted) (t : T) (stop : RunFault) → stop ≡ fault.Memory → WentOn {T = T} captures files old new a b (Ok t) → WentOn {T = U} captures files old new a b (Err stop)
went_memory {T} {U} captures files old new a b t stop is h =
    let none : WentOn {T = U} captures files old new a b (Err fault.Memory) = record { kept = h.kept; cause = h.cause; among = tt } in
    subst (λ (s : RunFault). WentOn {T = U} captures files old new a b (Err s)) (sym is) none

-- where the files are known by another list
pub went_then : {T U : Type 0} (captures files all : List ℕ) (old now new : Told) (a b c : Counted) (t : T) (r : Result U RunFault) → all ≡ files → WentOn {T = T} captures files old now a b (Ok t) → WentOn captures all now new b c r → WentOn captures files old new a c r
went_then captures files all old now new a b c t r same h k = went_both captures files old now new a b c t r h (subst (λ (fs : List ℕ). WentOn captures fs now new b c r) same k)

cause_as : (T U : Type 0) (a b : Counted) (stop : RunFault) → IsStopCause {T = T} a b (Err stop) → IsStopCause {T = U} a b (Err stop)
cause_as T U a b (fault.File file) h = h
cause_as T U a b fault.Memory h = h

-- a fault of the files that are written, where captures are read too
pub went_wider : {T U : Type 0} (captures files : List ℕ) (old new : Told) (a b : Counted) (stop : RunFault) → WentOn {T = T} [] files old new a b (Err stop) → WentOn {T = U} captures files old new a b (Err stop)
went_wider {T} {U} captures files old new a b stop h = record { kept = h.kept; cause = cause_as T U a b stop h.cause; among = stops_wider T U captures files files stop refl h.among }

-- ---- files are written

pub went_written : {T : Type 0} (captures files all : List ℕ) (old new : Told) (a b : Counted) (t : T) → all ≡ files → KeepsAllBut all old new → b ≡ a → WentOn captures files old new a b (Ok t)
went_written captures files all old new a b t same kept cause = record { kept = but_written files all old new same kept; cause = cause; among = tt }

pub unwritten : (T : Type 0) {U : Type 0} (captures files all : List ℕ) (old new : Told) (a b : Counted) (stop : RunFault) → all ≡ files → KeepsAllBut all old new → IsStopCause {T = T} a b (Err stop) → StopsAmong {T = T} [] all (Err stop) → WentOn {T = U} captures files old new a b (Err stop)
unwritten T {U} captures files all old new a b stop same kept cause among = record { kept = but_written files all old new same kept; cause = cause_as T U a b stop cause; among = stops_wider T U captures files all stop same among }

-- ---- captures are read

pub went_read : {T : Type 0} (captures files all : List ℕ) (old new : Told) (a b : Counted) (t : T) → KeepsOthers all old new → b ≡ a → WentOn captures files old new a b (Ok t)
went_read captures files all old new a b t kept cause = record { kept = but_read files all old new kept; cause = cause; among = tt }

faulted_on : (T : Type 0) (a b : Counted) (o : Option ℕ) → FaultedAt a b o → IsStopCause {T = T} a b (Err (stop_on o))
faulted_on T a b None h = absurd h
faulted_on T a b (Some file) h = h

cause_reading : (T U : Type 0) (a b : Counted) (captures : List ℕ) (f : FeedFault) → IsCause {T = T} a b captures (Err f) → IsStopCause {T = U} a b (Err (stop_in captures f))
cause_reading T U a b captures (feed.NotCapture port) h = h
cause_reading T U a b captures (feed.File port) h = faulted_on U a b (slice_get captures port) h
cause_reading T U a b captures feed.Memory h = h

pub unread : (T : Type 0) {U : Type 0} (captures files all : List ℕ) (old new : Told) (a b : Counted) (f : FeedFault) (stop : RunFault) → all ≡ captures → stop ≡ stop_in captures f → KeepsOthers all old new → IsCause {T = T} a b all (Err f) → WentOn {T = U} captures files old new a b (Err stop)
unread T {U} captures files all old new a b f stop same is kept cause =
    let here : IsCause {T = T} a b captures (Err f) = subst (λ (fs : List ℕ). IsCause {T = T} a b fs (Err f)) same cause in
    let went : WentOn {T = U} captures files old new a b (Err (stop_in captures f)) = record {
      kept = but_read files all old new kept;
      cause = cause_reading T U a b captures f here;
      among = stops_reading U captures files f;
    } in
    subst (λ (s : RunFault). WentOn {T = U} captures files old new a b (Err s)) (sym is) went
