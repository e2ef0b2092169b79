-- Captures whose packets are told have right headers.
use Rattle.std.proofs.Common.{◌≡◌, ℕ, zero, suc, ◌+◌, Bool, List, [], ◌∷◌, Option, Some, None, Err, slice_get, option_map, refl, sym, ap, ◌∙◌, subst}
use Rattle.nf_base.specs.Doors.{six_at}
use Rattle.nf_files.specs.Told.{Told}
use Rattle.packet_feed.specs.Arrivals.{Arrival, arrivals_in}
use Rattle.packet_feed.specs.Told.{both, gathered, packets_in, packets_of, IsNoCapture}
use Rattle.packet_feed.specs.Sources.{IsLeastBad}
use Rattle.packet_feed.specs.Feeding.{Starts}
use Rattle.packet_feed.specs.Faults.{IsReadFault}
use Rattle.packet_feed.specs.declared.fault.FeedFault.{FeedFault}
use Rattle.packet_feed.specs.declared.fault.FeedFault.TheVariants.{NotCapture, File, Memory}
use Rattle.traffic_run.specs.Runs.{ArePackets}

both_none : (t : Option (List Arrival)) → both t None ≡ None
both_none None = refl
both_none (Some xs) = refl

-- bytes that are no capture tell no packets
no_packets : (six : Bool) (port : ℕ) (rest : Option (List ℕ)) → IsNoCapture rest → packets_in six port rest ≡ None
no_packets six port None none = refl
no_packets six port (Some bytes) none = ap (option_map (arrivals_in six port)) none

bad_at : (six : List Bool) (told : Told) (place k : ℕ) (files : List ℕ) (file : ℕ) → slice_get files k ≡ Some file → IsNoCapture (told.rest file) → gathered (λ (port f : ℕ). packets_in (six_at six port) port (told.rest f)) place files ≡ None
bad_at six told place k [] file at none = absurd (cc at)
bad_at six told place zero (f ∷ fs) file at none =
    let same : f ≡ file = cc at in
    ap (λ (t : Option (List Arrival)). both t (gathered (λ (port g : ℕ). packets_in (six_at six port) port (told.rest g)) (place + 1) fs)) (no_packets (six_at six place) place (told.rest f) (subst (λ (g : ℕ). IsNoCapture (told.rest g)) (sym same) none))
bad_at six told place (suc k) (f ∷ fs) file at none =
    ap (both (packets_in (six_at six place) place (told.rest f))) (bad_at six told (place + 1) k fs file at none) ∙ both_none (packets_in (six_at six place) place (told.rest f))

none_bad : (six : List Bool) (files : List ℕ) (told : Told) (port : ℕ) (all : List Arrival) → packets_of six files told ≡ Some all → IsLeastBad files told port → ⊥
none_bad six files told port all is bad = let none : None ≡ Some all = sym (bad_at six told 0 port files bad.file bad.at bad.none) ∙ is in cc

-- so a feed of them doesn't say that one is none
pub read_fault : (six : List Bool) (files : List ℕ) (start now : Told) (most : ℕ) (arrivals : List Arrival) (fault : FeedFault) → ArePackets six files start arrivals → Starts files six most start now (Err fault) → IsReadFault fault
read_fault six files start now most arrivals (NotCapture port) made starts = absurd (none_bad six files start port made.all made.packets starts)
read_fault six files start now most arrivals (File port) made starts = tt
read_fault six files start now most arrivals Memory made starts = tt
