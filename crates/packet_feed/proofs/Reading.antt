-- The next packet of one capture is read.
use Rattle.std.proofs.Common.{◌≡◌, ℕ, Bool, true, false, List, [], ◌∷◌, map, Option, Some, None, Result, Ok, Err, refl, ap, ◌∙◌}
use Rattle.std.specs.Option.{option_map}
use Rattle.std.specs.Result.{IsErr}
use Rattle.pcap_file.specs.declared.form.TimeUnit.{TimeUnit}
use Rattle.pcap_file.specs.declared.head.Head.{Head}
use Rattle.pcap_file.specs.declared.reader.Next.{Next as NextRecord}
use Rattle.pcap_file.specs.declared.reader.Next.TheVariants as next
use Rattle.pcapng_file.specs.declared.reader.Next.{Next}
use Rattle.pcapng_file.specs.declared.reader.Next.TheVariants.{Frame, Other, End, Torn}
use Rattle.pcapng_file.specs.Reading as blocks
use Rattle.pcap_file.specs.Record.{Record, head_of}
use Rattle.pcap_file.specs.Capture.{Capture}
use Rattle.pcap_file.specs.Reading as pcap
use Rattle.pcap_file.specs.Taken as pcap_taken
use Rattle.pcap_file.specs.declared.fault.CapFault.{CapFault}
use Rattle.pcapng_file.specs.Heard.{Heard, Stream as Contents, behind, heard_in, stream_of, head_of as heard_head}
use Rattle.packet_feed.specs.Captures.{next_of, packet_read, IsNext, IsOver, Steps, Moves, TakesRecord}

is_packet : (unit : TimeUnit) (r : Record) (head : Head) (frame : List ℕ) → head ≡ head_of unit r → frame ≡ r.frame → heard_in unit r ≡ packet_read true head frame
is_packet unit r head frame e f = rw (e, f) refl

next_pcap : (before after : Capture) (frame : List ℕ) (head : Head) → pcap.IsNext before after frame head → IsNext (Some (stream_of before)) (Some (stream_of after)) (packet_read true head frame)
next_pcap before after frame head h =
    let told = h.head_is ∙ ap (λ (c : Capture). head_of c.form.unit h.next) h.first in
    ap stream_of h.first
    ∙ ap (λ p. let c : Contents = record { heard = p ∷ map (heard_in after.form.unit) after.records; torn = after.torn } in c) (is_packet after.form.unit h.next head frame told h.frame_is)

over_pcap : (before : Capture) (torn : Option ℕ) → before.records ≡ [] → before.torn ≡ torn → IsOver (Some (stream_of before)) torn
over_pcap before torn none at =
    ap (λ rs. let c : Contents = record { heard = map (heard_in before.form.unit) rs; torn = before.torn } in c) none
    ∙ ap (λ t. let c : Contents = record { heard = []; torn = t } in c) at

pub steps_pcap : (x y : Option Capture) (frame : List ℕ) (n : NextRecord) → pcap.Steps x y frame (Ok n) → Steps (option_map stream_of x) (option_map stream_of y) frame (Ok (next_of n))
steps_pcap None y frame (next.Frame head) h = tt
steps_pcap None y frame next.End h = tt
steps_pcap None y frame (next.Torn offset) h = tt
steps_pcap (Some x) None frame n h = absurd h
steps_pcap (Some x) (Some y) frame (next.Frame head) h = next_pcap x y frame head h
steps_pcap (Some x) (Some y) frame next.End h = over_pcap x None h.0 h.1
steps_pcap (Some x) (Some y) frame (next.Torn offset) h = over_pcap x (Some offset) h.0 h.1

pub steps_err : (x y : Option Contents) (frame : List ℕ) (result : Result Next CapFault) → IsErr result → Steps x y frame result
steps_err x y frame (Ok next) is = absurd cc
steps_err x y frame (Err fault) is = tt

pub takes_err : (old new : Option (List ℕ)) (frame : List ℕ) (result : Result Next CapFault) → IsErr result → TakesRecord old new frame result
takes_err old new frame (Ok next) is = absurd cc
takes_err old new frame (Err fault) is = tt

pub takes_pcap : (old new : Option (List ℕ)) (frame : List ℕ) (n : NextRecord) → pcap_taken.TakesRecord old new frame (Ok n) → TakesRecord old new frame (Ok (next_of n))
takes_pcap old new frame (next.Frame head) h = h
takes_pcap old new frame next.End h = h
takes_pcap old new frame (next.Torn offset) h = h

-- ---- of a pcapng capture

is_read : (h : Heard) (b : Bool) (head : Head) (frame : List ℕ) → h.is_ethernet ≡ b → frame ≡ h.frame → head ≡ heard_head h → h ≡ packet_read b head frame
is_read h b head frame kind f e = rw (e, f, ← kind) refl

next_block : (b : Bool) (before after : Contents) (frame : List ℕ) (head : Head) → blocks.IsNext b before after frame head → IsNext (Some before) (Some after) (packet_read b head frame)
next_block b before after frame head h = h.first ∙ ap (λ (p : Heard). behind (p ∷ []) after) (is_read h.next b head frame h.kind h.frame_is h.head_is)

pub steps_blocks : (x y : Option Contents) (frame : List ℕ) (r : Result Next CapFault) → blocks.Steps x y frame r → Steps x y frame r
steps_blocks x y frame (Err fault) h = tt
steps_blocks None y frame (Ok (Frame head)) h = tt
steps_blocks None y frame (Ok (Other head)) h = tt
steps_blocks None y frame (Ok End) h = tt
steps_blocks None y frame (Ok (Torn offset)) h = tt
steps_blocks (Some x) None frame (Ok next) h = absurd h
steps_blocks (Some x) (Some y) frame (Ok (Frame head)) h = next_block true x y frame head h
steps_blocks (Some x) (Some y) frame (Ok (Other head)) h = next_block false x y frame head h
steps_blocks (Some x) (Some y) frame (Ok End) h = h
steps_blocks (Some x) (Some y) frame (Ok (Torn offset)) h = h

pub moves_blocks : (old new : blocks.Reading) (old_frame frame : List ℕ) (r : Result Next CapFault) → blocks.Moves old new old_frame frame r → Moves old_frame frame r
moves_blocks old new old_frame frame (Err fault) h = tt
moves_blocks old new old_frame frame (Ok (Frame head)) h = record { time = h.time_most; captured = h.captured_most }
moves_blocks old new old_frame frame (Ok (Other head)) h = record { time = h.time_most; captured = h.captured_most }
moves_blocks old new old_frame frame (Ok End) h = h.0
moves_blocks old new old_frame frame (Ok (Torn offset)) h = h.0
