-- For each packet that is given its port has a handler, or it is skipped.
use Rattle.std.proofs.Common.{◌≡◌, ℕ, ◌+◌, ◌<◌, Bool, List, [], ◌∷◌, length, max, Option, Some, None, refl, sym, ap, ◌∙◌, arith}
use Rattle.std.specs.List.{AllByRecursion}
use Rattle.std.specs.Option.{option_map}
use Rattle.std.proofs.lemmas.List.{length-map}
use Rattle.std.proofs.lemmas.Option.{slice_get_within}
use Rattle.nf_base.specs.declared.func.Func.{Func}
use Rattle.nf_base.specs.declared.packet.Packet.{Packet}
use Rattle.nf_base.specs.Text.{Function}
use Rattle.nf_base.specs.Handlers.{blocks_of}
use Rattle.nf_base.specs.Functions.{function_of}
use Rattle.nf_base.specs.Doors.{six_ports, six_at, served_fields, IsServed}
use Rattle.nf_base.proofs.Served.{seen_is_served}
use Rattle.nf_files.specs.Told.{Told}
use Rattle.pcapng_file.specs.Heard.{Heard, Stream as Contents}
use Rattle.packet_feed.specs.Contents.{contents_of}
use Rattle.packet_feed.specs.Arrivals.{Arrival, arrival_of, arrivals_from, arrivals_in, fields_captured}
use Rattle.packet_feed.specs.Told.{packets_in, packets_of}
use Rattle.packet_feed.specs.Streams.{Stream}
use Rattle.packet_feed.specs.Sources.{files_in, sixes_in}
use Rattle.packet_feed.specs.Feeding.{Feeding, IsShown, frame_of, original_of, is_ethernet_of}
use Rattle.packet_feed.proofs.Gathering.{AllIn, gathered_all}

-- the packet that was given last, of captures of which each is of a port of a function
pub shown_served : (func : Func) (packet : Packet) (v : Feeding) → IsShown packet v → sixes_in v.sources ≡ six_ports (function_of func) → length (files_in v.sources) ≡ length func.handlers → IsServed (function_of func) packet
shown_served func packet v h same as_many =
    let f = function_of func in
    let raw = fields_captured (is_ethernet_of v) (frame_of v) (original_of v) in
    let inside : packet.id.port < length f.handlers = omega (arith, h.port, h.inside, as_many, length-map v.sources (λ (s : Stream). s.reading.file), length-map func.handlers blocks_of) in
    let by_function = ap (λ (bs : List Bool). served_fields (six_at bs v.shown) raw) same in
    let by_port = ap (λ (port : ℕ). served_fields (six_at (six_ports f) port) raw) (sym h.port) in
    seen_is_served f packet raw inside (h.fields ∙ by_function ∙ by_port)

-- ---- all packets of captures

one_served : (f : Function) (port seq time : ℕ) (is_ethernet : Bool) (original : ℕ) (frame : List ℕ) → port < length f.handlers → IsServed f (arrival_of (six_at (six_ports f) port) port seq time is_ethernet original frame).packet
unfolding arrival_of
one_served f port seq time is_ethernet original frame lt =
    seen_is_served f (arrival_of (six_at (six_ports f) port) port seq time is_ethernet original frame).packet (fields_captured is_ethernet frame original) lt refl

served_from : (f : Function) (port seq latest : ℕ) (ps : List Heard) → port < length f.handlers → AllByRecursion (λ (a : Arrival). IsServed f a.packet) (arrivals_from (six_at (six_ports f) port) port seq latest ps)
served_from f port seq latest [] lt = tt
served_from f port seq latest (p ∷ ps) lt =
    let time = max latest p.time in
    (one_served f port seq time p.is_ethernet p.original p.frame lt, served_from f port (seq + 1) time ps lt)

served_of : (f : Function) (port : ℕ) (c : Option Contents) → port < length f.handlers
    → AllIn (λ (a : Arrival). IsServed f a.packet) (option_map (arrivals_in (six_at (six_ports f) port) port) c)
served_of f port None lt = tt
served_of f port (Some c) lt = served_from f port 0 0 c.heard lt

served_in : (f : Function) (port : ℕ) (bytes : Option (List ℕ)) → port < length f.handlers → AllIn (λ (a : Arrival). IsServed f a.packet) (packets_in (six_at (six_ports f) port) port bytes)
served_in f port None lt = tt
served_in f port (Some bytes) lt = served_of f port (contents_of bytes) lt

-- of captures, one for each port of a function
pub all_served : (f : Function) (files : List ℕ) (told : Told) → length files ≡ length f.handlers → AllIn (λ (a : Arrival). IsServed f a.packet) (packets_of (six_ports f) files told)
all_served f files told ports =
    gathered_all (λ (a : Arrival). IsServed f a.packet) (λ port file. packets_in (six_at (six_ports f) port) port (told.rest file)) files
    (λ (j file : ℕ) e. served_in f j (told.rest file) (omega (arith, ports, slice_get_within files j file e)))
