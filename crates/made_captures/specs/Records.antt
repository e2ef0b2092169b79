-- The records of made-up traffic, and the captures of them: one a port, of the packets that come in there.
use Rattle.std.specs.Prelude.{◌≡◌, ℕ, ◌-◌, ◌==◌, List, [], ◌∷◌, map, filter, length, Option, Some, None}
use Rattle.std.specs.List.{flat_map}
use Rattle.nf_base.specs.declared.packet.Packet.{Packet}
use Rattle.pcap_file.specs.Record.{Record, record_at}
use Rattle.pcap_file.specs.Spelled.{written_bytes, capture_bytes}
use Rattle.gen_traffic.specs.Traffic.{Recipe, Giving, sent_from, traffic}

-- the record of a packet with its frame, of which all bytes were captured
abbrev pub record_of : Packet × List ℕ → Record
record_of sent = record_at sent.0.time (length sent.1) sent.1

-- those that come in at a port
abbrev pub at_port : ℕ → List (Packet × List ℕ) → List (Packet × List ℕ)
at_port port sents = filter (λ (s : Packet × List ℕ). s.0.id.port == port) sents

-- the packets that are still to be given
abbrev pub sent_left : Giving → List (Packet × List ℕ)
sent_left g = sent_from g.recipe g.given (g.recipe.count - g.given)

-- the packet that comes in next at a port, where one does
abbrev pub IsNextAt : ℕ → Giving → Giving → Option (Packet × List ℕ) → Type 0
IsNextAt port old new None = (at_port port (sent_left old) ≡ []) × (at_port port (sent_left new) ≡ [])
IsNextAt port old new (Some sent) = at_port port (sent_left old) ≡ sent ∷ at_port port (sent_left new)

-- the bytes of the records of the packets that are still to come in at a port
abbrev pub bytes_left : ℕ → Giving → List ℕ
bytes_left port g = flat_map written_bytes (map record_of (at_port port (sent_left g)))

-- the capture of a port
abbrev pub made_bytes : Recipe → ℕ → List ℕ
made_bytes r port = capture_bytes (map record_of (at_port port (traffic r)))
