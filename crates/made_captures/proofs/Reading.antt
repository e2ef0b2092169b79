-- What is read of a capture, and what is left.
use Rattle.std.proofs.Common.{◌≡◌, ℕ, List, [], ◌∷◌, ◌++◌, length, take, drop, map, refl, sym, ap, ◌∙◌, append_assoc, arith}
use Rattle.std.specs.List.{flat_map}
use Rattle.std.proofs.lemmas.List.{take-append-drop}
use Rattle.nf_base.specs.declared.packet.Packet.{Packet}
use Rattle.gen_traffic.specs.Traffic.{Giving}
use Rattle.pcap_file.specs.Record.{record_at}
use Rattle.pcap_file.specs.Spelled.{written_bytes}
use Rattle.made_captures.specs.Records.{record_of, at_port, sent_left, bytes_left}

-- a front was given of a piece with more behind it
pub front_given : (piece out new rest : List ℕ) (n : ℕ) → take n out ≡ take n piece → new ≡ drop n piece → piece ++ rest ≡ take n out ++ (new ++ rest)
front_given piece out new rest n e f =
    ap (λ (t : List ℕ). t ++ rest) (sym (take-append-drop n piece))
    ∙ append_assoc (take n piece) (drop n piece) rest
    ∙ ap (λ (t : List ℕ). t ++ (drop n piece ++ rest)) (sym e)
    ∙ ap (λ (t : List ℕ). take n out ++ (t ++ rest)) (sym f)

-- the record of the packet that comes next stands in front of what is left
pub next_record : (port : ℕ) (old new : Giving) (sent : Packet × List ℕ) → at_port port (sent_left old) ≡ sent ∷ at_port port (sent_left new) → bytes_left port old ≡ written_bytes (record_of sent) ++ bytes_left port new
next_record port old new sent e = ap (λ (sents : List (Packet × List ℕ)). flat_map written_bytes (map record_of sents)) e

pub none_next : (port : ℕ) (g : Giving) → at_port port (sent_left g) ≡ [] → bytes_left port g ≡ []
none_next port g e = ap (λ (sents : List (Packet × List ℕ)). flat_map written_bytes (map record_of sents)) e

pub is_none : (xs : List ℕ) → length xs ≡ 0 → xs ≡ []
is_none [] e = refl
is_none (x ∷ xs) e = absurd (omega arith)

long_record : (sent : Packet × List ℕ) → length sent.1 ≡ 42 → written_bytes (record_of sent) ≡ written_bytes (record_at sent.0.time 42 sent.1)
long_record sent e = ap (λ (n : ℕ). written_bytes (record_at sent.0.time n sent.1)) e

-- the next record was made, and a front of it was given
pub record_given : (port : ℕ) (old new : Giving) (sent : Packet × List ℕ) (now piece made out left : List ℕ) (n : ℕ) → piece ++ bytes_left port old ≡ now → piece ≡ [] → at_port port (sent_left old) ≡ sent ∷ at_port port (sent_left new) → length sent.1 ≡ 42
    → made ≡ written_bytes (record_at sent.0.time 42 sent.1) → take n out ≡ take n made → left ≡ drop n made → now ≡ take n out ++ (left ++ bytes_left port new)
record_given port old new sent now piece made out left n view none next long is e f =
    sym view
    ∙ ap (λ (t : List ℕ). t ++ bytes_left port old) none
    ∙ next_record port old new sent next
    ∙ ap (λ (t : List ℕ). t ++ bytes_left port new) (long_record sent long ∙ sym is)
    ∙ front_given made out left (bytes_left port new) n e f
