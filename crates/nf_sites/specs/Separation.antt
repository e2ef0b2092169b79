-- Separation: packets that meet have one hash.
use Rattle.std.specs.Prelude.{◌≡◌, ℕ, List, Option}
use Rattle.std.specs.Option.{option_map}
use Rattle.nf_base.specs.declared.packet.Door.{Door}
use Rattle.nf_base.specs.Families.{door_of}
use Rattle.nf_base.specs.declared.packet.Packet.{Packet}
use Rattle.nf_base.specs.declared.packet.Fields.{Fields}
use Rattle.nf_base.specs.Text.{Function}
use Rattle.nf_base.specs.Runs.{Handling, Report, Meet}
use Rattle.nf_base.specs.Hashed.{HasInput}
use Rattle.nf_sites.specs.Admissible.{IsAdmissibleBySites}

-- the hash of a handled packet, by its port
abbrev pub hash_of : (Door → Fields → ℕ) → Packet → Option ℕ
hash_of hash packet = option_map (λ fields. hash (door_of packet.id.port fields) fields) packet.fields

-- Two packets of a run that touch one location of a written object have one hash, up to and with
-- the first packet that has no step.
abbrev pub MeetingPacketsHashAlike : Type 0
MeetingPacketsHashAlike =
    (f : Function) (hash : Door → Fields → ℕ) (hs : List Handling) (a b : Report) →
    IsAdmissibleBySites f hash → HasInput a.packet → HasInput b.packet → Meet f hs a b →
    hash_of hash a.packet ≡ hash_of hash b.packet
