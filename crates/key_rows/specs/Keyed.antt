-- The ports at which objects have places.
use Rattle.std.specs.Prelude.{ℕ, ◌<◌, ◌==◌, ◌&&◌, nat_lt, Bool, List, All}
use Rattle.std.specs.List.{list_any, list_all}
use Rattle.nf_base.specs.declared.packet.Family.{Family}
use Rattle.nf_base.specs.declared.packet.Family.TheVariants.{Four, Six}
use Rattle.key_rows.specs.declared.place.Place.{Place}
use Rattle.key_rows.specs.declared.place.Object.{Object}

-- whether a place is at a port
abbrev pub is_at : ℕ → Place → Bool
is_at port place = place.port == port

-- the version of IP as a number
abbrev pub version : Family → ℕ
version Four = 4
version Six = 6

-- whether a place is at a port, for packets of a family
abbrev pub is_for : Family → ℕ → Place → Bool
is_for family port place = version place.family == version family && place.port == port

-- A port is keyed for a family where some object has a place there for packets of it.
abbrev pub is_keyed_for : List Object → Family → ℕ → Bool
is_keyed_for objects family port =
    list_any (λ object. list_any (is_for family port) object.places) objects

-- A port is keyed where some object has a place there.
abbrev pub is_keyed : List Object → ℕ → Bool
is_keyed objects port = list_any (λ object. list_any (is_at port) object.places) objects

-- whether a place is at one of the first so many ports
abbrev pub is_before : ℕ → Place → Bool
is_before ports place = nat_lt place.port ports

-- whether all places are
abbrev pub are_at_ports : ℕ → List Object → Bool
are_at_ports ports objects = list_all (λ object. list_all (is_before ports) object.places) objects

-- the same as a fact, of the places of an object
abbrev pub AreAtPorts : ℕ → List Place → Type 0
AreAtPorts ports places = All (λ place. place.port < ports) places
