-- Which keys are admissible for objects. It speaks of all inputs, and not of equations.
use Rattle.std.specs.Prelude.{◌≡◌, ℕ, ◌+◌, ◌<◌, ◌^◌, List, All, map}
use Rattle.nf_base.specs.declared.keys.Keys.{Keys}
use Rattle.nf_base.specs.declared.packet.Fields.{Fields}
use Rattle.nf_base.specs.declared.hash_fields.Hashable.{Hashable}
use Rattle.nf_base.specs.Hashed.{address_width, width, value}
use Rattle.nf_base.specs.declared.packet.Family.{Family}
use Rattle.nf_base.specs.Families.{family_of}
use Rattle.toeplitz_hash.specs.Toeplitz.{toeplitz_of}
use Rattle.toeplitz_hash.specs.Packets.{input_bytes, key_at}
use Rattle.key_rows.specs.declared.place.Place.{Place}
use Rattle.key_rows.specs.declared.place.Object.{Object}

-- For each label the field of one input is that of the other.
abbrev pub AreTied : List Hashable → List Hashable → Fields → Fields → Type 0
AreTied first second p q = map (value p) first ≡ map (value q) second

-- fields of a family, within their widths
pub record IsInputOf (family : Family) (fields : Fields) : Type 0 where
  pub of : family_of fields ≡ family
  pub within : (h : Hashable) → value fields h < 2 ^ width family h

-- how many bits an input of a family has
abbrev pub input_bits : Family → ℕ
input_bits f = address_width f + address_width f + 16 + 16

-- All tied inputs of two families have equal hashes, each under its own key.
pub record Agree (f g : Family) (first second : List Hashable) (key other : List ℕ) : Type 0 where
  pub hashes : (p q : Fields) → IsInputOf f p → IsInputOf g q → AreTied first second p q
      → toeplitz_of key (input_bytes p) ≡ toeplitz_of other (input_bytes q)

-- so it is at two places, each with the key of its port
abbrev pub AgreeAt : Keys → Place → Place → Type 0
AgreeAt keys first second =
    Agree first.family second.family first.known second.known
    (key_at keys first.port) (key_at keys second.port)

-- any two places of an object, which may be one
abbrev pub AreAdmissible : Keys → List Place → Type 0
AreAdmissible keys places = All (λ first. All (AgreeAt keys first) places) places

-- so it is with each object
abbrev pub AreAdmissibleForAll : Keys → List Object → Type 0
AreAdmissibleForAll keys objects = All (λ object. AreAdmissible keys object.places) objects
