-- Keys from a solution, which has one bit for each numbered key bit.
use Rattle.std.specs.Prelude.{◌↔◌, ℕ, ◌+◌, ◌*◌, nat_lt, Bool, List, map, if◌then◌else◌, Option, Some, None}
use Rattle.std.specs.List.{range_with_len}
use Rattle.nf_base.specs.declared.card.Card.{Card}
use Rattle.nf_base.specs.declared.card.KeySize.{KeySize}
use Rattle.nf_base.specs.declared.card.TableSize.{TableSize}
use Rattle.nf_base.specs.Cards.{key_bytes}
use Rattle.nf_base.specs.declared.keys.Keys.{Keys}
use Rattle.toeplitz_hash.specs.DefaultKey.{default_key}
use Rattle.toeplitz_hash.specs.Bits.{number_of}
use Rattle.gf2_solve.specs.Sums.{bit}
use Rattle.gf2_solve.specs.Solutions.{IsAdmissible, IsNearest}
use Rattle.key_rows.specs.declared.place.Object.{Object}
use Rattle.key_rows.specs.Places.{AreAdmissibleForAll}
use Rattle.key_rows.specs.Keyed.{is_keyed}
use Rattle.key_rows.specs.Given.{AreSpreading, NoneMayBeGiven}
use Rattle.key_rows.specs.Rows.{bits_of}
use Rattle.key_rows.specs.Systems.{default_bits}

-- bit i of the key of a port of which so many bits count: the bits past these are 0
abbrev pub solution_bit : List Bool → ℕ → ℕ → ℕ → ℕ
solution_bit bits port count i =
    (if nat_lt i count then (if bit bits (319 * port + i) then 1 else 0) else 0)

-- byte i of it
abbrev pub byte_of : List Bool → ℕ → ℕ → ℕ → ℕ
byte_of bits port count i = number_of 8 (λ j. solution_bit bits port count (8 * i + j))

-- the key of a port, of a size
abbrev pub key_of : KeySize → List Bool → ℕ → ℕ → List ℕ
key_of size bits port count = map (byte_of bits port count) (range_with_len 0 (key_bytes size))

-- the same of a keyed port, and the default key of any other
abbrev pub given_key : KeySize → (ℕ → ℕ) → List Object → List Bool → ℕ → List ℕ
given_key size positions objects bits port =
    (if is_keyed objects port then key_of size bits port (positions port) else default_key size)

-- Bits that are nearest the default ones, of those whose keys are admissible and spread.
pub record IsNearestFor (ports : ℕ) (objects : List Object) (size : TableSize) (x : List Bool)
    : Type 0 where
  pub rows : List (List Bool)
  pub groups : List (List Bool)
  pub nearest : IsNearest (319 * ports) rows groups (default_bits ports) x
  pub exact : (keys : Keys) → IsAdmissible (319 * ports) rows groups (bits_of ports keys)
      ↔ (AreAdmissibleForAll keys objects × AreSpreading size objects keys)

-- the nearest bits, or none exactly where no admissible keys spread
abbrev pub IsSolved : ℕ → List Object → Card → Option (List Bool) → Type 0
IsSolved ports objects card None = NoneMayBeGiven ports objects card
IsSolved ports objects card (Some x) = IsNearestFor ports objects card.table x
