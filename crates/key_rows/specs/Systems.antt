-- Systems whose solutions are the bits of keys.
use Rattle.std.specs.Prelude.{◌≡◌, ◌↔◌, ℕ, ◌+◌, ◌-◌, ◌*◌, ◌%◌, ◌<◌, ◌≤◌, ◌==◌, Bool, true, false, List, ◌++◌, map, length, replicate, All, slice_index_or}
use Rattle.std.specs.List.{range_with_len}
use Rattle.nf_base.specs.declared.card.TableSize.{TableSize}
use Rattle.nf_base.specs.Cards.{index_bits}
use Rattle.nf_base.specs.declared.keys.Keys.{Keys}
use Rattle.toeplitz_hash.specs.declared.key.TheConstants.{DEFAULT_KEY}
use Rattle.toeplitz_hash.specs.Bits.{bit_of}
use Rattle.gf2_solve.specs.Kept.{Kept, HasSolution, StandsFor}
use Rattle.gf2_solve.specs.Solutions.{Meets}
use Rattle.key_rows.specs.declared.place.Place.{Place}
use Rattle.key_rows.specs.declared.place.Object.{Object}
use Rattle.key_rows.specs.Places.{AgreeAt, AreAdmissibleForAll}
use Rattle.key_rows.specs.Given.{AreSpreading}
use Rattle.nf_base.specs.declared.packet.Family.{Family}
use Rattle.toeplitz_hash.specs.Packets.{key_at, positions}
use Rattle.key_rows.specs.Keyed.{is_keyed_for}
use Rattle.key_rows.specs.Spread.{Spreads}
use Rattle.key_rows.specs.Rows.{bits_of}

-- a system over the bits of the keys of so many ports
pub record IsOver (ports : ℕ) (system : Kept) : Type 0 where
  pub rows : List (List Bool)
  pub stands : StandsFor system (319 * ports) rows

-- The bits of keys solve a system.
abbrev pub Solve : ℕ → Kept → Keys → Type 0
Solve ports system keys = HasSolution system (bits_of ports keys)

-- The bits of keys solve the new system exactly where they solve the old one and something is so.
pub record Adds (ports : ℕ) (Fact : Keys → Type 0) (old new : Kept) : Type 0 where
  pub over : IsOver ports new
  pub exact : (keys : Keys) → Solve ports new keys ↔ (Solve ports old keys × Fact keys)

-- The bits of keys solve a system exactly where the keys are admissible.
pub record AreEquationsOf (ports : ℕ) (objects : List Object) (system : Kept) : Type 0 where
  pub over : IsOver ports system
  pub exact : (keys : Keys) → Solve ports system keys ↔ AreAdmissibleForAll keys objects

-- the places of two numbers agree
abbrev pub AgreeOn : Keys → List Place → ℕ → ℕ → Type 0
AgreeOn keys places i j =
    (d e : Place) → AgreeAt keys (slice_index_or places i d) (slice_index_or places j e)

-- A place agrees with itself and with each later one.
abbrev pub AgreeFrom : Keys → List Place → ℕ → Type 0
AgreeFrom keys places i = (j : ℕ) → j < length places → i ≤ j → AgreeOn keys places i j

-- the first bit of a key that meets the table index, which is the low bits of the hash: 25, or 23
abbrev pub group_from : TableSize → ℕ
group_from size = 32 - index_bits size

-- how many bits of a key do
abbrev pub group_long : TableSize → Family → ℕ
group_long size family = positions family - group_from size

-- these of the key of a port: bits 25 or 23 to 126 or 318
abbrev pub group_of : TableSize → Family → ℕ → List Bool
group_of size family port =
    replicate (319 * port + group_from size) false ++ replicate (group_long size family) true

-- one group more, where a port is keyed for a family
pub record AddsGroup (ports : ℕ) (objects : List Object) (size : TableSize) (family : Family)
    (port : ℕ) (old new : List (List Bool)) : Type 0 where
  pub exact : (keys : Keys) →
      (All (Meets (bits_of ports keys)) new)
      ↔ (All (Meets (bits_of ports keys)) old
      × (is_keyed_for objects family port ≡ true → Spreads family (index_bits size) (key_at keys port)))

-- The bits of keys have a 1 in each group exactly where the keys spread.
pub record AreGroupsOf (ports : ℕ) (objects : List Object) (size : TableSize)
    (groups : List (List Bool)) : Type 0 where
  pub exact : (keys : Keys) →
      (All (Meets (bits_of ports keys)) groups) ↔ AreSpreading size objects keys

-- the bits of the default key, once for each of so many ports
abbrev pub default_bits : ℕ → List Bool
default_bits ports = map (λ m. bit_of DEFAULT_KEY (m % 319) == 1) (range_with_len 0 (319 * ports))
