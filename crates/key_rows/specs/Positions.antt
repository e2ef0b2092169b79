-- How many bits of the key of each port count.
use Rattle.std.specs.Prelude.{◌≡◌, ℕ, ◌<◌, ◌≤◌, ◌||◌, Bool, true, false, List, length, All, if◌then◌else◌}
use Rattle.nf_base.specs.declared.card.Card.{Card}
use Rattle.nf_base.specs.declared.keys.Keys.{Keys}
use Rattle.nf_base.specs.declared.packet.Family.{Family}
use Rattle.nf_base.specs.declared.packet.Family.TheVariants.{Four, Six}
use Rattle.nf_base.specs.Doors.{six_at}
use Rattle.toeplitz_hash.specs.DefaultKey.{default_key}
use Rattle.toeplitz_hash.specs.Packets as met
use Rattle.toeplitz_hash.specs.Packets.{key_at}
use Rattle.key_rows.specs.declared.place.Object.{Object}
use Rattle.key_rows.specs.Keyed.{is_keyed, is_keyed_for}
use Rattle.key_rows.specs.Given.{IsKey, key_bit, AreGiven}

-- As many as inputs meet: 319 where the port has a handler for IPv6, or a place for packets of it,
-- and 127 where it has neither.
abbrev pub positions_at : List Bool → List Object → ℕ → ℕ
positions_at six objects port =
    (if six_at six port || is_keyed_for objects Six port
    then met.positions Six
    else met.positions Four)

-- as many as a port's inputs meet, and 319 at most
pub record AreWithin (positions : ℕ → ℕ) (objects : List Object) : Type 0 where
  pub least :
      (port : ℕ) (family : Family) → is_keyed_for objects family port ≡ true
      → met.positions family ≤ positions port
  pub most : (port : ℕ) → positions port ≤ 319

-- Keys that are others up to each port's positions, and 0 past these where the port is keyed.
pub record AreCut (positions : ℕ → ℕ) (ports : ℕ) (objects : List Object) (card : Card)
    (keys cut : Keys) : Type 0 where
  pub table : cut.table ≡ card.table
  pub count : length cut.ports ≡ ports
  pub whole : All (IsKey card.key) cut.ports
  pub same : (port i : ℕ) → port < ports → i < positions port
      → key_bit cut port i ≡ key_bit keys port i
  pub past : (port i : ℕ) → port < ports → is_keyed objects port ≡ true → positions port ≤ i
      → key_bit cut port i ≡ 0
  pub unkeyed : (port : ℕ) → port < ports → is_keyed objects port ≡ false
      → key_at cut port ≡ default_key card.key

-- What is nearest in 319 bits of each key, cut, is nearest in the positions.
abbrev pub CutKeysAreGiven : Type 0
CutKeysAreGiven =
    (positions : ℕ → ℕ) (ports : ℕ) (objects : List Object) (card : Card) (keys cut : Keys) →
    AreWithin positions objects → AreGiven (λ port. 319) ports objects card keys →
    AreCut positions ports objects card keys cut → AreGiven positions ports objects card cut
