-- The given keys: of all admissible keys that spread, those nearest the default key.
use Rattle.std.specs.Prelude.{◌≡◌, ◌≢◌, ◌⊎◌, ℕ, ◌<◌, ◌≤◌, true, false, List, length, All, Option, Some, None}
use Rattle.nf_base.specs.declared.card.Card.{Card}
use Rattle.nf_base.specs.declared.card.KeySize.{KeySize}
use Rattle.nf_base.specs.declared.card.TableSize.{TableSize}
use Rattle.nf_base.specs.Cards.{index_bits, key_bytes}
use Rattle.nf_base.specs.declared.keys.Keys.{Keys}
use Rattle.nf_base.specs.declared.packet.Family.{Family}
use Rattle.toeplitz_hash.specs.DefaultKey.{default_key}
use Rattle.toeplitz_hash.specs.Bits.{bit_of}
use Rattle.toeplitz_hash.specs.Packets.{key_at}
use Rattle.key_rows.specs.declared.place.Object.{Object}
use Rattle.key_rows.specs.Places.{AreAdmissibleForAll}
use Rattle.key_rows.specs.Keyed.{is_keyed, is_keyed_for}
use Rattle.key_rows.specs.Spread.{Spreads}

-- a key of a size: 40 or 52 bytes
pub record IsKey (size : KeySize) (key : List ℕ) : Type 0 where
  pub long : length key ≡ key_bytes size
  pub bytes : All (λ b. b < 256) key

-- Keys spread over a table where the key of each port does for each family that it is keyed for.
pub record AreSpreading (size : TableSize) (objects : List Object) (keys : Keys) : Type 0 where
  pub each :
      (port : ℕ) (family : Family) → is_keyed_for objects family port ≡ true
      → Spreads family (index_bits size) (key_at keys port)

-- admissible keys for a card that spread over its table, one for each of so many ports
pub record MayBeGiven (ports : ℕ) (objects : List Object) (card : Card) (keys : Keys)
    : Type 0 where
  pub table : keys.table ≡ card.table
  pub count : length keys.ports ≡ ports
  pub whole : All (IsKey card.key) keys.ports
  pub admissible : AreAdmissibleForAll keys objects
  pub spreading : AreSpreading card.table objects keys

-- a bit of a card's default key
abbrev pub default_bit : Card → ℕ → ℕ
default_bit card i = bit_of (default_key card.key) i

-- a bit of the key of a port
abbrev pub key_bit : Keys → ℕ → ℕ → ℕ
key_bit keys port i = bit_of (key_at keys port) i

-- Of the key of each port so many bits count: its positions are those from 0 on. Keys agree on all
-- of these before one, the ports read in order, and of each key its positions.
pub record AgreeBefore (positions : ℕ → ℕ) (port i : ℕ) (keys other : Keys) : Type 0 where
  pub earlier_ports :
      (q j : ℕ) → q < port → j < positions q → key_bit keys q j ≡ key_bit other q j
  pub earlier_bits : (j : ℕ) → j < i → key_bit keys port j ≡ key_bit other port j

-- No admissible keys that spread and agree on all earlier bits have the default key's bit.
pub record IsOutOfReach (positions : ℕ → ℕ) (ports : ℕ) (objects : List Object) (card : Card)
    (keys : Keys) (port i : ℕ) : Type 0 where
  pub none : (other : Keys) → MayBeGiven ports objects card other
      → AgreeBefore positions port i keys other → key_bit other port i ≢ default_bit card i

-- Each bit in the positions of a port is the default key's unless that is out of reach. The bits
-- past these are 0 in the key of a keyed port; the key of any other port is the default key.
pub record AreGiven (positions : ℕ → ℕ) (ports : ℕ) (objects : List Object) (card : Card)
    (keys : Keys) : Type 0 where
  pub may : MayBeGiven ports objects card keys
  pub nearest : (port i : ℕ) → port < ports → i < positions port
      → (key_bit keys port i ≡ default_bit card i)
      ⊎ IsOutOfReach positions ports objects card keys port i
  pub past : (port i : ℕ) → port < ports → is_keyed objects port ≡ true → positions port ≤ i
      → key_bit keys port i ≡ 0
  pub unkeyed : (port : ℕ) → port < ports → is_keyed objects port ≡ false
      → key_at keys port ≡ default_key card.key

-- no admissible keys spread
pub record NoneMayBeGiven (ports : ℕ) (objects : List Object) (card : Card) : Type 0 where
  pub none : (keys : Keys) → MayBeGiven ports objects card keys → ⊥

-- the given keys, or none exactly where no admissible keys spread
abbrev pub AreAnswer : (ℕ → ℕ) → ℕ → List Object → Card → Option Keys → Type 0
AreAnswer positions ports objects card None = NoneMayBeGiven ports objects card
AreAnswer positions ports objects card (Some keys) = AreGiven positions ports objects card keys
