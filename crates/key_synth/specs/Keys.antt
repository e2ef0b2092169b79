-- Admissible keys of a function, and those that it is given.
use Rattle.std.specs.Prelude.{◌≡◌, ◌≢◌, ◌⊎◌, ℕ, ◌<◌, ◌≤◌, true, length, All, Contains, Option, Some, None, if◌then◌else◌}
use Rattle.nf_base.specs.declared.card.Card.{Card}
use Rattle.nf_base.specs.declared.card.TableSize.{TableSize}
use Rattle.nf_base.specs.Cards.{index_bits}
use Rattle.nf_base.specs.declared.keys.Keys.{Keys}
use Rattle.nf_base.specs.declared.packet.Family.{Family}
use Rattle.nf_base.specs.Doors.{six_ports, six_at}
use Rattle.nf_base.specs.Text.{Function}
use Rattle.nf_base.specs.Objects.{is_written}
use Rattle.nf_sites.specs.Sites.{Site}
use Rattle.nf_sites.specs.OnPaths.{sites_of}
use Rattle.nf_sites.specs.Admissible.{IsAdmissibleBySites}
use Rattle.toeplitz_hash.specs.DefaultKey.{default_key}
use Rattle.toeplitz_hash.specs.Packets.{key_at, hash_by}
use Rattle.key_rows.specs.Spread.{Spreads}
use Rattle.key_rows.specs.Given.{IsKey, default_bit, key_bit, AgreeBefore}

-- Keys are admissible where any two inputs that agree in each kept label at two sites of a written
-- object have equal hashes.
abbrev pub AreAdmissible : Function → Keys → Type 0
AreAdmissible f keys = IsAdmissibleBySites f (hash_by keys)

-- A port is keyed where it has a site of a written object.
pub record IsKeyed (f : Function) (port : ℕ) : Type 0 where
  pub site : Site
  pub among : Contains (sites_of f) site
  pub here : site.door.port ≡ port
  pub written : is_written f site.object ≡ true

-- and for a family where it has one for packets of it
pub record IsKeyedFor (f : Function) (family : Family) (port : ℕ) : Type 0 where
  pub site : Site
  pub among : Contains (sites_of f) site
  pub here : site.door.port ≡ port
  pub of : site.door.family ≡ family
  pub written : is_written f site.object ≡ true

-- Keys spread over a table where the key of each port gives packets of each family that it is keyed
-- for more than one table index.
pub record AreSpreading (f : Function) (size : TableSize) (keys : Keys) : Type 0 where
  pub each :
      (port : ℕ) (family : Family) → IsKeyedFor f family port
      → Spreads family (index_bits size) (key_at keys port)

-- admissible keys for a card that spread over its table, one for each port
pub record MayBeGiven (f : Function) (card : Card) (keys : Keys) : Type 0 where
  pub table : keys.table ≡ card.table
  pub count : length keys.ports ≡ length f.handlers
  pub whole : All (IsKey card.key) keys.ports
  pub admissible : AreAdmissible f keys
  pub spreading : AreSpreading f card.table keys

-- How many bits of the key of a port count: 319 where the port has a handler for IPv6, and 127 where
-- it has none.
abbrev pub positions : Function → ℕ → ℕ
positions f port = (if six_at (six_ports f) port then 319 else 127)

-- No admissible keys that spread and agree on all earlier bits have the default key's bit.
pub record IsOutOfReach (f : Function) (card : Card) (keys : Keys) (port i : ℕ) : Type 0 where
  pub none : (other : Keys) → MayBeGiven f card other → AgreeBefore (positions f) port i keys other
      → key_bit other port i ≢ default_bit card i

-- The given keys: ports in order and of each the bits that count in order, each bit is the default
-- key's unless that is out of reach. The bits past these are 0 in the key of a keyed port; the key
-- of any other port is the default key.
pub record AreGiven (f : Function) (card : Card) (keys : Keys) : Type 0 where
  pub may : MayBeGiven f card keys
  pub nearest : (port i : ℕ) → port < length f.handlers → i < positions f port
      → (key_bit keys port i ≡ default_bit card i) ⊎ IsOutOfReach f card keys port i
  pub past : (port i : ℕ) → port < length f.handlers → IsKeyed f port → positions f port ≤ i
      → key_bit keys port i ≡ 0
  pub unkeyed : (port : ℕ) → port < length f.handlers → (IsKeyed f port → ⊥)
      → key_at keys port ≡ default_key card.key

-- no admissible keys spread
pub record NoneMayBeGiven (f : Function) (card : Card) : Type 0 where
  pub none : (keys : Keys) → MayBeGiven f card keys → ⊥

-- the given keys, or none exactly where no admissible keys spread
abbrev pub AreAnswer : Function → Card → Option Keys → Type 0
AreAnswer f card None = NoneMayBeGiven f card
AreAnswer f card (Some keys) = AreGiven f card keys
