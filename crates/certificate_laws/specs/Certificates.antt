-- Certificates over the objects that packets share: why keys are the given ones, or why there are
-- none.
use Rattle.std.specs.Prelude.{◌≡◌, ℕ, zero, suc, ◌+◌, ◌-◌, ◌*◌, ◌/◌, ◌%◌, ◌<◌, ◌≤◌, ◌==◌, nat_lt, true, false, Bool, List, [], ◌∷◌, ◌++◌, length, map, All, Contains, if◌then◌else◌}
use Rattle.std.specs.List.{range_with_len}
use Rattle.nf_base.specs.declared.card.Card.{Card}
use Rattle.nf_base.specs.declared.card.TableSize.{TableSize}
use Rattle.nf_base.specs.declared.keys.Keys.{Keys}
use Rattle.nf_base.specs.declared.packet.Family.{Family}
use Rattle.nf_base.specs.declared.packet.Family.TheVariants.{Four, Six}
use Rattle.toeplitz_hash.specs.DefaultKey.{default_key}
use Rattle.toeplitz_hash.specs.Packets.{key_at}
use Rattle.gf2_solve.specs.Sums.{bit}
use Rattle.key_rows.specs.declared.place.Place.{Place}
use Rattle.key_rows.specs.declared.place.Object.{Object}
use Rattle.key_rows.specs.Places.{AreAdmissibleForAll}
use Rattle.key_rows.specs.Keyed.{is_keyed, is_keyed_for}
use Rattle.key_rows.specs.Classes.{end_at, class_of}
use Rattle.key_rows.specs.Rows.{IsWithin, Rows, bits_of}
use Rattle.key_rows.specs.Given.{IsKey, AreSpreading, AreGiven, NoneMayBeGiven, key_bit}
use Rattle.key_rows.specs.Systems.{default_bits, group_from, group_long}
use Rattle.certificate_laws.specs.Fixed.{none_fixed}
use Rattle.certificate_laws.specs.declared.line.Span.{Span}
use Rattle.certificate_laws.specs.Terms.{row_at, rows_at}
use Rattle.certificate_laws.specs.Trees.{Meets, IsRefuted}
use Rattle.certificate_laws.specs.Laws.{AreRefuted}

-- Of the bits of all keys, 319 a port, those count that are in the positions of their port.
abbrev pub counted : (ℕ → ℕ) → ℕ → List Bool
counted positions ports =
    map (λ m. nat_lt (m % 319) (positions (m / 319))) (range_with_len 0 (319 * ports))

-- two places of an object at the first so many ports, with fields for the same labels
pub record ArePlacesOf (ports : ℕ) (objects : List Object) (first second : Place) : Type 0 where
  pub object : Object
  pub among : Contains objects object
  pub first_there : Contains object.places first
  pub second_there : Contains object.places second
  pub first_port : first.port < ports
  pub second_port : second.port < ports
  pub tied : length first.known ≡ length second.known

-- The window of a field is what its bits meet of its port's key. Its bit u, which counts from the
-- window's end, is the key bit of this number.
abbrev pub place_number : Place → Place → ℕ → ℕ → ℕ
place_number first second n u =
    319 * (if nat_lt n 4 then first.port else second.port)
    + (end_at first.family second.family n + 30 - u)

-- bits u of the windows of the first so many of eight fields that are of class k
abbrev pub numbers_below : Place → Place → ℕ → ℕ → ℕ → List ℕ
numbers_below first second k u zero = []
numbers_below first second k u (suc n) =
    numbers_below first second k u n ++ (if class_of first.known second.known n == k
    then place_number first second n u ∷ [] else [])

-- A listed row adds up bits u of the windows of a class of two places' fields. It is the row of the
-- class of bit i of a field that ends behind bit e, and of result bit j, where u is e + 30 - i - j.
pub record IsListed (ports : ℕ) (objects : List Object) (row : List ℕ) : Type 0 where
  pub first : Place
  pub second : Place
  pub places : ArePlacesOf ports objects first second
  pub class : ℕ
  pub bit : ℕ
  pub class_there : class < 8
  pub bit_there : bit < 159
  pub whole : IsWithin first.family second.family (class_of first.known second.known) class bit
  pub is : row ≡ numbers_below first second class bit 8

-- the bits of the key of a port that meet the table index of packets of a family
abbrev pub span_of : TableSize → Family → ℕ → Span
span_of size family port =
    record { first = 319 * port + group_from size; count = group_long size family }

-- these, where the port is keyed for the family
abbrev pub span_if : List Object → TableSize → Family → ℕ → List Span
span_if objects size family port =
    (if is_keyed_for objects family port then span_of size family port ∷ [] else [])

-- those of the first so many ports
abbrev pub spans_of : List Object → TableSize → ℕ → List Span
spans_of objects size zero = []
spans_of objects size (suc port) =
    spans_of objects size port
    ++ (span_if objects size Four port ++ span_if objects size Six port)

-- that there are no keys
pub record IsLockedBy (ports : ℕ) (objects : List Object) (card : Card) (rows : List (List ℕ))
    : Type 0 where
  pub listed : All (IsListed ports objects) rows
  pub refuted : IsRefuted (rows_at rows) (spans_of objects card.table ports)
      (none_fixed (319 * ports))

-- Each row of each two places of an object sums to 0 at keys, whether it is listed or not.
pub record MeetAllRows (objects : List Object) (keys : Keys) : Type 0 where
  pub each : All (λ object. All (λ first. All (λ second.
      length first.known ≡ length second.known
      → Rows first.family second.family first.known second.known
      (key_at keys first.port) (key_at keys second.port))
      object.places) object.places) objects

-- keys that are right but for how near they are to the default one
pub record AreRight (positions : ℕ → ℕ) (ports : ℕ) (objects : List Object) (card : Card)
    (keys : Keys) : Type 0 where
  pub table : keys.table ≡ card.table
  pub count : length keys.ports ≡ ports
  pub whole : All (IsKey card.key) keys.ports
  pub admissible : MeetAllRows objects keys
  pub spreading : AreSpreading card.table objects keys
  pub past : (port i : ℕ) → port < ports → is_keyed objects port ≡ true → positions port ≤ i
      → key_bit keys port i ≡ 0
  pub unkeyed : (port : ℕ) → port < ports → is_keyed objects port ≡ false
      → key_at keys port ≡ default_key card.key

-- that keys are the given ones
pub record AreGivenBy (positions : ℕ → ℕ) (ports : ℕ) (objects : List Object) (card : Card)
    (rows : List (List ℕ)) (keys : Keys) : Type 0 where
  pub listed : All (IsListed ports objects) rows
  pub right : AreRight positions ports objects card keys
  pub nearest : AreRefuted (bit (counted positions ports)) (rows_at rows) (spans_of objects card.table ports)
      (319 * ports) (default_bits ports) (bits_of ports keys)

-- such certificates tell the truth
abbrev pub LockedIsLocked : Type 0
LockedIsLocked =
    (ports : ℕ) (objects : List Object) (card : Card) (rows : List (List ℕ)) →
    IsLockedBy ports objects card rows → NoneMayBeGiven ports objects card

abbrev pub GivenAreGiven : Type 0
GivenAreGiven =
    (positions : ℕ → ℕ) (ports : ℕ) (objects : List Object) (card : Card)
    (rows : List (List ℕ)) (keys : Keys) → ((port : ℕ) → positions port ≤ 319) →
    AreGivenBy positions ports objects card rows keys → AreGiven positions ports objects card keys
