-- What the definitions say, as laws.
use Rattle.std.specs.Prelude.{◌≡◌, ◌↔◌, ℕ, ◌+◌, List, length, map}
use Rattle.nf_base.specs.declared.card.Card.{Card}
use Rattle.nf_base.specs.declared.keys.Keys.{Keys}
use Rattle.nf_base.specs.declared.packet.Family.{Family}
use Rattle.nf_base.specs.declared.hash_fields.Hashable.{Hashable}
use Rattle.nf_base.specs.Hashed.{number}
use Rattle.key_rows.specs.declared.place.Place.{Place}
use Rattle.key_rows.specs.declared.place.Object.{Object}
use Rattle.key_rows.specs.Places.{Agree, AgreeAt}
use Rattle.key_rows.specs.Given.{AreGiven}
use Rattle.key_rows.specs.Classes.{class_of}
use Rattle.key_rows.specs.Rows.{Rows}
pub use Rattle.key_rows.specs.Spread.{SpreadingKeysVary}

-- two places say the same in either order
abbrev pub PlacesAgreeInEitherOrder : Type 0
PlacesAgreeInEitherOrder = (keys : Keys) (first second : Place) →
    AgreeAt keys first second ↔ AgreeAt keys second first

-- two given keys are equal
abbrev pub GivenKeysAreOne : Type 0
GivenKeysAreOne =
    (positions : ℕ → ℕ) (ports : ℕ) (objects : List Object) (card : Card) (keys other : Keys) →
    AreGiven positions ports objects card keys → AreGiven positions ports objects card other →
    keys ≡ other

-- Keys agree on all tied inputs exactly where the windows of each class add up to 0.
abbrev pub RowsSayAllInputs : Type 0
RowsSayAllInputs = (f g : Family) (first second : List Hashable) (key other : List ℕ) →
    length first ≡ length second → Agree f g first second key other ↔ Rows f g first second key other

-- eight values, equal where a label says so
abbrev pub KeepTies : List Hashable → List Hashable → (ℕ → ℕ) → Type 0
KeepTies first second values =
    map (λ x. values (number x)) first ≡ map (λ y. values (4 + number y)) second

-- Fields of one class have equal values wherever the labels' fields have, and no other two do.
abbrev pub ClassesAreEqualFields : Type 0
ClassesAreEqualFields = (first second : List Hashable) → length first ≡ length second →
    (m n : ℕ) → (class_of first second m ≡ class_of first second n)
    ↔ ((values : ℕ → ℕ) → KeepTies first second values → values m ≡ values n)
