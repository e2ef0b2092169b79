-- Rows and spans that leave nothing out.
use Rattle.std.specs.Prelude.{◌≡◌, ℕ, ◌*◌, ◌≤◌, false, Bool, List, All}
use Rattle.nf_base.specs.declared.card.Card.{Card}
use Rattle.nf_base.specs.declared.card.TableSize.{TableSize}
use Rattle.nf_base.specs.declared.keys.Keys.{Keys}
use Rattle.gf2_solve.specs.Sums.{bit, sum_of}
use Rattle.key_rows.specs.declared.place.Object.{Object}
use Rattle.key_rows.specs.Places.{AreAdmissibleForAll}
use Rattle.key_rows.specs.Given.{AreSpreading, AreGiven, NoneMayBeGiven}
use Rattle.key_rows.specs.Rows.{bits_of}
use Rattle.key_rows.specs.Systems.{default_bits}
use Rattle.certificate_laws.specs.declared.line.Span.{Span}
use Rattle.certificate_laws.specs.Fixed.{none_fixed}
use Rattle.certificate_laws.specs.Trees.{Meets, IsRefuted}
use Rattle.certificate_laws.specs.Laws.{AreRefuted}
use Rattle.certificate_laws.specs.Certificates.{counted}

-- Keys at whose bits each row sums to 0 are admissible, and keys whose bits meet each span spread.
pub record AreWhole (ports : ℕ) (objects : List Object) (size : TableSize)
    (rows : List (List Bool)) (spans : List Span) : Type 0 where
  pub admissible : (keys : Keys) → All (λ row. sum_of row (bits_of ports keys) ≡ false) rows
      → AreAdmissibleForAll keys objects
  pub spreading : (keys : Keys) → All (Meets (bits_of ports keys)) spans
      → AreSpreading size objects keys

-- Where no keys may be given, such rows and spans are refuted.
abbrev pub LockedIsRefuted : Type 0
LockedIsRefuted =
    (ports : ℕ) (objects : List Object) (card : Card) (rows : List (List Bool))
    (spans : List Span) → AreWhole ports objects card.table rows spans
    → NoneMayBeGiven ports objects card → IsRefuted rows spans (none_fixed (319 * ports))

-- Where keys are given, the default key's bit is refuted wherever it counts and they have the
-- other.
abbrev pub GivenAreRefuted : Type 0
GivenAreRefuted =
    (positions : ℕ → ℕ) (ports : ℕ) (objects : List Object) (card : Card)
    (rows : List (List Bool)) (spans : List Span) (keys : Keys)
    → ((port : ℕ) → positions port ≤ 319) → AreWhole ports objects card.table rows spans
    → AreGiven positions ports objects card keys
    → AreRefuted (bit (counted positions ports)) rows spans (319 * ports) (default_bits ports)
    (bits_of ports keys)
