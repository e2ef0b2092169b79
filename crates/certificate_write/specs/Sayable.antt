-- Lines that have a text.
use Rattle.std.specs.Prelude.{◌≡◌, ℕ, ◌/◌, ◌%◌, ◌<◌, ◌^◌, List, All, length, slice_index_or}
use Rattle.nf_base.specs.declared.card.KeySize.{KeySize}
use Rattle.nf_base.specs.declared.card.TableSize.{TableSize}
use Rattle.nf_base.specs.declared.packet.Family.{Family}
use Rattle.key_rows.specs.Given.{IsKey}
use Rattle.certificate_laws.specs.declared.line.Term.{Term}
use Rattle.certificate_laws.specs.declared.line.Term.TheVariants.{Row, Bit}
use Rattle.certificate_laws.specs.declared.line.Named.{Named}
use Rattle.certificate_laws.specs.declared.line.Span.{Span}
use Rattle.certificate_laws.specs.declared.line.Line.{Line}
use Rattle.certificate_laws.specs.declared.line.Line.TheVariants as line
use Rattle.certificate_laws.specs.Certificates.{span_of}

-- a bit at one of the positions of its port
abbrev pub IsPlace : List ℕ → ℕ → Type 0
IsPlace positions place = place % 319 < slice_index_or positions (place / 319) 0

abbrev pub IsTerm : List ℕ → Term → Type 0
IsTerm positions (Row k) = k < 2 ^ 32
IsTerm positions (Bit place) = IsPlace positions place

-- numbers of 32 bits
pub record IsShort (named : Named) : Type 0 where
  pub first : named.first < 2 ^ 32
  pub second : named.second < 2 ^ 32
  pub input : named.input < 2 ^ 32
  pub result : named.result < 2 ^ 32

-- a key of some size, and the number of a port
pub record IsKeyLine (port : ℕ) (key : List ℕ) : Type 0 where
  pub size : KeySize
  pub whole : IsKey size key
  pub small : port < 2 ^ 32

-- the span of a port and a family
pub record IsSpanHere (table : TableSize) (ports : ℕ) (span : Span) : Type 0 where
  pub family : Family
  pub port : ℕ
  pub there : port < ports
  pub is : span ≡ span_of table family port

-- a line for a table of a size, and for ports of whose keys so many bits count
abbrev pub IsSayable : TableSize → List ℕ → Line → Type 0
IsSayable table positions (line.Row named) = IsShort named
IsSayable table positions (line.Key port key) = IsKeyLine port key
IsSayable table positions (line.Not place) = IsPlace positions place
IsSayable table positions (line.Split place) = IsPlace positions place
IsSayable table positions line.Clash = Unit {0}
IsSayable table positions (line.Zero span) = IsSpanHere table (length positions) span
IsSayable table positions (line.Sum terms) = All (IsTerm positions) terms
