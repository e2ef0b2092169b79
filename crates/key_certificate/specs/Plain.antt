-- The lines of a certificate in which all rows are listed.
use Rattle.std.specs.Prelude.{◌≡◌, ℕ, ◌+◌, ◌*◌, ◌/◌, ◌%◌, ◌<◌, ◌≤◌, ◌^◌, nat_lt, List, [], ◌∷◌, ◌++◌, All, Contains, length, map, Some, None, if◌then◌else◌}
use Rattle.nf_base.specs.declared.card.TableSize.{TableSize}
use Rattle.nf_base.specs.declared.card.Card.{Card}
use Rattle.nf_base.specs.Text.{Function}
use Rattle.shard_rules.specs.Served.{own_plan}
use Rattle.key_synth.specs.declared.verdict.Verdict.{Verdict}
use Rattle.key_synth.specs.declared.verdict.Verdict.TheVariants.{Sharded, Locked}
use Rattle.certificate_laws.specs.declared.line.Line.{Line}
use Rattle.certificate_laws.specs.declared.line.Line.TheVariants as line
use Rattle.certificate_laws.specs.declared.line.Named.{Named}
use Rattle.certificate_laws.specs.declared.line.Side.TheVariants.{First, Second}
use Rattle.certificate_laws.specs.declared.line.Span.{Span}
use Rattle.certificate_laws.specs.Terms.{rows_at}
use Rattle.certificate_laws.specs.Due.{Due, after_all}
use Rattle.certificate_laws.specs.Certificates.{spans_of}
use Rattle.certificate_text.specs.declared.heading.Heading.{Heading}
use Rattle.certificate_text.specs.declared.heading.Kind.{Kind}
use Rattle.certificate_text.specs.declared.heading.Kind.TheVariants as kind
use Rattle.certificate_write.specs.Texts.{line_text}
use Rattle.key_certificate.specs.Whole.{AreWhole}
use Rattle.certificate_text.specs.Pieces.{lines_of}
use Rattle.certificate_write.specs.Sayable.{IsShort, IsSayable}
use Rattle.certificate_prove.specs.Growing.{AreNameable}
use Rattle.key_proof.specs.Faults.{ports_of, subject_of, row_in, proof_fault, heading_of, first_wrong}
use Rattle.key_proof.specs.declared.numbered.Numbered.{Numbered}
use Rattle.key_proof.specs.Rows.{row_of, IsRowWithin}
use Rattle.key_certificate.specs.declared.listing.Listing.{Listing}

-- what a row of two sites may be named by, 18,432 names: a side, a bit of its input and one of the
-- hash
abbrev pub name_at : ℕ → ℕ → ℕ → Named
name_at first second m = record {
  first = first;
  second = second;
  side = (if nat_lt m 9216 then First else Second);
  input = (m / 32) % 288;
  result = m % 32;
}

-- names, each with its row
pub record AreListed (ports : ℕ) (sites : List Numbered) (listing : Listing) : Type 0 where
  pub same : map (row_of ports sites) listing.named ≡ map (λ row. Some row) listing.rows
  pub few : length listing.rows ≤ 2 ^ 32
  pub short : All IsShort listing.named
  pub within : All (IsRowWithin ports) listing.rows

-- nothing is struck off
pub record Keeps (old new : Listing) : Type 0 where
  pub each : (row : List ℕ) → Contains old.rows row → Contains new.rows row

-- the row of a name is listed, where there is one
pub record IsThere (ports : ℕ) (sites : List Numbered) (named : Named) (listing : Listing)
    : Type 0 where
  pub is : (row : List ℕ) → row_of ports sites named ≡ Some row → Contains listing.rows row

-- so are the rows of the first m names of two sites
pub record HasNames (ports : ℕ) (sites : List Numbered) (first second m : ℕ)
    (listing : Listing) : Type 0 where
  pub each : (j : ℕ) → j < m → IsThere ports sites (name_at first second j) listing

-- and of a site and the first so many
pub record HasPairs (ports : ℕ) (sites : List Numbered) (first count : ℕ) (listing : Listing)
    : Type 0 where
  pub each : (y : ℕ) → y < count → HasNames ports sites first y 18432 listing

-- and of the first so many and all sites
pub record HasSites (ports : ℕ) (sites : List Numbered) (count : ℕ) (listing : Listing)
    : Type 0 where
  pub each : (x : ℕ) → x < count → HasPairs ports sites x (length sites) listing

-- the lines that list rows
abbrev pub row_lines : List Named → List Line
row_lines named = map (λ n. line.Row n) named

-- the lines of the keys of ports from one on
abbrev pub key_lines : ℕ → List (List ℕ) → List Line
key_lines port [] = []
key_lines port (key ∷ keys) = line.Key port key ∷ key_lines (port + 1) keys

-- Lines, each of which has a text, are written behind others; behind them this is due in place of
-- that.
pub record Leads (table : TableSize) (positions : List ℕ) (rows : List (List ℕ))
    (spans : List Span) (due rest : List Due) (old new : List Line) : Type 0 where
  pub lines : List Line
  pub behind : new ≡ old ++ lines
  pub right : after_all (rows_at rows) spans due lines ≡ Some rest
  pub sayable : All (IsSayable table positions) lines

-- a text in which no line is wrong, and whose first line says this
pub record IsRightText (f : Function) (h : Heading) (text : List ℕ) : Type 0 where
  pub first : heading_of (lines_of text) ≡ Some h
  pub none : first_wrong f text ≡ None

-- what trees of a function rest on
pub record IsGround (f : Function) (table : TableSize) (rows : List (List ℕ))
    (spans : List Span) : Type 0 where
  pub nameable : AreNameable table (subject_of f).positions (319 * ports_of (subject_of f)) rows
      spans
  pub own : spans ≡ spans_of (own_plan f).objects table (ports_of (subject_of f))
  pub whole : AreWhole (ports_of (subject_of f)) (own_plan f).objects table (rows_at rows) spans

-- lines behind those of rows that are right, and the first of which lists no row
pub record AreRightBehind (f : Function) (h : Heading) (rows : List (List ℕ))
    (lines : List Line) : Type 0 where
  pub sayable : All (IsSayable h.card.table (subject_of f).positions) lines
  pub other : (l : Line) (more : List Line) → lines ≡ l ∷ more
      → row_in (subject_of f) (Some l) ≡ None
  pub none : (n : ℕ) → proof_fault (own_plan f).objects (subject_of f) h rows n
      (map line_text lines) ≡ None

-- what the first line of the certificate of a verdict says
abbrev pub kind_of : Verdict → Kind
kind_of (Sharded keys) = kind.Sharded
kind_of (Locked why) = kind.Locked

abbrev pub heading_for : Card → Verdict → Heading
heading_for card verdict = record { card = card; kind = kind_of verdict }
