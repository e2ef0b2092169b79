-- Lines that are written for a tree.
use Rattle.std.specs.Prelude.{◌≡◌, ℕ, suc, ◌+◌, ◌<◌, ◌≤◌, ◌^◌, Bool, true, false, List, [], ◌∷◌, ◌++◌, All, length, map, Option, Some, None, slice_index_or}
use Rattle.nf_base.specs.declared.card.TableSize.{TableSize}
use Rattle.certificate_laws.specs.declared.line.Line.{Line}
use Rattle.certificate_laws.specs.declared.line.Term.{Term}
use Rattle.certificate_laws.specs.declared.line.Term.TheVariants.{Row, Bit}
use Rattle.certificate_laws.specs.declared.line.Span.{Span}
use Rattle.certificate_laws.specs.Fixed.{fixed_at, is_fixed}
use Rattle.certificate_laws.specs.Terms.{is_sum, rows_at}
use Rattle.certificate_laws.specs.Trees.{zeros_of}
use Rattle.certificate_laws.specs.Due.{Due, Whole, after_all}
use Rattle.certificate_laws.specs.Leaves.{zero_sums}
use Rattle.certificate_check.specs.Adding.{IsWithin}
use Rattle.certificate_write.specs.Sayable.{IsPlace, IsSpanHere, IsSayable}

-- each bit of a span is at a position of its port
pub record IsSpanCounted (positions : List ℕ) (span : Span) : Type 0 where
  pub each : (i : ℕ) → i < span.count → IsPlace positions (span.first + i)

-- Rows and spans over n bits that a certificate for a table of a size can name: of keys of which so
-- many bits count, they speak of those alone.
pub record AreNameable (table : TableSize) (positions : List ℕ) (n : ℕ) (rows : List (List ℕ))
    (spans : List Span) : Type 0 where
  pub few : n ≤ 65536
  pub count : length rows ≤ 2 ^ 32
  pub each_row : IsWithin n rows
  pub counted : All (λ row. All (IsPlace positions) row) rows
  pub each_span : All (λ (s : Span). s.first + s.count ≤ n) spans
  pub spread : All (IsSpanCounted positions) spans
  pub here : All (IsSpanHere table (length positions)) spans

-- lines that are right where a tree is due
pub record AreTaken (rows : List (List ℕ)) (spans : List Span) (fixed : List (Option Bool))
    (lines : List Line) : Type 0 where
  pub taken : (due : List Due)
      → after_all (rows_at rows) spans (Whole fixed ∷ due) lines ≡ Some due

-- such lines, each of which has a text, are written behind others
pub record Writes (table : TableSize) (positions : List ℕ) (rows : List (List ℕ))
    (spans : List Span) (fixed : List (Option Bool)) (old new : List Line) : Type 0 where
  pub lines : List Line
  pub behind : new ≡ old ++ lines
  pub right : AreTaken rows spans fixed lines
  pub sayable : All (IsSayable table positions) lines

-- a row, and its bits
abbrev pub row_terms : ℕ → List ℕ → List Term
row_terms k row = Row k ∷ map (λ place. Bit place) row

-- none of the first n rows clashes by itself
pub record NoRow (rows : List (List ℕ)) (fixed : List (Option Bool)) (n : ℕ) : Type 0 where
  pub none : (k : ℕ) → k < n
      → is_sum (rows_at rows) fixed (row_terms k (slice_index_or rows k [])) [] true ≡ false

abbrev pub no_span : Span
no_span = record { first = 0; count = 0 }

-- whether a span is 0 bit by bit
abbrev pub is_zero_span : List (List ℕ) → List (Option Bool) → Span → Bool
is_zero_span rows fixed span =
    zeros_of (rows_at rows) fixed span (zero_sums span.count span.first)

-- none of the first n spans is
pub record NoSpan (rows : List (List ℕ)) (spans : List Span) (fixed : List (Option Bool))
    (n : ℕ) : Type 0 where
  pub none : (s : ℕ) → s < n → is_zero_span rows fixed (slice_index_or spans s no_span) ≡ false

-- how many bits are open
abbrev pub open_count : List (Option Bool) → ℕ
open_count [] = 0
open_count (None ∷ fixed) = suc (open_count fixed)
open_count (Some b ∷ fixed) = open_count fixed

-- those of the first n bits that count are fixed
pub record AllFixed (positions : List ℕ) (fixed : List (Option Bool)) (n : ℕ) : Type 0 where
  pub each : (i : ℕ) → i < n → IsPlace positions i → is_fixed (fixed_at fixed i) ≡ true
