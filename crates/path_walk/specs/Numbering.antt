-- Numbered tests: one number for each text.
use Rattle.std.specs.Prelude.{◌≡◌, ◌<◌, ℕ, List, ◌++◌, length, map, get_or, Option, Some, Contains}
use Rattle.std.proofs.Common.{Vec, Global}
use Rattle.nf_base.specs.Text.{Number}
use Rattle.path_walk.specs.declared.test.Sign.TheVariants.{Equal}
use Rattle.path_walk.specs.declared.line.Line.{Line}
use Rattle.path_walk.specs.declared.line.Line.TheVariants as line
use Rattle.path_walk.specs.Tests.{TestText, test_tokens}
use Rattle.path_walk.specs.declared.numbering.Texts.{Texts}
use Rattle.path_walk.specs.Seen.{line_map, text_seen}
use Rattle.std.specs.BTreeMap.{get_by}
use Rattle.std.specs.Ordering.{nat_cmp}
use Rattle.std.specs.Cmp.Lexicographic.{slice_cmp}

-- what stands past the last text
abbrev pub no_text : TestText
no_text = record { sign = Equal; left = Number 0; right = Number 0 }

-- the text of a number
abbrev pub text_at : List TestText → ℕ → TestText
text_at texts n = get_or texts n no_text

-- no text has two numbers
pub record AreApart (texts : List TestText) : Type 0 where
  pub one : (i j : ℕ) → i < length texts → j < length texts → text_at texts i ≡ text_at texts j → i ≡ j

-- whether a line's test has one of so many numbers
abbrev pub HasNumber : ℕ → Line ℕ → Type 0
HasNumber count line.Stop = Unit {0}
HasNumber count (line.Free hit miss) = Unit {0}
HasNumber count (line.Test n exchanged hit miss) = n < count
HasNumber count (line.Make made taken full) = Unit {0}

-- lines with a number for each test's text
pub record AreNumbered (lines : List (Line TestText)) (texts : List TestText) (numbered : List (Line ℕ)) : Type 0 where
  pub same : map (line_map (text_at texts)) numbered ≡ lines
  pub within : (l : Line ℕ) → Contains numbered l → HasNumber (length texts) l

-- a search by tokens finds the numbers of these texts, one each
pub record Finds (find : Vec ℕ Global → Option ℕ) (texts : List TestText) : Type 0 where
  pub found : (key : Vec ℕ Global) (n : ℕ) → find key ≡ Some n → (n < length texts) × (test_tokens (text_at texts n) ≡ key.items)
  pub kept : (key : Vec ℕ Global) (n : ℕ) → n < length texts → key.items ≡ test_tokens (text_at texts n) → find key ≡ Some n
  pub apart : AreApart texts

-- a text has a number, among texts that stand behind others
pub record IsNumber (old new : List TestText) (text : TestText) (n : ℕ) : Type 0 where
  pub more : List TestText
  pub behind : new ≡ old ++ more
  pub within : n < length new
  pub at : text_at new n ≡ text

-- a line with the number of its test's text, among texts that stand behind others
pub record IsLineNumbered (old new : List TestText) (l : Line TestText) (numbered : Line ℕ) : Type 0 where
  pub more : List TestText
  pub behind : new ≡ old ++ more
  pub same : line_map (text_at new) numbered ≡ l
  pub within : HasNumber (length new) numbered

abbrev pub texts_seen : Texts → List TestText
texts_seen t = map text_seen t.list.items

-- the map of these texts finds their numbers
abbrev pub FindsAll : Texts → Type 0
FindsAll t = Finds (λ key. get_by (λ k. slice_cmp nat_cmp key.items k.items) t.numbers) (texts_seen t)
