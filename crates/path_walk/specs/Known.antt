-- What the tests of a path so far say, by the numbers of their texts.
use Rattle.std.specs.Prelude.{◌≡◌, ◌<◌, ℕ, Bool, true, false, ◌==◌, ◌||◌, not, is_some, List, map, get_or, slice_set, replicate, Option, Some, None, if◌then◌else◌}
use Rattle.nf_base.specs.declared.packet.Field.{Field}
use Rattle.path_walk.specs.declared.known.Known.{Known}
use Rattle.path_walk.specs.declared.known.Mark.{Mark}
use Rattle.path_walk.specs.declared.known.Mark.TheVariants.{Unknown, Fails, Holds}
use Rattle.path_walk.specs.declared.test.FieldIs.{FieldIs}
use Rattle.path_walk.specs.declared.numbering.Numbered.{Numbered}
use Rattle.path_walk.specs.Tests.{TestText, field_number}
use Rattle.path_walk.specs.Feasible.{equals_of}
use Rattle.path_walk.specs.Seen.{text_seen}
use Rattle.path_walk.specs.Numbering.{text_at}

-- how each text went, and the number that each field is known to be
pub record Marks : Type 0 where
  pub marks : List (Option Bool)
  pub numbers : List (Option ℕ)

abbrev pub mark_seen : Mark → Option Bool
mark_seen Unknown = None
mark_seen Fails = Some false
mark_seen Holds = Some true

abbrev pub known_seen : Known → Marks
known_seen k = record { marks = map mark_seen k.marks.items; numbers = k.numbers.items }

-- nothing is known of so many texts
abbrev pub nothing_known : ℕ → Marks
nothing_known texts = record { marks = replicate texts None; numbers = replicate 12 None }

abbrev pub mark_at : Marks → ℕ → Option Bool
mark_at m n = get_or m.marks n None

abbrev pub number_at : Marks → Field → Option ℕ
number_at m field = get_or m.numbers (field_number field) None

-- whether this is a number, and another one
abbrev pub is_other : Option ℕ → ℕ → Bool
is_other None n = false
is_other (Some m) n = not (m == n)

-- whether a field is known to be another number
abbrev pub excludes : Option FieldIs → Marks → Bool
excludes None m = false
excludes (Some x) m = is_other (number_at m x.field) x.number

abbrev pub with_number : Option FieldIs → List (Option ℕ) → List (Option ℕ)
with_number None numbers = numbers
with_number (Some x) numbers = slice_set numbers (field_number x.field) (Some x.number)

-- after a test of this number went so
abbrev pub told_mark : Marks → ℕ → Option FieldIs → Bool → Marks
told_mark m n equals holds = record {
  marks = slice_set m.marks n (Some holds);
  numbers = if holds then with_number equals m.numbers else m.numbers;
}

-- beside the texts stands what each says where it is `field == number`
abbrev pub HasEquals : Numbered → Type 0
HasEquals n = n.equals.items ≡ map equals_of (map text_seen n.texts.items)

-- whether a text can go one way alone: it went so, or its field is known to be another number
abbrev pub is_told : List TestText → Marks → ℕ → Bool
is_told texts m n = is_some (mark_at m n) || excludes (equals_of (text_at texts n)) m

-- and so can the first so many
pub record AreTold (texts : List TestText) (m : Marks) (count : ℕ) : Type 0 where
  pub each : (n : ℕ) → n < count → is_told texts m n ≡ true
