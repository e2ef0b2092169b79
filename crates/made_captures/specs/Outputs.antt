-- How many bytes the outputs of a run were given, and what is told of files while they are counted.
use Rattle.std.specs.Prelude.{ℕ, zero, suc, ◌+◌, ◌-◌, ◌%◌, ◌^◌, ◌<◌, ◌≡◌, Bool, true, false, List, [], ◌∷◌, length, Option, Some, None, option_map, nat_le, nat_lt, nat_eq, if◌then◌else◌, refl}
use Rattle.nf_files.specs.Told.{Told}
use Rattle.nf_files.specs.Causes.{Counted}
use Rattle.nf_files.specs.declared.kind.Kind.{Kind}
use Rattle.nf_files.specs.declared.kind.Kind.TheVariants.{Input, Output}
use Rattle.made_captures.specs.Captures.{left_at}
use Rattle.made_captures.specs.Told.{first_of, with_made}

-- So many files from a number on are outputs, the journal is the next one behind them, and the outputs
-- were given so many bytes, modulo 2^64.
pub record Counting : Type 0 where
  pub first : ℕ
  pub count : ℕ
  pub bytes : ℕ

-- the number of the journal
abbrev pub journal_of : Counting → ℕ
journal_of c = c.first + c.count

abbrev pub is_output : Counting → ℕ → Bool
is_output c file = if nat_le c.first file then nat_lt file (c.first + c.count) else false

-- a file was given so many bytes more
abbrev pub with_bytes : Counting → ℕ → ℕ → Counting
with_bytes c file n = record {
  first = c.first;
  count = c.count;
  bytes = if is_output c file then (c.bytes + n) % 2 ^ 64 else c.bytes;
}

-- the sum of two numbers that are told
abbrev pub sum_of : Option ℕ → Option ℕ → Option ℕ
sum_of (Some a) (Some b) = Some (a + b)
sum_of (Some a) None = None
sum_of None b = None

-- how many bytes so many files from a number on were given, where that is told of each
abbrev pub bytes_from : (ℕ → Option (List ℕ)) → ℕ → ℕ → Option ℕ
bytes_from given first zero = Some 0
bytes_from given first (suc n) = sum_of (option_map (λ (bytes : List ℕ). length bytes) (given first)) (bytes_from given (first + 1) n)

-- a number is this one, modulo 2^64, where it is told
abbrev pub is_right : Option ℕ → ℕ → Bool
is_right None bytes = true
is_right (Some n) bytes = nat_eq (n % 2 ^ 64) bytes

-- the outputs were given as many bytes as were counted, where that is told
abbrev pub counts_right : Counting → Told → Bool
counts_right c told = is_right (bytes_from told.given c.first c.count) c.bytes

-- no file past the journal was the first to fail
abbrev pub is_known : ℕ → Option ℕ → Bool
is_known last None = true
is_known last (Some file) = nat_le file last

-- What is told where this is so, and else nothing but the number that the next opening gives.
abbrev pub told_if : Bool → Told → Told
told_if true told = told
told_if false told = record {
  content = λ n. None;
  rest = λ g. None;
  given = λ g. None;
  name = λ g. None;
  latest = λ n. None;
  kind = λ g. None;
  next = told.next;
}

abbrev pub flag : Bool → ℕ
flag true = 1
flag false = 0

-- a mark by which it is kept which files these are, which of them the outputs are, whether the count of
-- their bytes is right, and whether the file that failed first is known
abbrev pub mark_of : ℕ → Bool → Bool → ℕ → ℕ → List ℕ
mark_of which right known first count = which ∷ flag right ∷ flag known ∷ first ∷ count ∷ []

-- it is written, or nothing is told
abbrev pub if_written : Option Kind → Option Kind
if_written (Some Output) = Some Output
if_written (Some Input) = None
if_written None = None

-- Of a number: made captures are read. Of the files none is read, and those are written that don't stand
-- behind a number.
abbrev pub kind_beside : List (List ℕ) → ℕ → (ℕ → Option Kind) → ℕ → Option Kind
kind_beside captures last kind g =
    first_of (option_map (λ (left : List ℕ). Input) (left_at captures g)) (if nat_le g last then if_written (kind g) else None)

-- The kinds of numbers; from number 2^32 on, which no file has, those of the files. So what keeps all
-- kinds keeps those of the files.
abbrev pub kinds_beside : List (List ℕ) → ℕ → (ℕ → Option Kind) → ℕ → Option Kind
kinds_beside captures last kind g =
    if nat_lt g (2 ^ 32) then kind_beside captures last kind g else kind (g - 2 ^ 32)

-- what is told, with the kinds of numbers beside made captures
abbrev pub with_kinds : List (List ℕ) → ℕ → (ℕ → Option Kind) → Told → Told
with_kinds captures last kind told = record {
  content = told.content;
  rest = told.rest;
  given = told.given;
  name = told.name;
  latest = told.latest;
  kind = kinds_beside captures last kind;
  next = told.next;
}

-- What is told of files and made captures beside them, where the bytes of the outputs are counted: it is
-- what is told of the files, while the count is right. So what keeps all names keeps the count right.
abbrev pub told_beside : List (List ℕ) → ℕ → Counting → Told → Counted → Told
told_beside captures which c told counted =
    let right = counts_right c told in
    let known = is_known (journal_of c) counted.first in
    with_kinds captures (journal_of c) told.kind (with_made captures (mark_of which right known c.first c.count) (told_if right told))

-- Standard output and standard error stand under no name then either.
pub standard_if : (right : Bool) (told : Told) → ((g : ℕ) → g < 2 → told.name g ≡ None) → (g : ℕ) → g < 2 → (told_if right told).name g ≡ None
standard_if true told none g lt = none g lt
standard_if false told none g lt = refl
