-- Files of which nothing is told but the number that the next opening gives.
use Rattle.std.specs.Prelude.{◌≡◌, ℕ, ◌+◌, ◌-◌, ◌≤◌, List, [], length, Option, Some, None, option_map, slice_get}
use Rattle.std.specs.Io.KnownBytes.{prepend_known}
use Rattle.nf_files.specs.declared.kind.Kind.{Kind}
use Rattle.nf_files.specs.declared.kind.Kind.TheVariants as good
use Rattle.nf_files.specs.declared.system_file.SystemFile.{SystemFile}
use Rattle.nf_files.specs.declared.system_file.SystemFile.TheVariants.{Input, Output}
use Rattle.nf_files.specs.Told.{Told}
use Rattle.nf_files.specs.Memory.{numbered}

-- what an opened file is good for
abbrev pub good_for : {F : Type 0} → SystemFile F → Kind
good_for (Input origin ahead) = good.Input
good_for (Output file) = good.Output

-- the same of a number that an opening or a creation gave
abbrev pub kind_at : {F : Type 0} → List (SystemFile F) → ℕ → Option Kind
kind_at files = numbered None None (λ k. option_map good_for (slice_get files k))

-- these files were opened
abbrev pub untold : {F : Type 0} → List (SystemFile F) → Told
untold files = record {
  content = λ n. None;
  rest = λ g. None;
  given = λ g. None;
  name = λ g. None;
  latest = λ n. None;
  kind = kind_at files;
  next = length files + 2;
}

-- the number of an opened file that is good for this
abbrev pub IsOf : {F : Type 0} → Kind → List (SystemFile F) → ℕ → Type 0
IsOf kind files g = (2 ≤ g) × (option_map good_for (slice_get files (g - 2)) ≡ Some kind)

-- the bytes of an opened file that are still to be read, where those of the system's are known
abbrev pub left_of : {F : Type 0} → (F → Option (List ℕ)) → Option (SystemFile F) → Option (List ℕ)
left_of remaining (Some (Input origin ahead)) = prepend_known ahead.buffer (remaining ahead.file)
left_of remaining (Some (Output file)) = None
left_of remaining None = None

-- the same of a number
abbrev pub left_at : {F : Type 0} → (F → Option (List ℕ)) → List (SystemFile F) → ℕ → Option (List ℕ)
left_at remaining files g = left_of remaining (slice_get files (g - 2))

-- those of them that were read ahead, and stand ready
abbrev pub ready_of : {F : Type 0} → Option (SystemFile F) → List ℕ
ready_of (Some (Input origin ahead)) = ahead.buffer
ready_of (Some (Output file)) = []
ready_of None = []

-- the same of a number
abbrev pub ready_at : {F : Type 0} → List (SystemFile F) → ℕ → List ℕ
ready_at files g = ready_of (slice_get files (g - 2))

-- the bytes that an opened file holds, where those of the system's are known
abbrev pub held_of : {F : Type 0} → (F → Option (List ℕ)) → Option (SystemFile F) → Option (List ℕ)
held_of contents (Some (Input origin ahead)) = None
held_of contents (Some (Output file)) = contents file
held_of contents None = None

-- the same of a number
abbrev pub held_at : {F : Type 0} → (F → Option (List ℕ)) → List (SystemFile F) → ℕ → Option (List ℕ)
held_at contents files g = held_of contents (slice_get files (g - 2))
