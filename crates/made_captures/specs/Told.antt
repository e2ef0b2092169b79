-- What is told of files beside which captures are made.
use Rattle.std.specs.Prelude.{ℕ, zero, suc, ◌+◌, ◌-◌, ◌^◌, ◌<◌, ◌≡◌, Bool, List, Option, Some, None, nat_lt, if◌then◌else◌}
use Rattle.std.proofs.Common.{ap, ◌∙◌, cond, arith}
use Rattle.std.proofs.lemmas.Bool.{lt-ltb}
use Rattle.nf_files.specs.Told.{Told}
use Rattle.made_captures.specs.Captures.{left_at}

-- this, or where there is none the other
abbrev pub first_of : {A : Type 0} → Option A → Option A → Option A
first_of (Some x) other = Some x
first_of None other = other

-- from number 2^32 on, which no file has: first a mark, and behind that the others' names
abbrev pub names_beyond : List ℕ → (ℕ → Option (List ℕ)) → ℕ → Option (List ℕ)
names_beyond mark name zero = Some mark
names_beyond mark name (suc k) = name (2 ^ 32 + k)

-- The names of files, and at a number that no file has, a mark. So what keeps all names keeps the mark.
abbrev pub names_of : List ℕ → (ℕ → Option (List ℕ)) → ℕ → Option (List ℕ)
names_of mark name g = if nat_lt g (2 ^ 32) then name g else names_beyond mark name (g - 2 ^ 32)

-- standard output and standard error stand under no name then either
pub standard_named : (mark : List ℕ) (name : ℕ → Option (List ℕ)) → ((g : ℕ) → g < 2 → name g ≡ None) → (g : ℕ) → g < 2 → names_of mark name g ≡ None
standard_named mark name none g lt = ap (λ (b : Bool). cond b (name g) (names_beyond mark name (g - 2 ^ 32))) (lt-ltb g (2 ^ 32) (omega (arith, lt))) ∙ none g lt

-- the files that are told, with a mark, and captures of which so much is left
abbrev pub with_made : List (List ℕ) → List ℕ → Told → Told
with_made captures mark told = record {
  content = told.content;
  rest = λ g. first_of (left_at captures g) (told.rest g);
  given = told.given;
  name = names_of mark told.name;
  latest = told.latest;
  kind = told.kind;
  next = told.next;
}
