-- A checker's state: what it knows, and what is due.
use Rattle.std.specs.Prelude.{ℕ, ◌+◌, ◌<◌, ◌≤◌, Bool, true, false, List, [], ◌∷◌, All, Option, length}
use Rattle.certificate_laws.specs.declared.line.Span.{Span}
use Rattle.certificate_laws.specs.Due.{Due}
use Rattle.certificate_check.specs.declared.tasks.Task.{Task}
use Rattle.certificate_check.specs.Adding as adding
use Rattle.certificate_check.specs.Tasks.{due_of, IsWithin}

pub record Checking : Type 0 where
  pub rows : List (List ℕ)
  pub spans : List Span
  pub fixed : List (Option Bool)
  pub tasks : List Task

abbrev pub checking : List (List ℕ) → List Span → List (Option Bool) → List Task → Checking
checking rows spans fixed tasks = record { rows = rows; spans = spans; fixed = fixed; tasks = tasks }

-- how many bits there are
abbrev pub width : Checking → ℕ
width c = length c.fixed

-- what is due
abbrev pub due : Checking → List Due
due c = due_of c.fixed c.tasks

-- All places are below the number of bits.
pub record Fits (c : Checking) : Type 0 where
  pub few : width c ≤ 65536
  pub rows : adding.IsWithin (width c) c.rows
  pub spans : All (λ (s : Span). s.first + s.count ≤ width c) c.spans
  pub tasks : All (IsWithin (width c)) c.tasks

-- whether nothing is due
abbrev pub is_none_due : List Due → Bool
is_none_due [] = true
is_none_due (d ∷ due) = false
