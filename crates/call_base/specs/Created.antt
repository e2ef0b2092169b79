-- What the files hold that a run leaves, and how far they came.
use Rattle.std.specs.Prelude.{◌≡◌, ◌≢◌, ℕ, ◌+◌, ◌<◌, ◌≤◌, List, [], length, Option, Some, None, nat_le, if◌then◌else◌}
use Rattle.capture_format.specs.declared.format.CaptureFormat.{CaptureFormat}
use Rattle.nf_base.specs.Text.{Function}
use Rattle.nf_base.specs.Runs.{RunResult}
use Rattle.nf_files.specs.Told.{Told, IsToldAs}
use Rattle.run_history.specs.StateText.{state_text}
use Rattle.stream_run.specs.Runs.{Run, course_of}
use Rattle.stream_run.specs.Texts.{file_bytes}
use Rattle.stream_run.specs.Writing.{IsFrontIfTold}

-- the text of the last state, where a run has one
abbrev pub text_of : Function → Option RunResult → List ℕ
text_of f None = []
text_of f (Some result) = state_text f result.state

-- the text of a run's last state
abbrev pub state_bytes : Run → List ℕ
state_bytes r = text_of r.function (course_of r)

-- What a run leaves in the files that it creates, from 0: the outputs, of this format, the journal, the state.
abbrev pub bytes_at : CaptureFormat → Run → ℕ → List ℕ
bytes_at format r k = if nat_le k (length r.function.handlers) then file_bytes format r k else state_bytes r

-- Where it is told under which number a name was created last, it is this number, and what stands
-- under the name is what was given to it.
abbrev pub IsStanding : Told → List ℕ → ℕ → Type 0
IsStanding told n file = (other : ℕ) → told.latest n ≡ Some other → (other ≡ file) × (told.content n ≡ told.given file)

-- How far the files of a run came, whose numbers begin at one: so many were created under their names
-- and stand there, and so many of these hold all of their bytes, the others a front of them. No other
-- name has changed.
pub record Left (before now : Told) (base : ℕ) (name bytes : ℕ → List ℕ) (made full : ℕ) : Type 0 where
  pub next : now.next ≡ base + made
  pub names : (k : ℕ) → k < made → IsToldAs (name k) (now.name (base + k))
  pub standing : (k : ℕ) → k < made → IsStanding now (name k) (base + k)
  pub fronts : (k : ℕ) → k < made → IsFrontIfTold (bytes k) (now.given (base + k))
  pub wholes : (k : ℕ) → k < full → IsToldAs (bytes k) (now.given (base + k))
  pub within : full ≤ made
  pub contents : (n : List ℕ) → ((k : ℕ) → k < made → name k ≢ n) → now.content n ≡ before.content n
