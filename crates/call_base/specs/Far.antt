-- How far a run came that was stopped once it had begun to create files.
use Rattle.std.specs.Prelude.{◌≡◌, ℕ, ◌+◌, ◌≤◌}
use Rattle.call_base.specs.declared.status.RunFile.{RunFile}
use Rattle.call_base.specs.declared.status.RunFile.TheVariants.{Nf, Capture, Journal, Output, OutJournal, State, Proof, Stdout, Stderr}
use Rattle.call_base.specs.declared.status.CallFault.{CallFault}
use Rattle.call_base.specs.declared.status.CallFault.TheVariants.{File, Memory}

-- How far a run of so many ports came that a file stopped: how many files were created, and how many of
-- these are whole. Captures are read once all but the state are created, the state is left where the run
-- has one, and standard output is written once the run has ended.
abbrev pub IsFarAt : Type 0 → Type 0 → ℕ → RunFile → (made full : ℕ) → Type 0
IsFarAt ended stated ports Nf made full = ⊥
IsFarAt ended stated ports (Capture port) made full = made ≡ ports + 1
IsFarAt ended stated ports Journal made full = ⊥
IsFarAt ended stated ports (Output port) made full = (port ≤ made) × (made ≤ ports + 1)
IsFarAt ended stated ports OutJournal made full = (ports ≤ made) × (made ≤ ports + 1)
IsFarAt ended stated ports State made full = (ports + 1 ≤ full) × stated
IsFarAt ended stated ports Proof made full = ⊥
IsFarAt ended stated ports Stdout made full = ended
IsFarAt ended stated ports Stderr made full = ⊥

abbrev pub IsFar : Type 0 → Type 0 → ℕ → CallFault → (made full : ℕ) → Type 0
IsFar ended stated ports (File file) made full = IsFarAt ended stated ports file made full
IsFar ended stated ports Memory made full = Unit {0}
