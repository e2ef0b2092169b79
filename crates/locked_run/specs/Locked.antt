-- A run in mode `lock`: workers that share the tables handle the packets of their own ports.
use Rattle.std.specs.Prelude.{◌≡◌, ◌⊎◌, ℕ}
use Rattle.stream_run.specs.Rules.{Rule, lone_rule, lock_rule}

-- The rule of so many workers that share the tables; where the gate to these refused, that of one
-- for them all.
abbrev pub IsDue : ℕ → Type 0 → Rule → Type 0
IsDue workers Refused rule = (rule ≡ lock_rule workers) ⊎ (Refused × (rule ≡ lone_rule workers))
