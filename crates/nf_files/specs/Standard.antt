-- The two standard outputs.
use Rattle.std.proofs.Common.{ℕ, zero, suc, ◌<◌, arith}
use Rattle.nf_files.specs.Memory.{numbered}

-- what holds of both holds below number 2
pub of_standard : {A : Type 0} (output errors : A) (opened : ℕ → A) (P : A → Type 0) (g : ℕ) → g < 2 → P output → P errors → P (numbered output errors opened g)
of_standard output errors opened P zero lt o e = o
of_standard output errors opened P (suc zero) lt o e = e
of_standard output errors opened P (suc (suc k)) lt o e = absurd (omega (arith, lt))
